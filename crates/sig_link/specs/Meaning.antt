-- What an end is to the links that it serves: the call of a request, the turn of a call, its response, and what follows it.
use Rattle.std.specs.Prelude.{ℕ, List, [], ◌++◌, Bool, Result}
use Rattle.sig_http.specs.declared.fault.HttpRefusal.{HttpRefusal}
use Rattle.sig_http.specs.declared.message.Request.{Request}
use Rattle.sig_http.specs.declared.message.Response.{Response}
use Rattle.sig_links.specs.Views.{SideView}

-- an end that answers by such rules, makes such turns of such calls, and whose taker tells so much
pub record Meaning (Rules Call Turn Told : Type 0) : Type 1 where
  -- the call that a request makes, or why the routes refuse it
  pub asked : Request → Rules → Result Call HttpRefusal
  -- a link of this number made this turn of a call, and did so to the side
  pub Makes : ℕ → Call → Turn → SideView → SideView → Type 0
  -- what a call does to the side that is refused memory
  pub Tries : SideView → SideView → Type 0
  -- what the taker tells is longer by just these turns
  pub Grew : Told → Told → List Turn → Type 0
  -- a response to a turn, which may tell beside it what was counted
  pub Responds : Rules → Turn → Response → Type 0
  -- these turns follow a turn whose response was written whole, and do so to the side; and memory runs out then, or not
  pub Follows : Rules → Turn → List Turn → Bool → SideView → SideView → Type 0

-- turns are told one part after another
pub record Grows {Turn Told : Type 0} (Grew : Told → Told → List Turn → Type 0) : Type 0 where
  pub none : (told : Told) → Grew told told []
  pub on : (a b c : Told) (xs ys : List Turn) → Grew a b xs → Grew b c ys → Grew a c (xs ++ ys)
