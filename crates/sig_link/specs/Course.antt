-- What comes of a request, and of what follows it.
use Rattle.std.specs.Prelude.{◌≡◌, ℕ, List, [], ◌∷◌, ◌++◌, Bool, false, Ok, Err}
use Rattle.sig_http.specs.declared.message.Request.{Request}
use Rattle.sig_links.specs.Views.{SideView}
use Rattle.sig_link.specs.Meaning.{Meaning}
use Rattle.sig_link.specs.declared.course.Course.{Course}
use Rattle.sig_link.specs.declared.course.Course.TheVariants.{Refused, Turned}

-- the turn of a request, where it made one
abbrev pub own_turn : {Turn : Type 0} → Course Turn → List Turn
own_turn (Refused refusal) = []
own_turn (Turned turn) = turn ∷ []

module _ {Rules Call Turn Told : Type 0} (m : Meaning Rules Call Turn Told) where
  -- these turns were made: a log is longer by just them, and so is what the taker tells
  pub record Adds (more turns turns' : List Turn) (told told' : Told) : Type 0 where
    pub log : turns' ≡ turns ++ more
    pub taker : m.Grew told told' more

  module _ (rules : Rules) where
    -- the routes refuse it so, and the side is as before; or it made the turn of the call that it asks
    abbrev pub Comes : ℕ → Request → Course Turn → SideView → SideView → Type 0
    Comes link request (Refused refusal) old new = (m.asked request rules ≡ Err refusal) × (new ≡ old)
    Comes link request (Turned turn) old new = (call : Call) × (m.asked request rules ≡ Ok call) × m.Makes link call turn old new

    -- nothing follows a refusal; and a turn is followed as its end has it
    abbrev pub IsFollowed : Course Turn → List Turn → Bool → SideView → SideView → Type 0
    IsFollowed (Refused refusal) more starved old new = (more ≡ []) × (starved ≡ false) × (new ≡ old)
    IsFollowed (Turned turn) more starved old new = m.Follows rules turn more starved old new

    -- the turn of a request stands in the log, where it made one, and then the turns that follow it, which the taker tells too
    pub record Continues (course : Course Turn) (starved : Bool) (turns turns' : List Turn) (told told' : Told) (old new : SideView) : Type 0 where
      pub more : List Turn
      pub log : turns' ≡ turns ++ (own_turn course ++ more)
      pub taker : m.Grew told told' more
      pub follows : IsFollowed course more starved old new
