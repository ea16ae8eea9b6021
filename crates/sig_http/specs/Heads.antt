-- What the reader of a head section answers.
use Rattle.std.specs.Prelude.{◌≡◌, ℕ, List, [], Option, Some, None}
use Rattle.sig_http.specs.Faults.{OnJudged}
use Rattle.sig_http.specs.Message.{Kind}
use Rattle.sig_http.specs.declared.framing.Framing.{Framing}
use Rattle.sig_http.specs.declared.fault.HttpFault.{HttpFault}
use Rattle.sig_http.specs.declared.fault.HttpFault.TheVariants as faults

-- the section begins with a head without fault, of which these are the message without its body and the framing
pub record Opens {M H : Type 0} (Finds : List ℕ → Option H → Type 0) (kind : Kind M H) (section : List ℕ) (message : M) (framing : Framing) : Type 0 where
  pub head : H
  pub found : Finds section (Some head)
  pub whole : kind.fault head ≡ None
  pub message_is : message ≡ kind.message head []
  pub framing_is : framing ≡ kind.framing head

-- the fault of a section with this head or with none
abbrev pub head_fault : {M H : Type 0} → Kind M H → Option H → Option HttpFault
head_fault kind None = Some faults.Head
head_fault kind (Some head) = kind.fault head

-- the section has this fault
abbrev pub RefusesHead : {M H : Type 0} → (List ℕ → Option H → Type 0) → Kind M H → List ℕ → HttpFault → Type 0
RefusesHead {H = H} Finds kind section fault = OnJudged fault ((found : Option H) × Finds section found × (head_fault kind found ≡ Some fault))
