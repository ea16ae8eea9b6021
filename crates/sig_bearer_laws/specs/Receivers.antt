-- The callers of a receiver, by the bearers of its settings: no caller is taken for another (RFC 6750, section 1).
use Rattle.std.specs.Prelude.{◌≡◌, ℕ, List, [], ◌∷◌, ◌++◌, map, Contains, Option, Some, None, Ok, ⊤}
use Rattle.sig_http.specs.declared.message.Request.{Request}
use Rattle.sig_rxnode.specs.declared.call.RxCall.{RxCall}
use Rattle.sig_rxnode.specs.declared.call.RxCall.TheVariants.{Token, Verdict, Rows, Figures}
use Rattle.sig_rxnode.specs.declared.rules.Peer.{Peer}
use Rattle.sig_rxnode.specs.declared.rules.Principal.{Principal}
use Rattle.sig_rxnode.specs.declared.rules.RxRules.{RxRules}
use Rattle.sig_rxsettings.specs.Principals.{bearer_of}
use Rattle.sig_rxsettings.specs.Settings.{rx_settings_of}
use Rattle.sig_rxsettings.specs.declared.settings.RxSettings.{RxSettings}
use Rattle.sig_rxroutes.specs.Calls.{call_of}
use Rattle.sig_rxroutes.specs.Laws.{AreApart}
use Rattle.sig_bearer_laws.specs.Bearers.{EachOnce}

-- ---- what is read

-- the bearer that is shown to the peer, where there is one
abbrev pub bearers_shown : Option Peer → List (List ℕ)
bearers_shown None = []
bearers_shown (Some peer) = peer.bearer ∷ []

-- all bearers of a receiver's settings: the reader's, those of the principals and the peer's
abbrev pub bearers_in : RxRules → List (List ℕ)
bearers_in rules = rules.reader ∷ map bearer_of rules.principals ++ bearers_shown rules.peer

-- of what bytes say, all bearers differ
abbrev pub BearersDiffer : Type 0
BearersDiffer = (bytes : List ℕ) (s : RxSettings) → rx_settings_of bytes ≡ Ok s → EachOnce (bearers_in s.rules)

-- and so principals with one bearer speak for one issuer, which is what the laws of the routes ask of rules
abbrev pub CallersAreApart : Type 0
CallersAreApart = (bytes : List ℕ) (s : RxSettings) → rx_settings_of bytes ≡ Ok s → AreApart s.rules

-- none of these principals has the reader's bearer, and the peer is shown neither the reader's nor a principal's
pub record HaveTheirOwn (rules : RxRules) : Type 0 where
  pub principals : (p : Principal) → Contains rules.principals p → p.bearer ≡ rules.reader → ⊥
  pub reader : (peer : Peer) → rules.peer ≡ Some peer → peer.bearer ≡ rules.reader → ⊥
  pub peers : (peer : Peer) (p : Principal) → rules.peer ≡ Some peer → Contains rules.principals p → peer.bearer ≡ p.bearer → ⊥

abbrev pub BearersAreOnesOwn : Type 0
BearersAreOnesOwn = (bytes : List ℕ) (s : RxSettings) → rx_settings_of bytes ≡ Ok s → HaveTheirOwn s.rules

-- ---- what requests ask

-- a push for this issuer, or for none, and no other call
abbrev pub IsPush : Option (List ℕ) → RxCall → Type 0
IsPush issuer (Token principal named bytes) = principal ≡ issuer
IsPush issuer (Verdict subject) = ⊥
IsPush issuer (Rows from) = ⊥
IsPush issuer Figures = ⊥

-- a push for no issuer, or another call
abbrev pub SpeaksForNobody : RxCall → Type 0
SpeaksForNobody (Token principal named bytes) = principal ≡ None
SpeaksForNobody (Verdict subject) = ⊤
SpeaksForNobody (Rows from) = ⊤
SpeaksForNobody Figures = ⊤

-- with a principal's bearer a request pushes for the issuer of this principal, and does nothing else
abbrev pub PrincipalsPushForThemselves : Type 0
PrincipalsPushForThemselves = (bytes : List ℕ) (s : RxSettings) (request : Request) (p : Principal) (asked : RxCall)
    → rx_settings_of bytes ≡ Ok s → Contains s.rules.principals p → request.bearer ≡ Some p.bearer
    → call_of request s.rules ≡ Ok asked → IsPush (Some p.iss) asked

-- with the reader's it speaks for no issuer, whatever it asks
abbrev pub ReadersSpeakForNobody : Type 0
ReadersSpeakForNobody = (bytes : List ℕ) (s : RxSettings) (request : Request) (asked : RxCall)
    → rx_settings_of bytes ≡ Ok s → request.bearer ≡ Some s.rules.reader
    → call_of request s.rules ≡ Ok asked → SpeaksForNobody asked

-- and with the one that the peer is shown it pushes for no issuer, and does nothing else
abbrev pub PeersAskNothing : Type 0
PeersAskNothing = (bytes : List ℕ) (s : RxSettings) (request : Request) (peer : Peer) (asked : RxCall)
    → rx_settings_of bytes ≡ Ok s → s.rules.peer ≡ Some peer → request.bearer ≡ Some peer.bearer
    → call_of request s.rules ≡ Ok asked → IsPush None asked
