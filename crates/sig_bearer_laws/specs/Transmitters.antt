-- The callers of a transmitter, by the bearers of its settings: no caller is taken for another (RFC 6750, section 1).
use Rattle.std.specs.Prelude.{◌≡◌, ℕ, List, ◌∷◌, map, Contains, Some, Ok}
use Rattle.sig_http.specs.declared.message.Request.{Request}
use Rattle.sig_terms.specs.declared.call.Call.{Call}
use Rattle.sig_terms.specs.declared.rules.Client.{Client}
use Rattle.sig_terms.specs.declared.rules.Rules.{Rules}
use Rattle.sig_txsettings.specs.Clients.{bearer_of}
use Rattle.sig_txsettings.specs.Settings.{tx_settings_of}
use Rattle.sig_txsettings.specs.declared.settings.TxSettings.{TxSettings}
use Rattle.sig_txroutes.specs.Calls.{call_of}
use Rattle.sig_txroutes.specs.Laws.{AreApart, IsOf, Named, Operator, asker_of}
use Rattle.sig_bearer_laws.specs.Bearers.{EachOnce}

-- ---- what is read

-- all bearers of a transmitter's settings: the operator's and those of the clients
abbrev pub bearers_in : Rules → List (List ℕ)
bearers_in rules = rules.operator ∷ map bearer_of rules.clients

-- of what bytes say, all bearers differ
abbrev pub BearersDiffer : Type 0
BearersDiffer = (bytes : List ℕ) (s : TxSettings) → tx_settings_of bytes ≡ Ok s → EachOnce (bearers_in s.rules)

-- and so each is one client's or the operator's, which is what the laws of the routes ask of rules
abbrev pub CallersAreApart : Type 0
CallersAreApart = (bytes : List ℕ) (s : TxSettings) → tx_settings_of bytes ≡ Ok s → AreApart s.rules

-- ---- whose calls requests make

-- with a client's bearer a request makes calls of this client, or anybody's
abbrev pub ClientsAskForThemselves : Type 0
ClientsAskForThemselves = (bytes : List ℕ) (s : TxSettings) (request : Request) (c : Client) (asked : Call)
    → tx_settings_of bytes ≡ Ok s → Contains s.rules.clients c → request.bearer ≡ Some c.bearer
    → call_of request s.rules ≡ Ok asked → IsOf (Named c.name) (asker_of asked)

-- and with the operator's the operator's, or anybody's
abbrev pub OperatorsAskForThemselves : Type 0
OperatorsAskForThemselves = (bytes : List ℕ) (s : TxSettings) (request : Request) (asked : Call)
    → tx_settings_of bytes ≡ Ok s → request.bearer ≡ Some s.rules.operator
    → call_of request s.rules ≡ Ok asked → IsOf Operator (asker_of asked)
