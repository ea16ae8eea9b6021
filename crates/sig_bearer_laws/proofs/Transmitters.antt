-- The bearers that bytes of a transmitter's settings say: each was told apart from those that were read before it.
use Rattle.std.proofs.Common.{◌≡◌, ap, subst, ℕ, List, ◌∷◌}
use Rattle.std.specs.Prelude.{Ok, bytes_eq, codes, map}
use Rattle.std.specs.List.{IsDistinct}
use Rattle.serde_json.specs.Data.{Data}
use Rattle.sig_terms.specs.declared.rules.Client.{Client}
use Rattle.sig_terms.specs.declared.rules.Rules.{Rules}
use Rattle.sig_settings.specs.Keys.{key_at}
use Rattle.sig_settings.specs.Members.{needed, optional}
use Rattle.sig_settings.specs.Objects.{settings_of}
use Rattle.sig_settings.specs.Places.{place_at}
use Rattle.sig_settings.specs.Texts.{bearer_at, filled_at, text_at}
use Rattle.sig_settings.proofs.Steps.{ok_same, stepped}
use Rattle.sig_txsettings.specs.declared.settings.TxSettings.{TxSettings}
use Rattle.sig_txsettings.specs.Clients.{bearer_of, clients_at, clients_in, have_own_bearers}
use Rattle.sig_txsettings.specs.Settings.{rules_in, tx_settings_in, tx_settings_of}
use Rattle.sig_txsettings.specs.Values.{defaults_at, interval_at}
use Rattle.sig_txroutes.proofs.AskLemmas.{clients_ask_for_themselves, operators_ask_for_themselves}
use Rattle.sig_bearer_laws.specs.Transmitters.{BearersDiffer, CallersAreApart, ClientsAskForThemselves, OperatorsAskForThemselves, bearers_in}
use Rattle.sig_bearer_laws.proofs.Once.{each_once, items_once, none_first, one_item}

-- ---- what is read

clients_once : (operator : List ℕ) (d : Data) (clients : List Client) → clients_in operator d ≡ Ok clients → IsDistinct bytes_eq (operator ∷ map bearer_of clients)
unfolding clients_in
clients_once operator d clients h =
    let (all, has_all, h1) = stepped (needed clients_at (codes "clients") d) _ clients h in
    let (own, has_own, h2) = stepped (have_own_bearers operator all) _ clients h1 in
    subst (λ (l : List Client). IsDistinct bytes_eq (operator ∷ map bearer_of l)) (ok_same all clients h2) (items_once bearer_of (codes "clients") operator all own has_own)

rules_once : (issuer base : List ℕ) (d : Data) (rules : Rules) → rules_in issuer base d ≡ Ok rules → IsDistinct bytes_eq (bearers_in rules)
rules_once issuer base d rules h =
    let (operator, has_operator, h1) = stepped (needed bearer_at (codes "operator") d) _ rules h in
    let (defaults, has_defaults, h2) = stepped (needed defaults_at (codes "default_subjects") d) _ rules h1 in
    let (interval, has_interval, h3) = stepped (needed interval_at (codes "min_verification_interval") d) _ rules h2 in
    let (key, has_key, h4) = stepped (needed key_at (codes "key") d) _ rules h3 in
    let (clients, has_clients, h5) = stepped (clients_in operator d) _ rules h4 in
    let (gateway, has_gateway, h6) = stepped (optional place_at (codes "tls_gateway") d) _ rules h5 in
    subst (λ (r : Rules). IsDistinct bytes_eq (bearers_in r)) (ok_same _ rules h6) (clients_once operator d clients has_clients)

object_once : (d : Data) (s : TxSettings) → tx_settings_in d ≡ Ok s → IsDistinct bytes_eq (bearers_in s.rules)
object_once d s h =
    let (issuer, has_issuer, h1) = stepped (needed filled_at (codes "issuer") d) _ s h in
    let (base, has_base, h2) = stepped (needed text_at (codes "base") d) _ s h1 in
    let (listen, has_listen, h3) = stepped (needed place_at (codes "listen") d) _ s h2 in
    let (rules, has_rules, h4) = stepped (rules_in issuer base d) _ s h3 in
    subst (λ (t : TxSettings). IsDistinct bytes_eq (bearers_in t.rules)) (ok_same _ s h4) (rules_once issuer base d rules has_rules)

settings_once : (bytes : List ℕ) (s : TxSettings) → tx_settings_of bytes ≡ Ok s → IsDistinct bytes_eq (bearers_in s.rules)
unfolding tx_settings_of
settings_once bytes s h =
    let (d, is, rest) = stepped (settings_of bytes) tx_settings_in s h in
    object_once d s rest

pub bearers_differ : BearersDiffer
bearers_differ bytes s h = each_once (bearers_in s.rules) (settings_once bytes s h)

pub callers_are_apart : CallersAreApart
callers_are_apart bytes s h = record {
  clients = λ c d c_in d_in same. ap (λ (x : Client). x.name) (one_item bearer_of s.rules.operator s.rules.clients c d (bearers_differ bytes s h) c_in d_in same);
  operator = λ c inside same. none_first bearer_of s.rules.operator s.rules.clients c (bearers_differ bytes s h) inside same;
}

-- ---- whose calls requests make

pub clients_for_themselves : ClientsAskForThemselves
clients_for_themselves bytes s request c asked h inside shown asks = clients_ask_for_themselves request s.rules c asked (callers_are_apart bytes s h) inside shown asks

pub operators_for_themselves : OperatorsAskForThemselves
operators_for_themselves bytes s request asked h shown asks = operators_ask_for_themselves request s.rules asked (callers_are_apart bytes s h) shown asks
