-- What is read of a text are rules that a transmitter may have: what JSON spells is UTF-8, and clients have names.
use Rattle.std.proofs.Common.{◌≡◌, ◌∙◌, ap, sym, subst, ℕ, ◌+◌, List, [], ◌∷◌, Bool, true, false, Option, Some, None, refl}
use Rattle.std.specs.Prelude.{Result, Ok, Err, IfOk, ok_or, option_and_then, ◌&&◌, if◌then◌else◌, IsUtf8, codes, length, nat_le}
use Rattle.std.specs.List.{list_all}
use Rattle.std.specs.Str.{is_utf8}
use Rattle.std.proofs.lemmas.Str.{is_utf8-from_IsUtf8}
use Rattle.serde_json.specs.Data.{Data, null, boolean, number, string, array, object, Items, no_items, item}
use Rattle.serde_json.specs.Find.{as_array, as_str}
use Rattle.sig_json.specs.declared.limits.TheConstants.{SETTINGS_BYTES}
use Rattle.sig_json.specs.Answers.{Answers}
use Rattle.sig_json.specs.Json.{json_of, member_of, object_itself}
use Rattle.sig_json.specs.Order.{InOrder, ItemsInOrder}
use Rattle.sig_json.proofs.Spelled.{has_in_order, spells_in_order}
use Rattle.sig_terms.specs.declared.rules.Client.{Client}
use Rattle.sig_terms.specs.declared.rules.Rules.{Rules}
use Rattle.sig_history.specs.Sound.{is_client_name}
use Rattle.sig_calls.specs.Proper.{IsProperRules, is_proper_client, is_proper_rules}
use Rattle.sig_stream.specs.Steps as results
use Rattle.sig_settings.specs.declared.fault.SettingsFault.{SettingsFault}
use Rattle.sig_settings.specs.declared.fault.SettingsFault.TheVariants.{Refused}
use Rattle.sig_settings.specs.declared.fault.ValueFault.{ValueFault}
use Rattle.sig_settings.specs.Keys.{key_at}
use Rattle.sig_settings.specs.Lists.{before, items_kept, kept_at, list_at}
use Rattle.sig_settings.specs.Members.{found, is_whole, itself, member_at, needed, optional, where_there}
use Rattle.sig_settings.specs.Objects.{settings_of}
use Rattle.sig_settings.specs.Places.{place_at}
use Rattle.sig_settings.specs.Texts.{bearer_at, filled_at, is_filled, text_at, text_where, where_passing}
use Rattle.sig_settings.proofs.Steps.{found_is, needed_is, ok_same, ok_some, stepped, then_some, under_ok}
use Rattle.sig_txsettings.specs.declared.settings.TxSettings.{TxSettings}
use Rattle.sig_txsettings.specs.Clients.{audience_at, client_at, client_name_at, clients_at, clients_in, have_own_bearers, where_apart, where_filled}
use Rattle.sig_txsettings.specs.Settings.{rules_in, tx_settings_in, tx_settings_of}
use Rattle.sig_txsettings.specs.Values.{defaults_at, interval_at}

-- ---- steps

-- what passes a test is what was tested
where_is : {T : Type 0} (t : Bool) (x y : T) → (if t then Some x else None) ≡ Some y → (t ≡ true) × (x ≡ y)
where_is true x y h = (refl, cc)
where_is false x y h = cc

where_ok : {T : Type 0} (t : Bool) (x y : T) → ◌≡◌ {A = Result T ValueFault} (if t then Ok x else Err itself) (Ok y) → (t ≡ true) × (x ≡ y)
where_ok true x y h = (refl, cc)
where_ok false x y h = cc

-- ---- kinds

-- what a value in order says of a kind passes a test
abbrev Passes : {T : Type 0} → (Data → Result T ValueFault) → (T → Bool) → Type 0
Passes {T} kind test = (d : Data) (x : T) → InOrder d → kind d ≡ Ok x → test x ≡ true

there_is : {T : Type 0} (kind : Data → Result T ValueFault) (o : Option Data) (x : T) → where_there kind o ≡ Ok x → (v : Data) × (o ≡ Some v) × (kind v ≡ Ok x)
there_is kind None x h = cc
there_is kind (Some v) x h = (v, refl, h)

member_passes : {T : Type 0} (kind : Data → Result T ValueFault) (test : T → Bool) → Passes kind test → (name : List ℕ) (d : Data) (x : T) → InOrder d → member_at kind name d ≡ Ok x → test x ≡ true
member_passes kind test passes name d x order h =
    let (v, there, is) = there_is kind (member_of name d) x (under_ok _ _ x h) in
    passes v x (has_in_order name d v order there).0 is

before_is : {T : Type 0} (o : Result T ValueFault) (rest : Result (List T) ValueFault) (ys : List T) → before o rest ≡ Ok ys → (x : T) × (o ≡ Ok x) × ((xs : List T) × (rest ≡ Ok xs) × (x ∷ xs ≡ ys))
before_is (Err e) rest ys h = cc
before_is (Ok x) (Err e) ys h = cc
before_is (Ok x) (Ok xs) ys h = (x, refl, (xs, refl, cc))

items_pass : {T : Type 0} (kind : Data → Result T ValueFault) (test : T → Bool) → Passes kind test → (n : ℕ) (ds : Items) (xs : List T) → ItemsInOrder ds → items_kept kind n ds ≡ Ok xs → list_all test xs ≡ true
items_pass {T} kind test passes n no_items xs order h = let same : [] ≡ xs = cc in ap (list_all test) (sym same)
items_pass {T} kind test passes n (item d ds) xs order h =
    let (y, said, (ys, rest, is)) = before_is (kept_at kind n d) (items_kept kind (n + 1) ds) xs h in
    ap (list_all test) (sym is) ∙ both (test y) (list_all test ys) (passes d y order.0 (under_ok _ _ y said)) (items_pass kind test passes (n + 1) ds ys order.1 rest)
  where
    both : (a b : Bool) → a ≡ true → b ≡ true → (a && b) ≡ true
    both a b p q = rw (p, q) refl

list_passes : {T : Type 0} (kind : Data → Result T ValueFault) (test : T → Bool) → Passes kind test → Passes (list_at kind) (list_all test)
list_passes kind test passes null xs order h = cc
list_passes kind test passes (boolean b) xs order h = cc
list_passes kind test passes (number n) xs order h = cc
list_passes kind test passes (string s) xs order h = cc
list_passes kind test passes (array ds) xs order h = items_pass kind test passes 0 ds xs order h
list_passes kind test passes (object ms) xs order h = cc

text_passes : Passes text_at is_utf8
text_passes null t order h = cc
text_passes (boolean b) t order h = cc
text_passes (number n) t order h = cc
text_passes (string s) t order h = let same : s ≡ t = cc in is_utf8-from_IsUtf8 t (subst IsUtf8 same order)
text_passes (array ds) t order h = cc
text_passes (object ms) t order h = cc

filled_passes : Passes filled_at is_utf8
filled_passes d t order h =
    let (text, said, is) = then_some (as_str d) (where_passing is_filled) t (found_is _ t h) in
    let same = where_is (is_filled text) text t is in
    text_passes d t order (ap found (said ∙ ap Some same.1))

audience_passes : Passes audience_at (list_all is_utf8)
audience_passes d xs order h =
    let (texts, said, is) = stepped (list_at text_at d) where_filled xs h in
    let same = where_ok _ texts xs is in
    list_passes text_at is_utf8 text_passes d xs order (said ∙ ap Ok same.1)

name_passes : Passes client_name_at is_client_name
name_passes d t order h =
    let (text, said, is) = then_some (as_str d) (where_passing is_client_name) t (found_is _ t h) in
    let same = where_is (is_client_name text) text t is in
    ap is_client_name (sym same.1) ∙ same.0

-- ---- clients

client_passes : Passes client_at is_proper_client
client_passes d c order h =
    let (whole, has_whole, h0) = stepped (is_whole d) _ c h in
    let (aud, has_aud, h1) = stepped (member_at audience_at (codes "aud") d) _ c h0 in
    let (bearer, has_bearer, h2) = stepped (member_at bearer_at (codes "bearer") d) _ c h1 in
    let (name, has_name, h3) = stepped (member_at client_name_at (codes "name") d) _ c h2 in
    let same : ◌≡◌ {A = Client} (record { name = name; bearer = bearer; aud = aud }) c = ok_same _ c h3 in
    ap is_proper_client (sym same)
    ∙ both _ _ (member_passes client_name_at is_client_name name_passes (codes "name") d name order has_name)
    (member_passes audience_at (list_all is_utf8) audience_passes (codes "aud") d aud order has_aud)
  where
    both : (a b : Bool) → a ≡ true → b ≡ true → (a && b) ≡ true
    both a b p q = rw (p, q) refl

clients_pass : Passes clients_at (list_all is_proper_client)
clients_pass d cs order h =
    let (all, said, is) = stepped (list_at client_at d) where_apart cs h in
    let same = where_ok _ all cs is in
    list_passes client_at is_proper_client client_passes d cs order (said ∙ ap Ok same.1)

clients_proper : (operator : List ℕ) (d : Data) (cs : List Client) → InOrder d → clients_in operator d ≡ Ok cs → list_all is_proper_client cs ≡ true
unfolding clients_in
clients_proper operator d cs order h =
    let (all, has_all, h1) = stepped (needed clients_at (codes "clients") d) _ cs h in
    let (own, has_own, h2) = stepped (have_own_bearers operator all) _ cs h1 in
    ap (list_all is_proper_client) (sym (ok_same all cs h2))
    ∙ member_passes clients_at (list_all is_proper_client) clients_pass (codes "clients") d all order (needed_is clients_at (codes "clients") d all has_all)

-- ---- the whole

object_order : (bytes : List ℕ) (d : Data) → settings_of bytes ≡ Ok d → InOrder d
object_order bytes d h = at (nat_le (length bytes) SETTINGS_BYTES) (Refused (codes "body")) (Refused (codes "length")) h
  where
    spelled : (o : Option Data) → ((v : Data) → o ≡ Some v → InOrder v) → option_and_then object_itself o ≡ Some d → InOrder d
    spelled None order h = cc
    spelled (Some null) order h = cc
    spelled (Some (boolean b)) order h = cc
    spelled (Some (number n)) order h = cc
    spelled (Some (string s)) order h = cc
    spelled (Some (array ds)) order h = cc
    spelled (Some (object ms)) order h = let same : object ms ≡ d = cc in subst InOrder same (order (object ms) refl)

    at : (t : Bool) (e f : SettingsFault) → (if t then ok_or (option_and_then object_itself (json_of bytes)) e else Err f) ≡ Ok d → InOrder d
    at true e f h = spelled (json_of bytes) (λ v is. (spells_in_order bytes v is).0) (ok_some _ _ d h)
    at false e f h = cc

rules_proper : (issuer base : List ℕ) (d : Data) (rules : Rules) → InOrder d → is_utf8 issuer ≡ true → rules_in issuer base d ≡ Ok rules → IsProperRules rules
rules_proper issuer base d rules order utf8 h =
    let (operator, has_operator, h1) = stepped (needed bearer_at (codes "operator") d) _ rules h in
    let (defaults, has_defaults, h2) = stepped (needed defaults_at (codes "default_subjects") d) _ rules h1 in
    let (interval, has_interval, h3) = stepped (needed interval_at (codes "min_verification_interval") d) _ rules h2 in
    let (key, has_key, h4) = stepped (needed key_at (codes "key") d) _ rules h3 in
    let (clients, has_clients, h5) = stepped (clients_in operator d) _ rules h4 in
    let (gateway, has_gateway, h6) = stepped (optional place_at (codes "tls_gateway") d) _ rules h5 in
    let named : list_all is_proper_client clients ≡ true = clients_proper operator d clients order has_clients in
    ap is_proper_rules (sym (ok_same _ rules h6)) ∙ both (is_utf8 issuer) (list_all is_proper_client clients) utf8 named
  where
    both : (a b : Bool) → a ≡ true → b ≡ true → (a && b) ≡ true
    both a b p q = rw (p, q) refl

object_proper : (d : Data) (s : TxSettings) → InOrder d → tx_settings_in d ≡ Ok s → IsProperRules s.rules
object_proper d s order h =
    let (issuer, has_issuer, h1) = stepped (needed filled_at (codes "issuer") d) _ s h in
    let (base, has_base, h2) = stepped (needed text_at (codes "base") d) _ s h1 in
    let (listen, has_listen, h3) = stepped (needed place_at (codes "listen") d) _ s h2 in
    let (rules, has_rules, h4) = stepped (rules_in issuer base d) _ s h3 in
    let utf8 : is_utf8 issuer ≡ true = member_passes filled_at is_utf8 filled_passes (codes "issuer") d issuer order (needed_is filled_at (codes "issuer") d issuer has_issuer) in
    subst (λ (t : TxSettings). IsProperRules t.rules) (ok_same _ s h4) (rules_proper issuer base d rules order utf8 has_rules)

-- what bytes say are such rules
pub proper_settings : (bytes : List ℕ) (s : TxSettings) → tx_settings_of bytes ≡ Ok s → IsProperRules s.rules
unfolding tx_settings_of
proper_settings bytes s h =
    let (d, is, rest) = stepped (settings_of bytes) tx_settings_in s h in
    object_proper d s (object_order bytes d is) rest

-- what is answered where an object was read
pub proper_answer : (bytes : List ℕ) (d : Data) (fault : SettingsFault) (r : Result TxSettings SettingsFault) → settings_of bytes ≡ Ok d → Answers fault r (tx_settings_in d) → IfOk r (λ s. IsProperRules s.rules)
unfolding tx_settings_of
proper_answer bytes d fault (Ok s) is h = proper_settings bytes s (ap (λ r. results.◌>>=◌ r tx_settings_in) is ∙ h)
proper_answer bytes d fault (Err e) is h = tt
