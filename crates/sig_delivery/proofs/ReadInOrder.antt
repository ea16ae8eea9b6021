-- What is read of a body stands in byte order of identifiers, each identifier once.
use Rattle.std.proofs.Common.{◌≡◌, ℕ, List, [], ◌∷◌, Option, Some, None, nat_cmp, Less, refl, sym, ap, subst}
use Rattle.std.specs.Prelude.{Ok, codes, option_and_then, option_map, unwrap_or}
use Rattle.std.specs.Cmp.Lexicographic.{slice_cmp}
use Rattle.serde_json.specs.Data.{Data, null, boolean, number, string, array, object, Members, no_members, member}
use Rattle.serde_json.specs.Find.{as_object, as_str, get_member}
use Rattle.sig_json.specs.Canon.{IsBelow}
use Rattle.sig_json.specs.Checks.{first_failing}
use Rattle.sig_json.specs.Json.{json_of, text_member}
use Rattle.sig_json.specs.Order.{InOrder, MembersInOrder}
use Rattle.sig_json.proofs.Decided.{value_is}
use Rattle.sig_json.proofs.Spelled.{get_in_order, spelled_in_order}
use Rattle.sig_terms.specs.declared.call.PollAsk.{PollAsk}
use Rattle.sig_delivery.specs.declared.sets.Sets.{Sets}
use Rattle.sig_delivery.specs.Asks as asks
use Rattle.sig_delivery.specs.Bodies.{before, body_by, members_read, or_missing}
use Rattle.sig_delivery.specs.Laws.{ReadsAsksInOrder, ReadsSetsInOrder}
use Rattle.sig_delivery.specs.Named.{IsBelowAll, IsByName}
use Rattle.sig_delivery.specs.Sets as sets

some_same : {A : Type 0} (x y : A) → Some x ≡ Some y → x ≡ y
some_same x y h = cc

-- ---- members that are read

-- what is read under a name has that name
abbrev KeepsName : {T : Type 0} → (T → List ℕ) → (List ℕ → Data → Option T) → Type 0
KeepsName {T} name read = (k : List ℕ) (d : Data) (x : T) → read k d ≡ Some x → name x ≡ k

read_below : {T : Type 0} (name : T → List ℕ) (read : List ℕ → Data → Option T) → KeepsName name read
    → (k : List ℕ) (ms : Members) (xs : List T) → IsBelow k ms → members_read read ms ≡ Some xs → IsBelowAll name k xs
read_below name read keeps k no_members xs below h = subst (IsBelowAll name k) (some_same [] xs h) tt
read_below {T} name read keeps k (member l d ms) xs below h =
    at (read l d) refl (members_read read ms) refl h (λ ys r. read_below name read keeps k ms ys below.1 r)
  where
    at : (o : Option T) → read l d ≡ o → (r : Option (List T)) → members_read read ms ≡ r → before o r ≡ Some xs
        → ((ys : List T) → members_read read ms ≡ Some ys → IsBelowAll name k ys) → IsBelowAll name k xs
    at None is r rest g later = cc
    at (Some x) is None rest g later = cc
    at (Some x) is (Some ys) rest g later =
        let first = subst (λ (n : List ℕ). slice_cmp nat_cmp k n ≡ Less) (sym (keeps l d x is)) below.0 in
        subst (IsBelowAll name k) (some_same (x ∷ ys) xs g) (first, later ys rest)

read_by_name : {T : Type 0} (name : T → List ℕ) (read : List ℕ → Data → Option T) → KeepsName name read
    → (ms : Members) (xs : List T) → MembersInOrder ms → members_read read ms ≡ Some xs → IsByName name xs
read_by_name name read keeps no_members xs order h = subst (IsByName name) (some_same [] xs h) tt
read_by_name {T} name read keeps (member l d ms) xs order h =
    at (read l d) refl (members_read read ms) refl h (λ ys r. read_by_name name read keeps ms ys order.3 r)
  where
    at : (o : Option T) → read l d ≡ o → (r : Option (List T)) → members_read read ms ≡ r → before o r ≡ Some xs
        → ((ys : List T) → members_read read ms ≡ Some ys → IsByName name ys) → IsByName name xs
    at None is r rest g later = cc
    at (Some x) is None rest g later = cc
    at (Some x) is (Some ys) rest g later =
        let below = subst (λ (n : List ℕ). IsBelowAll name n ys) (sym (keeps l d x is)) (read_below name read keeps l ms ys order.2 rest) in
        subst (IsByName name) (some_same (x ∷ ys) xs g) (below, later ys rest)

-- what is read of an object's members, nothing where one isn't read
all_by_name : {T : Type 0} (name : T → List ℕ) (read : List ℕ → Data → Option T) → KeepsName name read → (ms : Members) → MembersInOrder ms → IsByName name (unwrap_or (members_read read ms) [])
all_by_name {T} name read keeps ms order = at (members_read read ms) refl
  where
    at : (r : Option (List T)) → members_read read ms ≡ r → IsByName name (unwrap_or r [])
    at None is = tt
    at (Some xs) is = read_by_name name read keeps ms xs order is

-- and of any value in its place
value_by_name : {T : Type 0} (name : T → List ℕ) (read : List ℕ → Data → Option T) → KeepsName name read → (d : Data) → InOrder d → IsByName name (unwrap_or (option_and_then (members_read read) (as_object d)) [])
value_by_name name read keeps null order = tt
value_by_name name read keeps (boolean b) order = tt
value_by_name name read keeps (number n) order = tt
value_by_name name read keeps (string s) order = tt
value_by_name name read keeps (array ds) order = tt
value_by_name name read keeps (object ms) order = all_by_name name read keeps ms order

-- ---- sets

listed_name : KeepsName sets.jti_of sets.listed_at
listed_name k d x h = at (as_str d) h
  where
    at : (o : Option (List ℕ)) → option_map (sets.listed_as k) o ≡ Some x → x.jti ≡ k
    at None g = cc
    at (Some t) g = ap sets.jti_of (sym (some_same (sets.listed_as k t) x g))

tokens_by_name : (ms : Members) → MembersInOrder ms → IsByName sets.jti_of (unwrap_or (sets.listed_in (object ms)) [])
tokens_by_name ms order = at (get_member (codes "sets") ms) refl
  where
    at : (o : Option Data) → get_member (codes "sets") ms ≡ o → IsByName sets.jti_of (unwrap_or (option_and_then sets.listed_of (option_and_then as_object o)) [])
    at None is = tt
    at (Some e) is = value_by_name sets.jti_of sets.listed_at listed_name e (get_in_order (codes "sets") ms e order is)

sets_by_name : (d : Data) (s : Sets) → InOrder d → body_by sets.sets_in (Some d) ≡ Ok s → IsByName sets.jti_of s.tokens
unfolding sets.sets_in
sets_by_name null s order h = cc
sets_by_name (boolean b) s order h = cc
sets_by_name (number n) s order h = cc
sets_by_name (string t) s order h = cc
sets_by_name (array ds) s order h = cc
sets_by_name (object ms) s order h =
    let same = value_is (first_failing (sets.sets_checks (object ms))) (sets.sets_by (object ms)) s h in
    subst (λ (t : Sets). IsByName sets.jti_of t.tokens) same (tokens_by_name ms order)

pub reads_sets_in_order : ReadsSetsInOrder
reads_sets_in_order body s h = at (json_of body) refl h
  where
    at : (o : Option Data) → json_of body ≡ o → body_by sets.sets_in o ≡ Ok s → IsByName sets.jti_of s.tokens
    at None is g = cc
    at (Some d) is g = sets_by_name d s (spelled_in_order body d is) g

-- ---- asks

error_name : KeepsName asks.jti_of asks.error_at
error_name k d x h = at (text_member (codes "err") d) h
  where
    at : (o : Option (List ℕ)) → option_map (asks.reported_as k) o ≡ Some x → x.jti ≡ k
    at None g = cc
    at (Some code) g = ap asks.jti_of (sym (some_same (asks.reported_as k code) x g))

errors_by_name : (ms : Members) → MembersInOrder ms → IsByName asks.jti_of (unwrap_or (asks.errors_in (object ms)) [])
errors_by_name ms order = at (get_member (codes "setErrs") ms) refl
  where
    at : (o : Option Data) → get_member (codes "setErrs") ms ≡ o → IsByName asks.jti_of (unwrap_or (or_missing [] asks.errors_at o) [])
    at None is = tt
    at (Some e) is = value_by_name asks.jti_of asks.error_at error_name e (get_in_order (codes "setErrs") ms e order is)

ask_by_name : (d : Data) (ask : PollAsk) → InOrder d → body_by asks.ask_in (Some d) ≡ Ok ask → IsByName asks.jti_of ask.errors
unfolding asks.ask_in
ask_by_name null ask order h = cc
ask_by_name (boolean b) ask order h = cc
ask_by_name (number n) ask order h = cc
ask_by_name (string t) ask order h = cc
ask_by_name (array ds) ask order h = cc
ask_by_name (object ms) ask order h =
    let same = value_is (first_failing (asks.ask_checks (object ms))) (asks.ask_by (object ms)) ask h in
    subst (λ (a : PollAsk). IsByName asks.jti_of a.errors) same (errors_by_name ms order)

value_ask : (o : Option Data) (ask : PollAsk) → ((d : Data) → o ≡ Some d → InOrder d) → body_by asks.ask_in o ≡ Ok ask → IsByName asks.jti_of ask.errors
value_ask None ask order h = cc
value_ask (Some d) ask order h = ask_by_name d ask (order d refl) h

pub reads_asks_in_order : ReadsAsksInOrder
reads_asks_in_order [] ask h = ask_by_name (object no_members) ask tt h
reads_asks_in_order (b ∷ bytes) ask h = value_ask (json_of (b ∷ bytes)) ask (λ d is. spelled_in_order (b ∷ bytes) d is) h
