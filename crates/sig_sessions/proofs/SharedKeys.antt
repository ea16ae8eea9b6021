-- A subject and one that it covers share a key.
use Rattle.std.proofs.Common.{◌≡◌, ◌∙◌, ◌||◌, ◌⊎◌, inl, inr, ap, sym, subst, refl, ℕ, List, [], ◌∷◌, Bool, true, false, not, nat_eq, Option, Some, None, find, map, slice_get, if◌then◌else◌}
use Rattle.std.specs.List.{list_all, list_any}
use Rattle.std.proofs.lemmas.Bool.{and_parts, eqb-true}
use Rattle.std.proofs.lemmas.Cmp.{nat_eq_equiv}
use Rattle.sig_json.specs.Checks.{or_else}
use Rattle.sig_subject.specs.declared.member.Member.{Member}
use Rattle.sig_subject.specs.declared.simple.Simple.{Simple}
use Rattle.sig_subject.specs.declared.subject.Subject.{Subject}
use Rattle.sig_subject.specs.declared.subject.Subject.TheVariants as subject
use Rattle.sig_subject.specs.Matching.{agrees, all_agree, is_covering, part_named, same_simple}
use Rattle.sig_subject.proofs.Covering.{agrees_found, found_any}
use Rattle.sig_subject.proofs.Identity.{simple_same, simple_sound}
use Rattle.sig_sessions.specs.Keys.{AreCoveredKeys, anchor, anchor_key, covering_keys, has_key, is_shared, key_of_anchor, keys_of, keys_of_parts, own_key, part_key}
use Rattle.sig_sessions.specs.declared.keys.TheConstants.{COMPLEX, NO_PART}

pub at_itself : (n : ℕ) → nat_eq n n ≡ true
at_itself n = nat_eq_equiv.refl n

pub or_true : (a b : Bool) → a || b ≡ true → (a ≡ true) ⊎ (b ≡ true)
or_true true b h = inl refl
or_true false b h = inr h

pub or_left : (a b : Bool) → a ≡ true → a || b ≡ true
or_left a b h = rw h refl

pub or_right : (a b : Bool) → b ≡ true → a || b ≡ true
or_right true b h = refl
or_right false b h = h

-- ---- parts and their keys

part_listed : (a : Simple) (ys : List Member) → list_any (λ (m : Member). same_simple a m.simple) ys ≡ true → has_key (part_key a) (map (λ (m : Member). part_key m.simple) ys) ≡ true
part_listed a [] h = cc
part_listed a (m ∷ ys) h = by (or_true (same_simple a m.simple) (list_any (λ (m : Member). same_simple a m.simple) ys) h) (part_listed a ys)
  where
    by : (same_simple a m.simple ≡ true) ⊎ (list_any (λ (m : Member). same_simple a m.simple) ys ≡ true)
        → (list_any (λ (m : Member). same_simple a m.simple) ys ≡ true → has_key (part_key a) (map (λ (m : Member). part_key m.simple) ys) ≡ true) → has_key (part_key a) (map (λ (m : Member). part_key m.simple) (m ∷ ys)) ≡ true
    by (inl same) more = or_left _ _ (ap (λ x. nat_eq (part_key a) (part_key x)) (sym (simple_sound a m.simple same)) ∙ at_itself (part_key a))
    by (inr later) more = or_right _ _ (more later)

own_listed : (a : Simple) (ys : List Member) → list_any (λ (m : Member). same_simple a m.simple) ys ≡ true → has_key (own_key a) (keys_of_parts ys) ≡ true
own_listed a [] h = cc
own_listed a (m ∷ ys) h = by (or_true (same_simple a m.simple) (list_any (λ (m : Member). same_simple a m.simple) ys) h) (own_listed a ys)
  where
    by : (same_simple a m.simple ≡ true) ⊎ (list_any (λ (m : Member). same_simple a m.simple) ys ≡ true)
        → (list_any (λ (m : Member). same_simple a m.simple) ys ≡ true → has_key (own_key a) (keys_of_parts ys) ≡ true) → has_key (own_key a) (keys_of_parts (m ∷ ys)) ≡ true
    by (inl same) more = or_left _ _ (ap (λ x. nat_eq (own_key a) (own_key x)) (sym (simple_sound a m.simple same)) ∙ at_itself (own_key a))
    by (inr later) more = or_right _ _ (or_right _ _ (more later))

anchor_listed : (a : Simple) (ys : List Member) → list_any (λ (m : Member). same_simple a m.simple) ys ≡ true → has_key (anchor_key a) (keys_of_parts ys) ≡ true
anchor_listed a [] h = cc
anchor_listed a (m ∷ ys) h = by (or_true (same_simple a m.simple) (list_any (λ (m : Member). same_simple a m.simple) ys) h) (anchor_listed a ys)
  where
    by : (same_simple a m.simple ≡ true) ⊎ (list_any (λ (m : Member). same_simple a m.simple) ys ≡ true)
        → (list_any (λ (m : Member). same_simple a m.simple) ys ≡ true → has_key (anchor_key a) (keys_of_parts ys) ≡ true) → has_key (anchor_key a) (keys_of_parts (m ∷ ys)) ≡ true
    by (inl same) more = or_right _ _ (or_left _ _ (ap (λ x. nat_eq (anchor_key a) (anchor_key x)) (sym (simple_sound a m.simple same)) ∙ at_itself (anchor_key a)))
    by (inr later) more = or_right _ _ (or_right _ _ (more later))

-- a part that has to agree is one of the others
part_among : (m : Member) (ys : List Member) → agrees false m.simple (part_named m.name ys) ≡ true → list_any (λ (n : Member). same_simple m.simple n.simple) ys ≡ true
part_among m ys h = found_any m.simple m.simple m.name ys (simple_same m.simple) (agrees_found m.simple (part_named m.name ys) h)

-- ---- what a subject covers

key_of_all : (xs ys : List Member) (k : ℕ) → list_any (λ (m : Member). nat_eq (part_key m.simple) k) xs ≡ true → all_agree false xs ys ≡ true
    → has_key k (map (λ (m : Member). part_key m.simple) ys) ≡ true
key_of_all [] ys k one all = cc
key_of_all (m ∷ xs) ys k one all =
    let both = and_parts (agrees false m.simple (part_named m.name ys)) (all_agree false xs ys) all in
    by both (or_true (nat_eq (part_key m.simple) k) (list_any (λ (m : Member). nat_eq (part_key m.simple) k) xs) one) (λ later. key_of_all xs ys k later both.1)
  where
    by : (agrees false m.simple (part_named m.name ys) ≡ true) × (all_agree false xs ys ≡ true)
        → (nat_eq (part_key m.simple) k ≡ true) ⊎ (list_any (λ (m : Member). nat_eq (part_key m.simple) k) xs ≡ true)
        → (list_any (λ (m : Member). nat_eq (part_key m.simple) k) xs ≡ true → has_key k (map (λ (m : Member). part_key m.simple) ys) ≡ true)
        → has_key k (map (λ (m : Member). part_key m.simple) ys) ≡ true
    by both (inl is) more =
        subst (λ j. has_key j (map (λ (m : Member). part_key m.simple) ys) ≡ true) (eqb-true (part_key m.simple) k is)
        (part_listed m.simple ys (part_among m ys both.0))
    by both (inr later) more = more later

own_key_of_all : (xs : List Member) (k : ℕ) → list_any (λ (m : Member). nat_eq (part_key m.simple) k) xs ≡ true → has_key k (map (λ (m : Member). part_key m.simple) xs) ≡ true
own_key_of_all [] k one = cc
own_key_of_all (m ∷ xs) k one = by (or_true (nat_eq (part_key m.simple) k) (list_any (λ (m : Member). nat_eq (part_key m.simple) k) xs) one) (own_key_of_all xs k)
  where
    by : (nat_eq (part_key m.simple) k ≡ true) ⊎ (list_any (λ (m : Member). nat_eq (part_key m.simple) k) xs ≡ true)
        → (list_any (λ (m : Member). nat_eq (part_key m.simple) k) xs ≡ true → has_key k (map (λ (m : Member). part_key m.simple) xs) ≡ true)
        → has_key k (map (λ (m : Member). part_key m.simple) (m ∷ xs)) ≡ true
    by (inl is) more = or_left _ _ (nat_eq_equiv.symm k (part_key m.simple) ∙ is)
    by (inr later) more = or_right _ _ (more later)

-- the row of the subject r stands under one of the keys
abbrev pub IsUnder : ℕ × Option ℕ → Subject → Type 0
IsUnder keys r = (has_key keys.0 (keys_of r) ≡ true) ⊎ ((k : ℕ) × (keys.1 ≡ Some k) × (has_key k (keys_of r) ≡ true))

covered_under : (s r : Subject) (keys : ℕ × Option ℕ) → AreCoveredKeys s keys → is_covering s r ≡ true → IsUnder keys r
covered_under (subject.Simple a) (subject.Simple b) keys are h =
    inl (or_left _ _ (ap (λ k. nat_eq k (own_key b)) are.0 ∙ ap (λ x. nat_eq (own_key x) (own_key b)) (simple_sound a b h) ∙ at_itself (own_key b)))
covered_under (subject.Simple a) (subject.Complex ys) keys are h = inr (part_key a, are.1, or_right _ _ (or_right _ _ (part_listed a ys h)))
covered_under (subject.Complex xs) (subject.Simple b) keys are h = cc
covered_under (subject.Complex []) (subject.Complex ys) keys are h = inl (or_left _ _ (ap (λ k. nat_eq k COMPLEX) are.0 ∙ at_itself COMPLEX))
covered_under (subject.Complex (m ∷ xs)) (subject.Complex ys) keys are h = inl (or_right _ _ (or_right _ _ (key_of_all (m ∷ xs) ys keys.0 are.0 h)))

own_under : (s : Subject) (keys : ℕ × Option ℕ) → AreCoveredKeys s keys → IsUnder keys s
own_under (subject.Simple a) keys are = inl (or_left _ _ (ap (λ k. nat_eq k (own_key a)) are.0 ∙ at_itself (own_key a)))
own_under (subject.Complex []) keys are = inl (or_left _ _ (ap (λ k. nat_eq k COMPLEX) are.0 ∙ at_itself COMPLEX))
own_under (subject.Complex (m ∷ xs)) keys are = inl (or_right _ _ (or_right _ _ (own_key_of_all (m ∷ xs) keys.0 are.0)))

-- a row that the subject covers, or its own, stands under the keys that are asked for
pub found_under : (s r : Subject) (keys : ℕ × Option ℕ) → AreCoveredKeys s keys → (is_covering s r ≡ true) ⊎ (r ≡ s) → IsUnder keys r
found_under s r keys are (inl covers) = covered_under s r keys are covers
found_under s r keys are (inr own) = subst (IsUnder keys) (sym own) (own_under s keys are)

-- ---- what covers a subject

one_member : (y z : Member) → Some y ≡ Some z → y ≡ z
one_member y z h = cc

found_test : (p test : Member → Bool) (xs : List Member) (m : Member) → find p xs ≡ Some m → test m ≡ true → list_any test xs ≡ true
found_test p test [] m found is = cc
found_test p test (x ∷ xs) m found is = by (p x) refl (λ later. found_test p test xs m later is)
  where
    by : (b : Bool) → p x ≡ b → (find p xs ≡ Some m → list_any test xs ≡ true) → list_any test (x ∷ xs) ≡ true
    by true here more =
        let same : x ≡ m = one_member x m (ap (λ b. if b then Some x else find p xs) (sym here) ∙ found) in
        or_left _ _ (ap test same ∙ is)
    by false past more = or_right _ _ (more (ap (λ b. if b then Some x else find p xs) (sym past) ∙ found))

first_test : (test : Member → Bool) (xs : List Member) (m : Member) → slice_get xs 0 ≡ Some m → test m ≡ true → list_any test xs ≡ true
first_test test [] m first is = cc
first_test test (x ∷ xs) m first is = or_left _ _ (ap test (one_member x m first) ∙ is)

-- the anchor is one of the parts
anchor_test : (test : Member → Bool) (xs : List Member) (m : Member) → anchor xs ≡ Some m → test m ≡ true → list_any test xs ≡ true
anchor_test test xs m is h = by (find (λ (m : Member). not (is_shared m.name)) xs) refl
  where
    by : (o : Option Member) → find (λ (m : Member). not (is_shared m.name)) xs ≡ o → list_any test xs ≡ true
    by (Some x) found = found_test (λ (m : Member). not (is_shared m.name)) test xs m (found ∙ (ap (λ o. or_else o (slice_get xs 0)) (sym found) ∙ is)) h
    by None none = first_test test xs m (ap (λ o. or_else o (slice_get xs 0)) (sym none) ∙ is) h

-- what holds of each part holds of the anchor
all_any : (test : Member → Bool) (xs : List Member) → list_all test xs ≡ true → list_any (λ (m : Member). not (test m)) xs ≡ false
all_any test [] all = refl
all_any test (x ∷ xs) all =
    let both = and_parts (test x) (list_all test xs) all in
    rw both.0 (all_any test xs both.1)

anchor_all : (test : Member → Bool) (xs : List Member) (m : Member) → anchor xs ≡ Some m → list_all test xs ≡ true → test m ≡ true
anchor_all test xs m is all = by (test m) refl
  where
    by : (b : Bool) → test m ≡ b → test m ≡ true
    by true h = h
    by false h =
        let one : list_any (λ (m : Member). not (test m)) xs ≡ true = anchor_test (λ (m : Member). not (test m)) xs m is (ap not h) in
        let none : list_any (λ (m : Member). not (test m)) xs ≡ false = all_any test xs all in
        cc

-- a row of r and the subject s share a key
abbrev pub Share : Subject → Subject → Type 0
Share r s = (k : ℕ) × (has_key k (covering_keys s) ≡ true) × (has_key k (keys_of r) ≡ true)

share_none : (xs ys : List Member) → anchor xs ≡ None → Share (subject.Complex xs) (subject.Complex ys)
share_none xs ys none = (
  NO_PART,
  or_left (nat_eq NO_PART NO_PART) (has_key NO_PART (keys_of_parts ys)) (at_itself NO_PART),
  or_right (nat_eq NO_PART COMPLEX) (has_key NO_PART (key_of_anchor (anchor xs) ∷ map (λ (m : Member). part_key m.simple) xs)) (or_left (nat_eq NO_PART (key_of_anchor (anchor xs))) (has_key NO_PART (map (λ (m : Member). part_key m.simple) xs)) (ap (λ o. nat_eq NO_PART (key_of_anchor o)) none ∙ at_itself NO_PART)),
)

share_anchor : (xs ys : List Member) (m : Member) → anchor xs ≡ Some m → list_any (λ (n : Member). same_simple m.simple n.simple) ys ≡ true
    → Share (subject.Complex xs) (subject.Complex ys)
share_anchor xs ys m is among = (
  anchor_key m.simple,
  or_right _ _ (anchor_listed m.simple ys among),
  or_right _ _ (or_left _ _ (ap (λ o. nat_eq (anchor_key m.simple) (key_of_anchor o)) is ∙ at_itself (anchor_key m.simple))),
)

share_parts : (xs ys : List Member) → ((m : Member) → anchor xs ≡ Some m → list_any (λ (n : Member). same_simple m.simple n.simple) ys ≡ true)
    → Share (subject.Complex xs) (subject.Complex ys)
share_parts xs ys among = by (anchor xs) refl
  where
    by : (o : Option Member) → anchor xs ≡ o → Share (subject.Complex xs) (subject.Complex ys)
    by None none = share_none xs ys none
    by (Some m) is = share_anchor xs ys m is (among m is)

covering_shares : (r s : Subject) → is_covering r s ≡ true → Share r s
covering_shares (subject.Simple a) (subject.Simple b) h =
    let same : nat_eq (own_key a) (own_key b) ≡ true = ap (λ x. nat_eq (own_key x) (own_key b)) (simple_sound a b h) ∙ at_itself (own_key b) in
    (own_key a, or_left _ _ same, or_left _ _ (at_itself (own_key a)))
covering_shares (subject.Simple a) (subject.Complex ys) h = (own_key a, or_right _ _ (own_listed a ys h), or_left _ _ (at_itself (own_key a)))
covering_shares (subject.Complex xs) (subject.Simple b) h = cc
covering_shares (subject.Complex xs) (subject.Complex ys) h =
    share_parts xs ys (λ m is. part_among m ys (anchor_all (λ (m : Member). agrees false m.simple (part_named m.name ys)) xs m is h))

own_shares : (s : Subject) → Share s s
own_shares (subject.Simple a) = (own_key a, or_left _ _ (at_itself (own_key a)), or_left _ _ (at_itself (own_key a)))
own_shares (subject.Complex xs) = share_parts xs xs (λ m is. anchor_test (λ (n : Member). same_simple m.simple n.simple) xs m is (simple_same m.simple))

pub shares : (r s : Subject) → (is_covering r s ≡ true) ⊎ (r ≡ s) → Share r s
shares r s (inl covers) = covering_shares r s covers
shares r s (inr own) = subst (λ x. Share x s) (sym own) (own_shares s)
