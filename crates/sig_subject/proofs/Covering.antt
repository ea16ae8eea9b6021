-- Covering is reflexive on proper subjects and transitive, and matching is symmetric on proper ones.
use Rattle.std.proofs.Common.{◌≡◌, ◌||◌, ◌&&◌, ◌⊎◌, ℕ, List, [], ◌∷◌, Bool, true, false, bytes_eq, Option, Some, None, cond, find, option_map, inl, inr, refl, sym, ap, subst, ◌∙◌}
use Rattle.std.specs.List.{list_any}
use Rattle.std.proofs.lemmas.Bool.{and_parts}
use Rattle.sig_subject.proofs.Identity.{simple_same, simple_sound, text_sound}
use Rattle.sig_subject.proofs.Parts.{AllNamed, proper_parts_rise, rising_named}
use Rattle.sig_subject.specs.Laws.{CoversItself, CoversOn, MatchesBothWays}
use Rattle.sig_subject.specs.Matching.{agrees, all_agree, part_named, same_simple}
use Rattle.sig_subject.specs.declared.member.Member.{Member}
use Rattle.sig_subject.specs.declared.simple.Simple.{Simple}
use Rattle.sig_subject.specs.declared.subject.Subject.TheVariants as subject

both_true : (a b : Bool) → a ≡ true → b ≡ true → a && b ≡ true
both_true a b h k = rw (h, k) refl

or_true : (a b : Bool) → a || b ≡ true → (a ≡ true) ⊎ (b ≡ true)
or_true true b h = inl refl
or_true false b h = inr h

or_left : (a b : Bool) → a ≡ true → a || b ≡ true
or_left a b h = rw h refl

or_right : (a b : Bool) → b ≡ true → a || b ≡ true
or_right true b h = refl
or_right false b h = h

some_same : (s t : Simple) → Some s ≡ Some t → s ≡ t
some_same s t h = cc

-- ---- a part that is found under its name

named_agree : (missing : Bool) (all ms : List Member) → AllNamed all ms → all_agree missing ms all ≡ true
named_agree missing all [] named = refl
named_agree missing all (m ∷ ms) named = both_true _ _ (ap (agrees missing m.simple) named.0 ∙ simple_same m.simple) (named_agree missing all ms named.1)

-- what agrees and has to be there is there
pub agrees_found : (s : Simple) (o : Option Simple) → agrees false s o ≡ true → o ≡ Some s
agrees_found s None h = cc
agrees_found s (Some t) h = ap Some (sym (simple_sound s t h))

-- what the name finds agrees
pub found_agrees : (missing : Bool) (n : List ℕ) (s : Simple) (xs ys : List Member) → part_named n xs ≡ Some s → all_agree missing xs ys ≡ true → agrees missing s (part_named n ys) ≡ true
found_agrees missing n s [] ys found all = cc
found_agrees missing n s (m ∷ xs) ys found all =
    let both = and_parts (agrees missing m.simple (part_named m.name ys)) (all_agree missing xs ys) all in
    by_name (bytes_eq n m.name) refl found both.0 (λ h. found_agrees missing n s xs ys h both.1)
  where
    by_name : (b : Bool) → bytes_eq n m.name ≡ b → option_map (λ (x : Member). x.simple) (cond b (Some m) (find (λ (x : Member). bytes_eq n x.name) xs)) ≡ Some s → agrees missing m.simple (part_named m.name ys) ≡ true
        → (part_named n xs ≡ Some s → agrees missing s (part_named n ys) ≡ true) → agrees missing s (part_named n ys) ≡ true
    by_name true e is here more =
        let named : part_named n ys ≡ part_named m.name ys = ap (λ k. part_named k ys) (text_sound n m.name e) in
        let same : m.simple ≡ s = some_same m.simple s is in
        rw named (subst (λ t. agrees missing t (part_named m.name ys) ≡ true) same here)
    by_name false e is here more = more is

-- ---- covering

pub covers_itself : CoversItself
covers_itself (subject.Simple a) proper = simple_same a
covers_itself (subject.Complex ms) proper = named_agree false ms ms (rising_named ms (proper_parts_rise ms proper))

parts_cover : (xs ys zs : List Member) → all_agree false xs ys ≡ true → all_agree false ys zs ≡ true → all_agree false xs zs ≡ true
parts_cover [] ys zs one two = refl
parts_cover (m ∷ xs) ys zs one two =
    let both = and_parts (agrees false m.simple (part_named m.name ys)) (all_agree false xs ys) one in
    let found = agrees_found m.simple (part_named m.name ys) both.0 in
    both_true _ _ (found_agrees false m.name m.simple ys zs found two) (parts_cover xs ys zs both.1 two)

pub found_any : (a s : Simple) (n : List ℕ) (zs : List Member) → same_simple a s ≡ true → part_named n zs ≡ Some s → list_any (λ (m : Member). same_simple a m.simple) zs ≡ true
found_any a s n [] same found = cc
found_any a s n (m ∷ zs) same found = by_name (bytes_eq n m.name) found (λ h. found_any a s n zs same h)
  where
    by_name : (b : Bool) → option_map (λ (x : Member). x.simple) (cond b (Some m) (find (λ (x : Member). bytes_eq n x.name) zs)) ≡ Some s → (part_named n zs ≡ Some s → list_any (λ (m : Member). same_simple a m.simple) zs ≡ true)
        → same_simple a m.simple || list_any (λ (m : Member). same_simple a m.simple) zs ≡ true
    by_name true is more = or_left _ _ (ap (same_simple a) (some_same m.simple s is) ∙ same)
    by_name false is more = or_right _ _ (more is)

part_covers : (a : Simple) (ys zs : List Member) → list_any (λ (m : Member). same_simple a m.simple) ys ≡ true → all_agree false ys zs ≡ true → list_any (λ (m : Member). same_simple a m.simple) zs ≡ true
part_covers a [] zs one two = cc
part_covers a (m ∷ ys) zs one two =
    let both = and_parts (agrees false m.simple (part_named m.name zs)) (all_agree false ys zs) two in
    elim (or_true (same_simple a m.simple) (list_any (λ (m : Member). same_simple a m.simple) ys) one) [
      | inl same ↦ found_any a m.simple m.name zs same (agrees_found m.simple (part_named m.name zs) both.0)
      | inr later ↦ part_covers a ys zs later both.1
    ]

pub covers_on : CoversOn
covers_on (subject.Simple a) (subject.Simple b) (subject.Simple c) one two = subst (λ t. same_simple t c ≡ true) (sym (simple_sound a b one)) two
covers_on (subject.Simple a) (subject.Simple b) (subject.Complex zs) one two =
    subst (λ t. list_any (λ (m : Member). same_simple t m.simple) zs ≡ true) (sym (simple_sound a b one)) two
covers_on (subject.Simple a) (subject.Complex ys) (subject.Simple c) one two = cc
covers_on (subject.Simple a) (subject.Complex ys) (subject.Complex zs) one two = part_covers a ys zs one two
covers_on (subject.Complex xs) (subject.Simple b) c one two = cc
covers_on (subject.Complex xs) (subject.Complex ys) (subject.Simple c) one two = cc
covers_on (subject.Complex xs) (subject.Complex ys) (subject.Complex zs) one two = parts_cover xs ys zs one two

-- ---- matching

same_back : (s t : Simple) → same_simple s t ≡ true → same_simple t s ≡ true
same_back s t h = ap (same_simple t) (simple_sound s t h) ∙ simple_same t

agrees_back : (n : Member) (xs ys : List Member) (o : Option Simple) → part_named n.name xs ≡ o → part_named n.name ys ≡ Some n.simple → all_agree true xs ys ≡ true → agrees true n.simple o ≡ true
agrees_back n xs ys None is named all = refl
agrees_back n xs ys (Some s) is named all =
    let found = found_agrees true n.name s xs ys is all in
    same_back s n.simple (subst (λ o. agrees true s o ≡ true) named found)

all_back : (ms xs ys : List Member) → AllNamed ys ms → all_agree true xs ys ≡ true → all_agree true ms xs ≡ true
all_back [] xs ys named all = refl
all_back (n ∷ ms) xs ys named all = both_true _ _ (agrees_back n xs ys (part_named n.name xs) refl named.0 all) (all_back ms xs ys named.1 all)

alike : (a b : Bool) → (a ≡ true → b ≡ true) → (b ≡ true → a ≡ true) → a ≡ b
alike true b h k = sym (h refl)
alike false true h k = k refl
alike false false h k = refl

pub matches_both_ways : MatchesBothWays
matches_both_ways (subject.Simple a) (subject.Simple b) one two = alike (same_simple a b) (same_simple b a) (same_back a b) (same_back b a)
matches_both_ways (subject.Simple a) (subject.Complex ys) one two = refl
matches_both_ways (subject.Complex xs) (subject.Simple b) one two = refl
matches_both_ways (subject.Complex xs) (subject.Complex ys) one two =
    alike (all_agree true xs ys) (all_agree true ys xs) (all_back ys xs ys (rising_named ys (proper_parts_rise ys two))) (all_back xs ys xs (rising_named xs (proper_parts_rise xs one)))
