-- Identical subjects are one value.
use Rattle.std.proofs.Common.{◌≡◌, ◌↔◌, ◌&&◌, ℕ, List, [], ◌∷◌, Bool, true, IsTrue, bytes_eq, refl, ap, ap₂, ◌∙◌, sym}
use Rattle.std.specs.Cmp.{IsEquivalence, decided}
use Rattle.std.proofs.lemmas.Bool.{and_parts}
use Rattle.std.proofs.lemmas.Slice.Eq.{bytes_eq-Decides}
use Rattle.sig_subject.specs.declared.plain.Plain.{Plain}
use Rattle.sig_subject.specs.declared.plain.Plain.TheVariants as plain
use Rattle.sig_subject.specs.declared.simple.Simple.{Simple}
use Rattle.sig_subject.specs.declared.simple.Simple.TheVariants as simple
use Rattle.sig_subject.specs.declared.member.Member.{Member}
use Rattle.sig_subject.specs.declared.subject.Subject.{Subject}
use Rattle.sig_subject.specs.declared.subject.Subject.TheVariants as subject
use Rattle.sig_subject.specs.Matching.{same_plain, same_plains, same_simple, same_parts, is_identical, DecidesIdentity}

pub text_sound : (a b : List ℕ) → bytes_eq a b ≡ true → a ≡ b
text_sound a b h = (bytes_eq-Decides a b).0 h

pub text_same : (a : List ℕ) → bytes_eq a a ≡ true
text_same a = (bytes_eq-Decides a a).1 refl

both_true : (a b : Bool) → a ≡ true → b ≡ true → a && b ≡ true
both_true a b h k = rw (h, k) refl

plain_sound : (a b : Plain) → same_plain a b ≡ true → a ≡ b
plain_sound (plain.Account a) (plain.Account b) h = ap plain.Account (text_sound a b h)
plain_sound (plain.Email a) (plain.Email b) h = ap plain.Email (text_sound a b h)
plain_sound (plain.IssSub a b) (plain.IssSub c d) h = let p = and_parts _ _ h in rw (text_sound a c p.0, text_sound b d p.1) refl
plain_sound (plain.Opaque a) (plain.Opaque b) h = ap plain.Opaque (text_sound a b h)
plain_sound (plain.Phone a) (plain.Phone b) h = ap plain.Phone (text_sound a b h)
plain_sound (plain.Did a) (plain.Did b) h = ap plain.Did (text_sound a b h)
plain_sound (plain.Uri a) (plain.Uri b) h = ap plain.Uri (text_sound a b h)
plain_sound (plain.JwtId a b) (plain.JwtId c d) h = let p = and_parts _ _ h in rw (text_sound a c p.0, text_sound b d p.1) refl
plain_sound (plain.Saml a b) (plain.Saml c d) h = let p = and_parts _ _ h in rw (text_sound a c p.0, text_sound b d p.1) refl
plain_sound (plain.Unknown a) (plain.Unknown b) h = ap plain.Unknown (text_sound a b h)
plain_sound a b h = cc

plain_same : (a : Plain) → same_plain a a ≡ true
plain_same (plain.Account a) = text_same a
plain_same (plain.Email a) = text_same a
plain_same (plain.IssSub a b) = both_true _ _ (text_same a) (text_same b)
plain_same (plain.Opaque a) = text_same a
plain_same (plain.Phone a) = text_same a
plain_same (plain.Did a) = text_same a
plain_same (plain.Uri a) = text_same a
plain_same (plain.JwtId a b) = both_true _ _ (text_same a) (text_same b)
plain_same (plain.Saml a b) = both_true _ _ (text_same a) (text_same b)
plain_same (plain.Unknown a) = text_same a

plains_sound : (xs ys : List Plain) → same_plains xs ys ≡ true → xs ≡ ys
plains_sound [] [] h = refl
plains_sound [] (y ∷ ys) h = cc
plains_sound (x ∷ xs) [] h = cc
plains_sound (x ∷ xs) (y ∷ ys) h = let p = and_parts _ _ h in rw (plain_sound x y p.0, plains_sound xs ys p.1) refl

plains_same : (xs : List Plain) → same_plains xs xs ≡ true
plains_same [] = refl
plains_same (x ∷ xs) = both_true _ _ (plain_same x) (plains_same xs)

pub simple_sound : (a b : Simple) → same_simple a b ≡ true → a ≡ b
simple_sound (simple.Plain a) (simple.Plain b) h = ap simple.Plain (plain_sound a b h)
simple_sound (simple.Plain a) (simple.Aliases ys) h = cc
simple_sound (simple.Aliases xs) (simple.Plain b) h = cc
simple_sound (simple.Aliases xs) (simple.Aliases ys) h = ap simple.Aliases (plains_sound xs ys h)

pub simple_same : (a : Simple) → same_simple a a ≡ true
simple_same (simple.Plain a) = plain_same a
simple_same (simple.Aliases xs) = plains_same xs

parts_sound : (xs ys : List Member) → same_parts xs ys ≡ true → xs ≡ ys
parts_sound [] [] h = refl
parts_sound [] (y ∷ ys) h = cc
parts_sound (x ∷ xs) [] h = cc
parts_sound (x ∷ xs) (y ∷ ys) h =
    let p = and_parts _ _ h in
    let q = and_parts _ _ p.0 in
    let name = text_sound x.name y.name q.0 in
    let part = simple_sound x.simple y.simple q.1 in
    let make : List ℕ → Simple → Member = λ n s. record { name = n; simple = s } in
    let one : x ≡ y = ap₂ make name part in
    rw (one, parts_sound xs ys p.1) refl

parts_same : (xs : List Member) → same_parts xs xs ≡ true
parts_same [] = refl
parts_same (x ∷ xs) = both_true _ _ (both_true _ _ (text_same x.name) (simple_same x.simple)) (parts_same xs)

subject_sound : (a b : Subject) → is_identical a b ≡ true → a ≡ b
subject_sound (subject.Simple a) (subject.Simple b) h = ap subject.Simple (simple_sound a b h)
subject_sound (subject.Simple a) (subject.Complex ys) h = cc
subject_sound (subject.Complex xs) (subject.Simple b) h = cc
subject_sound (subject.Complex xs) (subject.Complex ys) h = ap subject.Complex (parts_sound xs ys h)

subject_same : (a : Subject) → is_identical a a ≡ true
subject_same (subject.Simple a) = simple_same a
subject_same (subject.Complex xs) = parts_same xs

pub decides_simple : (a b : Simple) → IsTrue (same_simple a b) ↔ (a ≡ b)
decides_simple a b = (simple_sound a b, λ e. ap (same_simple a) (sym e) ∙ simple_same a)

pub decides_identity : DecidesIdentity
decides_identity a b = (subject_sound a b, λ e. ap (is_identical a) (sym e) ∙ subject_same a)

-- being identical is an equivalence
pub identity_equiv : IsEquivalence is_identical
identity_equiv = decided is_identical decides_identity
