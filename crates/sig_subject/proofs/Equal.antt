-- The equality of keys is being identical.
use Rattle.std.proofs.Common.{◌≡◌, ◌&&◌, ap₂, List, [], ◌∷◌, bytes_eq, refl}
use Rattle.std.specs.Cmp.Lexicographic.{pointwise}
use Rattle.sig_subject.specs.contracts.plain.PlainPartialEq.TheImpl as plain_eq
use Rattle.sig_subject.specs.contracts.simple.SimplePartialEq.TheImpl as simple_eq
use Rattle.sig_subject.specs.contracts.member.MemberPartialEq.TheImpl as member_eq
use Rattle.sig_subject.specs.contracts.subject.SubjectPartialEq.TheImpl as subject_eq
use Rattle.sig_subject.specs.declared.plain.Plain.{Plain}
use Rattle.sig_subject.specs.declared.plain.Plain.TheVariants as plain
use Rattle.sig_subject.specs.declared.simple.Simple.{Simple}
use Rattle.sig_subject.specs.declared.simple.Simple.TheVariants as simple
use Rattle.sig_subject.specs.declared.member.Member.{Member}
use Rattle.sig_subject.specs.declared.subject.Subject.{Subject}
use Rattle.sig_subject.specs.declared.subject.Subject.TheVariants as subject
use Rattle.sig_subject.specs.Matching.{same_plain, same_plains, same_simple, same_parts, is_identical}

plain_equal : (a b : Plain) → (plain_eq.ghosts).eq a b ≡ same_plain a b
plain_equal (plain.Account a) (plain.Account b) = refl
plain_equal (plain.Email a) (plain.Email b) = refl
plain_equal (plain.IssSub a b) (plain.IssSub c d) = refl
plain_equal (plain.Opaque a) (plain.Opaque b) = refl
plain_equal (plain.Phone a) (plain.Phone b) = refl
plain_equal (plain.Did a) (plain.Did b) = refl
plain_equal (plain.Uri a) (plain.Uri b) = refl
plain_equal (plain.JwtId a b) (plain.JwtId c d) = refl
plain_equal (plain.Saml a b) (plain.Saml c d) = refl
plain_equal (plain.Unknown a) (plain.Unknown b) = refl
plain_equal a b = refl

plains_equal : (xs ys : List Plain) → pointwise (plain_eq.ghosts).eq xs ys ≡ same_plains xs ys
plains_equal [] [] = refl
plains_equal [] (y ∷ ys) = refl
plains_equal (x ∷ xs) [] = refl
plains_equal (x ∷ xs) (y ∷ ys) = ap₂ (λ a b. a && b) (plain_equal x y) (plains_equal xs ys)

simple_equal : (a b : Simple) → (simple_eq.ghosts).eq a b ≡ same_simple a b
simple_equal (simple.Plain a) (simple.Plain b) = plain_equal a b
simple_equal (simple.Plain a) (simple.Aliases ys) = refl
simple_equal (simple.Aliases xs) (simple.Plain b) = refl
simple_equal (simple.Aliases xs) (simple.Aliases ys) = plains_equal xs ys

parts_equal : (xs ys : List Member) → pointwise (member_eq.ghosts).eq xs ys ≡ same_parts xs ys
parts_equal [] [] = refl
parts_equal [] (y ∷ ys) = refl
parts_equal (x ∷ xs) [] = refl
parts_equal (x ∷ xs) (y ∷ ys) = ap₂ (λ a b. bytes_eq x.name y.name && a && b) (simple_equal x.simple y.simple) (parts_equal xs ys)

-- two subjects are equal as keys exactly where they are identical
pub equal_identical : (a b : Subject) → (subject_eq.ghosts).eq a b ≡ is_identical a b
equal_identical (subject.Simple a) (subject.Simple b) = simple_equal a b
equal_identical (subject.Simple a) (subject.Complex ys) = refl
equal_identical (subject.Complex xs) (subject.Simple b) = refl
equal_identical (subject.Complex xs) (subject.Complex ys) = parts_equal xs ys
