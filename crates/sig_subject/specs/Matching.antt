-- When subjects are identical, match, or one covers the other (OpenID Shared Signals Framework 1.0, section 4, for matching of complex
-- subjects; covering is this project's own).
use Rattle.std.specs.Prelude.{◌≡◌, ◌↔◌, ◌&&◌, ℕ, List, [], ◌∷◌, Bool, true, false, Option, Some, None, IsTrue, bytes_eq, find, option_map}
use Rattle.std.specs.List.{list_all, list_any}
use Rattle.sig_subject.specs.declared.plain.Plain.{Plain}
use Rattle.sig_subject.specs.declared.plain.Plain.TheVariants as plain
use Rattle.sig_subject.specs.declared.simple.Simple.{Simple}
use Rattle.sig_subject.specs.declared.simple.Simple.TheVariants as simple
use Rattle.sig_subject.specs.declared.member.Member.{Member}
use Rattle.sig_subject.specs.declared.subject.Subject.{Subject}
use Rattle.sig_subject.specs.declared.subject.Subject.TheVariants as subject

-- equal in kind and in every member, texts byte for byte
abbrev pub same_plain : Plain → Plain → Bool
same_plain (plain.Account a) (plain.Account b) = bytes_eq a b
same_plain (plain.Email a) (plain.Email b) = bytes_eq a b
same_plain (plain.IssSub a b) (plain.IssSub c d) = bytes_eq a c && bytes_eq b d
same_plain (plain.Opaque a) (plain.Opaque b) = bytes_eq a b
same_plain (plain.Phone a) (plain.Phone b) = bytes_eq a b
same_plain (plain.Did a) (plain.Did b) = bytes_eq a b
same_plain (plain.Uri a) (plain.Uri b) = bytes_eq a b
same_plain (plain.JwtId a b) (plain.JwtId c d) = bytes_eq a c && bytes_eq b d
same_plain (plain.Saml a b) (plain.Saml c d) = bytes_eq a c && bytes_eq b d
same_plain (plain.Unknown a) (plain.Unknown b) = bytes_eq a b
same_plain a b = false

-- the same identifiers in the same order
abbrev pub same_plains : List Plain → List Plain → Bool
same_plains [] [] = true
same_plains (a ∷ xs) (b ∷ ys) = same_plain a b && same_plains xs ys
same_plains xs ys = false

abbrev pub same_simple : Simple → Simple → Bool
same_simple (simple.Plain a) (simple.Plain b) = same_plain a b
same_simple (simple.Aliases xs) (simple.Aliases ys) = same_plains xs ys
same_simple a b = false

-- the same parts under the same names in the same order
abbrev pub same_parts : List Member → List Member → Bool
same_parts [] [] = true
same_parts (a ∷ xs) (b ∷ ys) = bytes_eq a.name b.name && same_simple a.simple b.simple && same_parts xs ys
same_parts xs ys = false

abbrev pub is_identical : Subject → Subject → Bool
is_identical (subject.Simple a) (subject.Simple b) = same_simple a b
is_identical (subject.Complex xs) (subject.Complex ys) = same_parts xs ys
is_identical a b = false

-- identical subjects are one value
abbrev pub DecidesIdentity : Type 0
DecidesIdentity = (a b : Subject) → IsTrue (is_identical a b) ↔ (a ≡ b)

-- the part of this name
abbrev pub part_named : List ℕ → List Member → Option Simple
part_named name members = option_map (λ (m : Member). m.simple) (find (λ (m : Member). bytes_eq name m.name) members)

-- the other part is identical; where it isn't there, this answer
abbrev pub agrees : Bool → Simple → Option Simple → Bool
agrees missing s None = missing
agrees missing s (Some t) = same_simple s t

-- each part agrees with the one of its name
abbrev pub all_agree : Bool → List Member → List Member → Bool
all_agree missing xs ys = list_all (λ (m : Member). agrees missing m.simple (part_named m.name ys)) xs

-- two simple subjects that are identical, or two complex ones of which no name has two parts that differ; never one of each
abbrev pub is_matching : Subject → Subject → Bool
is_matching (subject.Simple a) (subject.Simple b) = same_simple a b
is_matching (subject.Complex xs) (subject.Complex ys) = all_agree true xs ys
is_matching a b = false

-- the second subject is identical to the first or has it as a part, or both are complex and the second has each part of the first;
-- a complex subject never covers a simple one
abbrev pub is_covering : Subject → Subject → Bool
is_covering (subject.Simple a) (subject.Simple b) = same_simple a b
is_covering (subject.Simple a) (subject.Complex ys) = list_any (λ (m : Member). same_simple a m.simple) ys
is_covering (subject.Complex xs) (subject.Complex ys) = all_agree false xs ys
is_covering (subject.Complex xs) (subject.Simple b) = false
