-- What holds of proper subjects, and of covering (OpenID Shared Signals Framework 1.0, section 4, for matching).
use Rattle.std.specs.Prelude.{◌≡◌, ◌↔◌, List, [], ◌∷◌, All, IsTrue, ⊤}
use Rattle.std.specs.Cmp.Lexicographic.{slice_cmp}
use Rattle.std.specs.Ordering.{nat_cmp}
use Rattle.std.specs.declared.cmp.Ordering.TheVariants.{Less}
use Rattle.sig_subject.specs.Matching.{is_covering, is_identical, is_matching}
use Rattle.sig_subject.specs.Written.{IsProperSubject, subject_text}
use Rattle.sig_subject.specs.declared.member.Member.{Member}
use Rattle.sig_subject.specs.declared.subject.Subject.{Subject}
use Rattle.sig_subject.specs.declared.subject.Subject.TheVariants as subject

-- each name is below all that follow, in byte order
abbrev pub PartsRise : List Member → Type 0
PartsRise [] = ⊤
PartsRise (m ∷ ms) = All (λ (n : Member). slice_cmp nat_cmp m.name n.name ≡ Less) ms × PartsRise ms

-- the parts of a proper complex subject rise, so that no name stands twice
abbrev pub ProperPartsRise : Type 0
ProperPartsRise = (parts : List Member) → IsProperSubject (subject.Complex parts) → PartsRise parts

-- a proper subject covers itself
abbrev pub CoversItself : Type 0
CoversItself = (a : Subject) → IsProperSubject a → IsTrue (is_covering a a)

-- what covers a subject covers what that subject covers
abbrev pub CoversOn : Type 0
CoversOn = (a b c : Subject) → IsTrue (is_covering a b) → IsTrue (is_covering b c) → IsTrue (is_covering a c)

-- two proper subjects match each way or not at all
abbrev pub MatchesBothWays : Type 0
MatchesBothWays = (a b : Subject) → IsProperSubject a → IsProperSubject b → is_matching a b ≡ is_matching b a

-- two proper subjects are identical exactly where they have one text
abbrev pub TextsIdentify : Type 0
TextsIdentify = (a b : Subject) → IsProperSubject a → IsProperSubject b → IsTrue (is_identical a b) ↔ (subject_text a ≡ subject_text b)
