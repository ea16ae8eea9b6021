use Rattle.std.specs.Cmp.{partial_equiv_from_equiv}
use Rattle.std.specs.Cmp.Lexicographic.{nat_list_eq_equiv}
use Rattle.std.proofs.Common.{◌≡◌, ◌∙◌, ap, ℕ, List, [], ◌∷◌, map, Bor, ◌||◌, bytes_eq, refl}
use Rattle.std.specs.List.{list_any}
use Rattle.sig_subject.proofs.names.is_listed.Goals as goal

turned : (a b : List ℕ) → bytes_eq a b ≡ bytes_eq b a
turned a b = (partial_equiv_from_equiv nat_list_eq_equiv).symm a b

named : (name : List ℕ) (ns : List (Bor (List ℕ)))
    → list_any (λ (n : Bor (List ℕ)). bytes_eq n.now name) ns ≡ list_any (bytes_eq name) (map (λ (n : Bor (List ℕ)). n.now) ns)
named name [] = refl
named name (n ∷ ns) =
    ap (λ b. b || list_any (λ (m : Bor (List ℕ)). bytes_eq m.now name) ns) (turned n.now name)
    ∙ ap (λ b. bytes_eq name n.now || b) (named name ns)

-- src/names.rt:11:1
pub returns : goal.returns
returns c = c.contains.ensures.value ∙ named c.args.name.now c.args.names.now
