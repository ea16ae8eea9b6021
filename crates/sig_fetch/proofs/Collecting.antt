-- What is gathered of turns, one turn after another.
use Rattle.std.proofs.Common.{◌≡◌, ◌∙◌, ap, sym, ℕ, ◌+◌, ◌<◌, List, [], ◌∷◌, ◌++◌, length, get_or, take, filter_map, Option}
use Rattle.std.specs.List.{cons_option}
use Rattle.std.proofs.lemmas.List.{take_more}
use Rattle.std.proofs.lemmas.List.Elements.{filter_map-append}

-- with what the next one gives
pub one_more : {X Y : Type 0} (h : X → Option Y) (xs : List X) (i : ℕ) (x : X) (o : Option Y) (ys zs : List Y) → i < length xs → x ≡ get_or xs i x
    → ys ≡ filter_map h (take i xs) → o ≡ h x → zs ≡ ys ++ cons_option o [] → zs ≡ filter_map h (take (i + 1) xs)
one_more {X} {Y} h xs i x o ys zs below is had gives now =
    now ∙ ap (λ (l : List Y). l ++ cons_option o []) had ∙ ap (λ (p : Option Y). filter_map h (take i xs) ++ cons_option p []) gives
    ∙ sym (filter_map-append h (take i xs) (x ∷ []))
    ∙ ap (λ (y : X). filter_map h (take i xs ++ y ∷ [])) is
    ∙ sym (ap (filter_map h) (take_more xs i x below))
