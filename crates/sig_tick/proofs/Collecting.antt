-- Lists that are gone through item by item.
use Rattle.std.proofs.Common.{◌≡◌, ◌∙◌, ap, sym, ℕ, suc, ◌+◌, ◌<◌, List, [], ◌∷◌, length, get_or, take, drop, ◌-◌, drop-cons, add-one, refl, arith}
use Rattle.std.proofs.Math.Seq.{take-length}
use Rattle.std.proofs.lemmas.List.{length-drop}
use Rattle.sig_round.specs.Turns.{Asker}

-- what is left, with the next item
pub next_item : {X : Type 0} (xs : List X) (i : ℕ) (x : X) → i < length xs → x ≡ get_or xs i x → drop i xs ≡ x ∷ drop (i + 1) xs
next_item {X} xs i x h e = drop-cons xs i x h ∙ ap (λ (y : X). y ∷ drop (suc i) xs) (sym e) ∙ ap (λ n. x ∷ drop n xs) (sym (add-one i))

-- the part of a list from there on
pub rest_is : {X : Type 0} (xs : List X) (i : ℕ) → take (length xs - i) (drop i xs) ≡ drop i xs
rest_is xs i = ap (λ m. take m (drop i xs)) (sym (length-drop i xs)) ∙ take-length (drop i xs)

-- a list of no items
pub none_of : {X : Type 0} (xs : List X) → length xs ≡ 0 → xs ≡ []
none_of [] h = refl
none_of (x ∷ xs) h = absurd (omega (arith, h))

-- the same link at the same time
pub same_asker : (link link' now now' : ℕ) → link ≡ link' → now ≡ now' → ◌≡◌ {A = Asker} (record { link = link; now = now }) (record { link = link'; now = now' })
same_asker link link' now now' e f = λ k. record { link = e k; now = f k }
