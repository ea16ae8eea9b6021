-- How streams that are held in memory change.
use Rattle.std.proofs.Common.{◌≡◌, ◌≢◌, ◌∙◌, ap, sym, subst, ℕ, ◌+◌, ◌<◌, List, ◌++◌, length, map, take, drop, get_or, get_or-set_other, get_or-set_same, below_more, arith}
use Rattle.std.proofs.lemmas.List.{map-set, length-map}
use Rattle.std.proofs.Math.ListN.{set, get_or-map}
use Rattle.std.proofs.lemmas.List.Edits.{map_over_more}
use Rattle.sig_accounts.specs.Owings.{Owing, Balance, owing_in}

-- a loop that changes what each stream owes
pub over_more : (f : Owing → Owing) (old now : List Balance) (i : ℕ) (r new : Balance) → i < length old
    → map owing_in now ≡ map f (take i (map owing_in old)) ++ drop i (map owing_in old)
    → r ≡ get_or now i r → new.owing ≡ f (get_or now i r).owing
    → map owing_in (set now i new) ≡ map f (take (i + 1) (map owing_in old)) ++ drop (i + 1) (map owing_in old)
over_more f old now i r new within so_far read is =
    let x : Balance = get_or now i r in
    let same : x.owing ≡ get_or (map owing_in now) i x.owing =
    ap owing_in (ap (get_or now i) read) ∙ sym (get_or-map owing_in now i x) in
    map-set owing_in now i new
    ∙ ap (set (map owing_in now) i) is
    ∙ map_over_more f (map owing_in old) (map owing_in now) i x.owing (omega (arith, length-map old owing_in)) so_far same

-- one more stream of which it holds
pub holds_more : (P : Balance → Type 0) (bs : List Balance) (i : ℕ) (new : Balance) → i < length bs
    → ((k : ℕ) (d : Balance) → k < i → P (get_or bs k d)) → P new → (k : ℕ) (d : Balance) → k < i + 1 → P (get_or (set bs i new) k d)
holds_more P bs i new within so_far now k d h =
    below_more (λ k. P (get_or (set bs i new) k d)) _
    (λ k h. let ne : k ≢ i = omega arith in subst P (sym (get_or-set_other _ _ _ _ d ne)) (so_far k d h))
    (subst P (sym (get_or-set_same bs i new d within)) now) k h
