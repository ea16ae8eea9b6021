-- Pairs of which no two are equal are there once each.
use Rattle.std.proofs.Common.{◌≡◌, ◌<◌, ◌∙◌, ◌||◌, ℕ, zero, suc, List, [], ◌∷◌, Bool, true, false, not, ◌&&◌, length, take, get_or, refl, sym, ap, ap₂, arith}
use Rattle.std.proofs.lemmas.Bool.{and_parts}
use Rattle.std.proofs.lemmas.List.Folds.{list_any_at}
use Rattle.std.proofs.lemmas.Slice.Eq.{bytes_eq-Decides}
use Rattle.std.specs.List.{AllByRecursion, IsDistinct}
use Rattle.std.specs.Bool.{Decides}
use Rattle.std.specs.Str.{bytes_eq}
use Rattle.sig_inbox.specs.declared.pair.Pair.{Pair}
use Rattle.sig_inbox.specs.Pairs.{pair_eq, has_pair, are_distinct}

absent : (p : Pair) (ps : List Pair) → AllByRecursion (λ q. pair_eq p q ≡ false) ps → has_pair p ps ≡ false
absent p [] all = refl
absent p (q ∷ qs) all = rw all.0 (absent p qs all.1)

pub are_distinct_where_unique : (ps : List Pair) → IsDistinct pair_eq ps → are_distinct ps ≡ true
unfolding IsDistinct
are_distinct_where_unique [] unique = refl
are_distinct_where_unique (p ∷ ps) unique = rw (absent p ps unique.0) (are_distinct_where_unique ps unique.1)

-- equal pairs are equal the other way round
texts_turned : (a b : List ℕ) → bytes_eq a b ≡ true → bytes_eq b a ≡ true
texts_turned a b h = (bytes_eq-Decides b a).1 (sym ((bytes_eq-Decides a b).0 h))

both : (a b : Bool) → a ≡ true → b ≡ true → a && b ≡ true
both a b h k = rw (h, k) refl

turned : (p q : Pair) → pair_eq p q ≡ true → pair_eq q p ≡ true
turned p q h = let parts = and_parts _ _ h in both _ _ (texts_turned p.iss q.iss parts.0) (texts_turned p.jti q.jti parts.1)

-- a pair is found by its two texts
pub pair_decided : (p q : Pair) → Decides (pair_eq p q) (p ≡ q)
pair_decided p q = (
  λ h. let parts = and_parts _ _ h in
      let make : List ℕ → List ℕ → Pair = λ iss jti. record { iss = iss; jti = jti } in
      ap₂ make ((bytes_eq-Decides p.iss q.iss).0 parts.0) ((bytes_eq-Decides p.jti q.jti).0 parts.1),
  λ h. both _ _ ((bytes_eq-Decides p.iss q.iss).1 (ap (λ (r : Pair). r.iss) h)) ((bytes_eq-Decides p.jti q.jti).1 (ap (λ (r : Pair). r.jti) h)),
)

not_parts : (a b : Bool) → not a && b ≡ true → (a ≡ false) × (b ≡ true)
not_parts true b h = cc
not_parts false b h = (refl, h)

or_none : (a b : Bool) → (a ≡ true → true ≡ false) → b ≡ false → a || b ≡ false
or_none true b one other = one refl
or_none false b one other = other

-- of distinct pairs none stands before itself
pub new_at : (ps : List Pair) (i : ℕ) (d : Pair) → are_distinct ps ≡ true → i < length ps → has_pair (get_or ps i d) (take i ps) ≡ false
new_at [] i d distinct within = absurd (omega arith)
new_at (p ∷ ps) zero d distinct within = refl
new_at (p ∷ ps) (suc i) d distinct within =
    let parts = not_parts (has_pair p ps) (are_distinct ps) distinct in
    let inside : i < length ps = omega arith in
    let x : Pair = get_or ps i d in
    or_none (pair_eq x p) (has_pair x (take i ps))
    (λ same. sym (list_any_at (pair_eq p) ps i d inside (turned x p same)) ∙ parts.0)
    (new_at ps i d parts.1 inside)
