-- Tokens that were reported as faulty, in small: each is found by its number, and the last stay.
use Rattle.std.proofs.Common.{◌≡◌, ◌∙◌, ap, sym, ℕ, ◌+◌, ◌-◌, ◌<◌, ◌≤◌, List, [], ◌∷◌, ◌++◌, length, map, drop, take, filter, flat_map, eq-eqb, Bool, true, false, Option, Some, None, if◌then◌else◌, refl, append_assoc, append-nil, arith}
use Rattle.std.specs.Prelude.{◌==◌, cond, min, nat_le}
use Rattle.std.specs.List.{find, slice_get}
use Rattle.std.proofs.lemmas.Bool.{leb-false, leb-true, ne_eqb}
use Rattle.std.proofs.lemmas.List.{drop-append-le, drop-drop, drop-map, length-append, length-drop, length-map, map-append}
use Rattle.sig_json.specs.declared.limits.TheConstants.{LAST_NUMBER}
use Rattle.sig_terms.specs.declared.refused_token.RefusedToken.{RefusedToken}
use Rattle.sig_history.specs.declared.limits.TheConstants.{REFUSED_KEPT}
use Rattle.sig_history.specs.Refused.{Refusals, last_of, with_refused}
use Rattle.sig_history.specs.Streams.{Publication}
use Rattle.sig_accounts.specs.Debts.{is_from, is_to, numbered}
use Rattle.sig_accounts.specs.declared.debt.Debt.{Debt}
use Rattle.sig_accounts.specs.declared.kept_refusal.KeptRefusal.{KeptRefusal}
use Rattle.sig_accounts.specs.Reported.{Reported, is_number, last_reported, refusals_at, refused_at, with_reported}

-- ---- what comes behind others

-- some behind others
pub reported_join : (r : Reported) (ks ls : List KeptRefusal) → with_reported (with_reported r ks) ls ≡ with_reported r (ks ++ ls)
reported_join r [] ls = refl
reported_join r (j ∷ ks) [] = ap (with_reported r) (sym (append-nil (j ∷ ks)))
reported_join r (j ∷ ks) (l ∷ ls) =
    let all : List KeptRefusal = r.kept ++ j ∷ ks in
    let next : List KeptRefusal = l ∷ ls in
    let out : ℕ = length all - REFUSED_KEPT in
    let left : length (drop out all) ≡ length all - out = length-drop out all in
    let longer : length (all ++ next) ≡ length all + length next = length-append all next in
    let then_left : length (drop out all ++ next) ≡ length (drop out all) + length next = length-append (drop out all) next in
    let more : ℕ = length (drop out all ++ next) - REFUSED_KEPT in
    let whole : ℕ = length (all ++ next) - REFUSED_KEPT in
    let places : out + more ≡ whole = omega arith in
    let counts : min (min (r.before + out) LAST_NUMBER + more) LAST_NUMBER ≡ min (r.before + whole) LAST_NUMBER = omega arith in
    let lists : drop more (drop out all ++ next) ≡ drop whole (all ++ next) =
    ap (drop more) (sym (drop-append-le out all next (omega arith)))
    ∙ drop-drop more out (all ++ next) ∙ ap (λ n. drop n (all ++ next)) places in
    ap (λ n. record { before = n; kept = drop more (drop out all ++ next) }) counts
    ∙ ap (λ l. record { before = min (r.before + whole) LAST_NUMBER; kept = l }) lists
    ∙ ap (λ l. last_reported r.before l) (append_assoc r.kept (j ∷ ks) next)

-- one, and then the others
pub reported_first : (r : Reported) (k : KeptRefusal) (ks : List KeptRefusal) → with_reported (with_reported r (k ∷ [])) ks ≡ with_reported r (k ∷ ks)
reported_first r k ks = reported_join r (k ∷ []) ks

-- what they come to with further ones
pub refusals_with : (published : List Publication) (r : Reported) (ks : List KeptRefusal)
    → refusals_at published (with_reported r ks) ≡ with_refused (refusals_at published r) (map (refused_at published) ks)
refusals_with published r [] = refl
refusals_with published r (k ∷ ks) =
    let all : List KeptRefusal = r.kept ++ k ∷ ks in
    let told : List RefusedToken = map (refused_at published) r.kept ++ map (refused_at published) (k ∷ ks) in
    let same : map (refused_at published) all ≡ told = map-append (refused_at published) r.kept (k ∷ ks) in
    let long : length told ≡ length all = ap (λ l. length l) (sym same) ∙ length-map all (refused_at published) in
    ap (λ l. record { before = min (r.before + (length all - REFUSED_KEPT)) LAST_NUMBER; kept = l })
    (sym (drop-map (refused_at published) (length all - REFUSED_KEPT) all))
    ∙ ap (λ l. record { before = min (r.before + (length all - REFUSED_KEPT)) LAST_NUMBER; kept = drop (length all - REFUSED_KEPT) l }) same
    ∙ ap (λ n. record { before = min (r.before + (n - REFUSED_KEPT)) LAST_NUMBER; kept = drop (n - REFUSED_KEPT) told }) (sym long)

-- ---- the debt of a number

find_more : (n : ℕ) (d : Debt) (ds : List Debt) → find (is_number n) ds ≡ slice_get (numbered n n ds) 0
    → find (is_number n) (d ∷ ds) ≡ slice_get (numbered n n (d ∷ ds)) 0
find_more n d ds rest =
    let later : Option Debt = find (is_number n) ds in
    let low : List Debt = filter (is_to n) ds in
    let left : List Debt = numbered n n ds in
    let other : (d.number ≡ n → ⊥) → cond (d.number == n) (Some d) later ≡ slice_get left 0 =
    λ apart. ap (λ b. cond b (Some d) later) (ne_eqb d.number n apart) ∙ rest in
    elim (nat_le d.number n) as (λ a. nat_le d.number n ≡ a
    → cond (d.number == n) (Some d) later ≡ slice_get (filter (is_from n) (if a then d ∷ low else low)) 0) [
      | true ↦ λ to. elim (nat_le n d.number) as (λ b. nat_le n d.number ≡ b
          → cond (d.number == n) (Some d) later ≡ slice_get (if b then d ∷ left else left) 0) [
            | true ↦ λ from. (let below : d.number ≤ n = leb-true d.number n to in
                let above : n ≤ d.number = leb-true n d.number from in
                ap (λ b. cond b (Some d) later) (eq-eqb d.number n (omega arith)))
            | false ↦ λ from. other (λ is. let above : d.number < n = leb-false n d.number from in omega arith)
          ] refl
      | false ↦ λ to. other (λ is. let above : n < d.number = leb-false d.number n to in omega arith)
    ] refl

pub find_numbered : (n : ℕ) (ds : List Debt) → find (is_number n) ds ≡ slice_get (numbered n n ds) 0
find_numbered n [] = refl
find_numbered n (d ∷ ds) = find_more n d ds (find_numbered n ds)
