-- What a walk over members has found, and what is left.
use Rattle.std.proofs.Common.{◌≡◌, ℕ, ◌+◌, ◌<◌, List, [], ◌∷◌, ◌++◌, take, drop, get_or, length, refl, sym, ap, ap₂, ◌∙◌, append_assoc, arith, zero, suc}
use Rattle.std.proofs.lemmas.List.{drop_more}
use Rattle.std.specs.Borrow.{Bor}
use Rattle.json.specs.Strict.{keys}
use Rattle.json.specs.Value.{members_view, value_view}
use Rattle.json.specs.declared.value.Value.{Value}
use Rattle.sig_settings.specs.declared.path.Step.TheVariants.{Member}
use Rattle.sig_stray.specs.declared.stray.Stray.{Stray}
use Rattle.sig_stray.specs.declared.table.ObjectKind.{ObjectKind}
use Rattle.sig_stray.specs.Strays.{held_strays, is_named, known_strays, member_strays, under}
use Rattle.sig_stray.specs.Table.{held}

-- the names of one more member
keys_next : {A : Type 0} (ms : List (Bor (List ℕ) × Value A)) (i : ℕ) (m : Bor (List ℕ) × Value A) → i < length ms → m ≡ get_or ms i m
    → keys (members_view (take (suc i) ms)) ≡ keys (members_view (take i ms)) ++ m.0.now ∷ []
keys_next [] i m within is = absurd (omega arith)
keys_next {A = A} (n ∷ ms) zero m within is = ap (λ (x : Bor (List ℕ) × Value A). x.0.now ∷ []) (sym is)
keys_next (n ∷ ms) (suc i) m within is = ap (λ ks. n.0.now ∷ ks) (keys_next ms i m (omega arith) is)

keys_more : {A : Type 0} (ms : List (Bor (List ℕ) × Value A)) (i : ℕ) (m : Bor (List ℕ) × Value A) → i < length ms → m ≡ get_or ms i m
    → keys (members_view (take (i + 1) ms)) ≡ keys (members_view (take i ms)) ++ m.0.now ∷ []
keys_more ms i m within is =
    let next : i + 1 ≡ suc i = omega arith in
    ap (λ n. keys (members_view (take n ms))) next ∙ keys_next ms i m within is

-- one more member: its strays come after those that were found
pub member_more : {A : Type 0} (kind : ObjectKind) (all : List Stray) (ms : List (Bor (List ℕ) × Value A)) (i : ℕ) (m : Bor (List ℕ) × Value A) → i < length ms → m ≡ get_or ms i m
    → all ++ member_strays kind (keys (members_view (take i ms))) (members_view (drop i ms))
    ≡ (all ++ under (Member m.0.now) (known_strays (held kind m.0.now) (is_named m.0.now (keys (members_view (take i ms)))) (λ h. held_strays h (value_view m.1))))
    ++ member_strays kind (keys (members_view (take (i + 1) ms))) (members_view (drop (i + 1) ms))
member_more kind all ms i m within is =
    let names = keys (members_view (take i ms)) in
    let here : drop i ms ≡ m ∷ drop (i + 1) ms = drop_more ms i m within ∙ ap (λ x. x ∷ drop (i + 1) ms) (sym is) in
    ap (λ xs. all ++ member_strays kind names (members_view xs)) here
    ∙ ap (λ ks. all ++ (under (Member m.0.now) (known_strays (held kind m.0.now) (is_named m.0.now names) (λ h. held_strays h (value_view m.1))) ++ member_strays kind ks (members_view (drop (i + 1) ms)))) (sym (keys_more ms i m within is))
    ∙ sym (append_assoc all _ _)
