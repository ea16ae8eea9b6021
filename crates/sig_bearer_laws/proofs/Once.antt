-- Bearers that were read in turn, none of which was read before: each stands once.
use Rattle.std.proofs.Common.{◌≡◌, ◌∙◌, ap, sym, subst, ℕ, suc, ◌+◌, ◌<◌, List, [], ◌∷◌, ◌++◌, length, Bool, true, false, ◌||◌, Option, Some, None, refl, true≢false, arith, append_assoc, append-nil, length-append}
use Rattle.std.specs.Prelude.{Result, Ok, Err, bytes_eq, map, get_or, nat_lt, Contains, if◌then◌else◌}
use Rattle.std.specs.List.{IsDistinct, list_any}
use Rattle.std.proofs.lemmas.Bool.{ltb-false, ltb-true}
use Rattle.std.proofs.lemmas.Cmp.{nat_list_eq_equiv}
use Rattle.std.proofs.lemmas.List.{get_or-append-add, get_or-map, get_or_append_left, get_or_default, length-map}
use Rattle.std.proofs.lemmas.Map.Keys.{IsDistinct-push, apart_from_distinct}
use Rattle.std.proofs.lemmas.Slice.Eq.{bytes_eq-Decides}
use Rattle.sig_settings.specs.Bearers.{Placed, differ, placed_from, repeated, unless_at, was_read}
use Rattle.sig_bearer_laws.specs.Bearers.{EachOnce}

-- ---- the reader's walk

was_read_is : (read : List (List ℕ)) (b : List ℕ) → was_read read b ≡ list_any (bytes_eq b) read
was_read_is [] b = refl
was_read_is (x ∷ xs) b = ap (λ t. t || was_read xs b) (nat_list_eq_equiv.symm x b) ∙ ap (λ t. bytes_eq b x || t) (was_read_is xs b)

-- one more bearer, which wasn't read before
pushed : (read : List (List ℕ)) (b : List ℕ) → IsDistinct bytes_eq read → was_read read b ≡ false → IsDistinct bytes_eq (read ++ b ∷ [])
pushed read b once is = IsDistinct-push nat_list_eq_equiv read b once (sym (was_read_is read b) ∙ is)

alone : (b : List ℕ) → IsDistinct bytes_eq (b ∷ [])
unfolding IsDistinct
alone b = (tt, tt)

abbrev pub bearers : List Placed → List (List ℕ)
bearers ps = map (λ (p : Placed). p.bearer) ps

-- where none was read before, all are distinct
walked : (read : List (List ℕ)) (ps : List Placed) → IsDistinct bytes_eq read → repeated read ps ≡ None → IsDistinct bytes_eq (read ++ bearers ps)
walked read [] once none = subst (IsDistinct bytes_eq) (sym (append-nil read)) once
walked read (p ∷ ps) once none = at (was_read read p.bearer) refl (λ is. walked (read ++ p.bearer ∷ []) ps (pushed read p.bearer once is)) none
  where
    at : (t : Bool) → was_read read p.bearer ≡ t
        → (was_read read p.bearer ≡ false → repeated (read ++ p.bearer ∷ []) ps ≡ None → IsDistinct bytes_eq ((read ++ p.bearer ∷ []) ++ bearers ps))
        → (if t then Some p.path else repeated (read ++ p.bearer ∷ []) ps) ≡ None → IsDistinct bytes_eq (read ++ p.bearer ∷ bearers ps)
    at true is rest here = cc
    at false is rest later = subst (IsDistinct bytes_eq) (append_assoc read (p.bearer ∷ []) (bearers ps)) (rest is later)

none_is : (read : List (List ℕ)) (ps : List Placed) (u : Unit {0}) → differ read ps ≡ Ok u → repeated read ps ≡ None
none_is read ps u h = at (repeated read ps) refl h
  where
    at : (o : Option _) → repeated read ps ≡ o → unless_at o ≡ Ok u → repeated read ps ≡ None
    at None is h = is
    at (Some path) is h = cc

-- bearers that differ from those that were read, and from each other
pub differ_once : (read : List (List ℕ)) (ps : List Placed) (u : Unit {0}) → IsDistinct bytes_eq read → differ read ps ≡ Ok u → IsDistinct bytes_eq (read ++ bearers ps)
differ_once read ps u once h = walked read ps once (none_is read ps u h)

-- those of a list's items
pub items_once : {T : Type 0} (text : T → List ℕ) (name first : List ℕ) (xs : List T) (u : Unit {0})
    → differ (first ∷ []) (placed_from text name 0 xs) ≡ Ok u → IsDistinct bytes_eq (first ∷ map text xs)
items_once {T} text name first xs u h = subst (λ bs. IsDistinct bytes_eq (first ∷ bs)) (same 0 xs) (differ_once (first ∷ []) (placed_from text name 0 xs) u (alone first) h)
  where
    same : (n : ℕ) (ys : List T) → bearers (placed_from text name n ys) ≡ map text ys
    same n [] = refl
    same n (y ∷ ys) = ap (λ bs. text y ∷ bs) (same (n + 1) ys)

-- ---- by places

apart : (bs : List (List ℕ)) (i j : ℕ) → IsDistinct bytes_eq bs → i < j → j < length bs → get_or bs i [] ≡ get_or bs j [] → ⊥
apart bs i j once below within same =
    true≢false (sym ((bytes_eq-Decides (get_or bs i []) (get_or bs j [])).1 same) ∙ apart_from_distinct bytes_eq bs i j [] once below within)

pub each_once : (bs : List (List ℕ)) → IsDistinct bytes_eq bs → EachOnce bs
each_once bs once i j i_in j_in same = at (nat_lt i j) (nat_lt j i) refl refl
  where
    at : (s t : Bool) → nat_lt i j ≡ s → nat_lt j i ≡ t → i ≡ j
    at true t less more = absurd (apart bs i j once (ltb-true i j less) j_in same)
    at false true less more = absurd (apart bs j i once (ltb-true j i more) i_in (sym same))
    at false false less more = let a = ltb-false i j less in let b = ltb-false j i more in omega (arith, a, b)

-- ---- the items of a list beside a first bearer

-- an item's bearer stands at the place after the item's
pub placed_at : {T : Type 0} (text : T → List ℕ) (first : List ℕ) (xs : List T) (x : T) (k : ℕ) → k < length xs → get_or xs k x ≡ x → get_or (first ∷ map text xs) (suc k) [] ≡ text x
placed_at text first xs x k below is = get_or-map text xs k x [] below ∙ ap text is

pub within : {T : Type 0} (text : T → List ℕ) (first : List ℕ) (xs : List T) (k : ℕ) → k < length xs → suc k < length (first ∷ map text xs)
within text first xs k below = let same = length-map xs text in omega (arith, below, same)

-- none has the first
pub none_first : {T : Type 0} (text : T → List ℕ) (first : List ℕ) (xs : List T) (x : T) → EachOnce (first ∷ map text xs) → Contains xs x → text x ≡ first → ⊥
none_first text first xs x once (k, below, is) same =
    let places : 0 ≡ suc k = once 0 (suc k) (omega arith) (within text first xs k below) (sym (placed_at text first xs x k below is ∙ same)) in omega (arith, places)

-- and items with one bearer are one item
pub one_item : {T : Type 0} (text : T → List ℕ) (first : List ℕ) (xs : List T) (x y : T) → EachOnce (first ∷ map text xs) → Contains xs x → Contains xs y → text x ≡ text y → x ≡ y
one_item text first xs x y once (k, k_in, k_is) (l, l_in, l_is) same =
    let there : suc k ≡ suc l = once (suc k) (suc l) (within text first xs k k_in) (within text first xs l l_in)
    (placed_at text first xs x k k_in k_is ∙ same ∙ sym (placed_at text first xs y l l_in l_is)) in
    let places : k ≡ l = omega (arith, there) in
    sym k_is ∙ ap (λ n. get_or xs n x) places ∙ get_or_default xs l x y l_in ∙ l_is

-- ---- a last bearer

-- none of the others is it
pub none_last : (bs : List (List ℕ)) (b : List ℕ) (k : ℕ) → EachOnce (bs ++ b ∷ []) → k < length bs → get_or bs k [] ≡ b → ⊥
none_last bs b k once below is =
    let len = length-append bs (b ∷ []) in
    let places : k ≡ length bs + 0 = once k (length bs + 0) (omega (arith, below, len)) (omega (arith, len)) (get_or_append_left bs (b ∷ []) [] k below ∙ is ∙ sym (get_or-append-add bs (b ∷ []) 0 [])) in
    omega (arith, below, places)
