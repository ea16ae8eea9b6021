-- What a loop over bearers has read: those of the items before, after the first one.
use Rattle.std.proofs.Common.{◌≡◌, ◌∙◌, ap, sym, ℕ, ◌+◌, ◌<◌, List, [], ◌∷◌, ◌++◌, Bool, true, false, Option, Some, length, take, drop, get_or, add-one, refl}
use Rattle.std.specs.Prelude.{◌||◌, bytes_eq, map, codes, if◌then◌else◌}
use Rattle.std.specs.List.{list_any}
use Rattle.std.proofs.lemmas.List.{take_more}
use Rattle.std.proofs.Math.Seq.{drop-cons}
use Rattle.sig_settings.specs.declared.path.Step.TheVariants.{Member, Place}
use Rattle.sig_settings.specs.Bearers.{placed_from, repeated, was_read}
use Rattle.sig_settings.specs.Lists.{is_among}
use Rattle.sig_settings.specs.Paths.{Path}

-- what was read before an item is the first bearer, or one of the items before
read_among : {T : Type 0} (text : T → List ℕ) (first bearer : List ℕ) (done : List T)
    → was_read (first ∷ map text done) bearer ≡ (bytes_eq first bearer || is_among text bearer done)
read_among {T} text first bearer done = ap (λ t. bytes_eq first bearer || t) (mapped done)
  where
    mapped : (xs : List T) → list_any (λ b. bytes_eq b bearer) (map text xs) ≡ list_any (λ x. bytes_eq (text x) bearer) xs
    mapped [] = refl
    mapped (x ∷ xs) = ap (λ t. bytes_eq (text x) bearer || t) (mapped xs)

-- one more
read_more : {T : Type 0} (text : T → List ℕ) (done : List T) (x : T) → map text (done ++ x ∷ []) ≡ map text done ++ text x ∷ []
read_more text [] x = refl
read_more text (y ∷ ys) x = ap (λ t. text y ∷ t) (read_more text ys x)

abbrev told_or : Bool → Path → Option Path → Option Path
told_or b path rest = if b then Some path else rest

-- where the bearer of an item stands
abbrev bearer_path : List ℕ → ℕ → Path
bearer_path name i = Member name ∷ Place i ∷ Member (codes "bearer") ∷ []

-- what is told from this item on
abbrev from_here : {T : Type 0} → (T → List ℕ) → List ℕ → List ℕ → List T → ℕ → Option Path
from_here text first name items i = repeated (first ∷ map text (take i items)) (placed_from text name i (drop i items))

-- an item is told, or those after it decide
decides : {T : Type 0} (text : T → List ℕ) (first name : List ℕ) (items : List T) (i : ℕ) (x : T) → i < length items → x ≡ get_or items i x
    → from_here text first name items i
    ≡ told_or (bytes_eq first (text x) || is_among text (text x) (take i items)) (bearer_path name i) (from_here text first name items (i + 1))
decides {T} text first name items i x within read =
    let rest : List T = drop (i + 1) items in
    let read_now : List (List ℕ) = first ∷ map text (take i items) in
    let cut : drop i items ≡ x ∷ rest =
    drop-cons items i x within ∙ ap (λ n. get_or items i x ∷ drop n items) (sym (add-one i)) ∙ ap (λ y. y ∷ rest) (sym read) in
    let longer : read_now ++ text x ∷ [] ≡ first ∷ map text (take (i + 1) items) =
    ap (λ l. first ∷ l) (sym (read_more text (take i items) x) ∙ ap (map text) (ap (λ y. take i items ++ y ∷ []) read ∙ sym (take_more items i x within))) in
    ap (λ l. repeated read_now (placed_from text name i l)) cut
    ∙ ap (λ b. told_or b (bearer_path name i) (repeated (read_now ++ text x ∷ []) (placed_from text name (i + 1) rest))) (read_among text first (text x) (take i items))
    ∙ ap (λ l. told_or (bytes_eq first (text x) || is_among text (text x) (take i items)) (bearer_path name i) (repeated l (placed_from text name (i + 1) rest))) longer

-- whether an item's bearer was read, by the code's test of it
tested : {T : Type 0} (text : T → List ℕ) (first bearer : List ℕ) (items front : List T) (i : ℕ) (x : T) (b : Bool) → bearer ≡ text x → front ≡ take i items
    → b ≡ (bytes_eq first bearer || is_among text bearer front) → (bytes_eq first (text x) || is_among text (text x) (take i items)) ≡ b
tested text first bearer items front i x b said cut is =
    sym (is ∙ ap (λ t. bytes_eq first t || is_among text t front) said ∙ ap (λ l. bytes_eq first (text x) || is_among text (text x) l) cut)

-- an item whose bearer was read is told
pub told_here : {T : Type 0} (text : T → List ℕ) (first bearer name : List ℕ) (items front : List T) (i : ℕ) (x : T) (b : Bool) → i < length items → x ≡ get_or items i x
    → bearer ≡ text x → front ≡ take i items → b ≡ (bytes_eq first bearer || is_among text bearer front) → b ≡ true
    → repeated (first ∷ map text (take i items)) (placed_from text name i (drop i items)) ≡ Some (Member name ∷ Place i ∷ Member (codes "bearer") ∷ [])
told_here text first bearer name items front i x b within read said cut is read_before =
    decides text first name items i x within read
    ∙ ap (λ t. told_or t (bearer_path name i) (from_here text first name items (i + 1))) (tested text first bearer items front i x b said cut is ∙ read_before)

-- after an item whose bearer wasn't read the next ones decide
pub told_later : {T : Type 0} (text : T → List ℕ) (first bearer name : List ℕ) (items front : List T) (i : ℕ) (x : T) (b : Bool) → i < length items → x ≡ get_or items i x
    → bearer ≡ text x → front ≡ take i items → b ≡ (bytes_eq first bearer || is_among text bearer front) → b ≡ false
    → repeated (first ∷ map text (take i items)) (placed_from text name i (drop i items))
    ≡ repeated (first ∷ map text (take (i + 1) items)) (placed_from text name (i + 1) (drop (i + 1) items))
told_later text first bearer name items front i x b within read said cut is new =
    decides text first name items i x within read
    ∙ ap (λ t. told_or t (bearer_path name i) (from_here text first name items (i + 1))) (tested text first bearer items front i x b said cut is ∙ new)
