-- Records of lists with one more, and how many there are.
use Rattle.std.proofs.Common.{◌≡◌, ◌∙◌, ap, sym, ℕ, suc, ◌+◌, ◌<◌, List, [], ◌∷◌, ◌++◌, length, map, Bool, true, false, Result, Ok, Err, refl, arith}
use Rattle.std.specs.Prelude.{IfOk, nat_lt}
use Rattle.std.proofs.lemmas.Bool.{le-leb, lt-leb}
use Rattle.std.proofs.Common.{length-append}
use Rattle.sig_outside.specs.KeptDisk.{Kept}
use Rattle.sig_journal.specs.Store.{pick}
use Rattle.sig_still.specs.Stores.{with_kept}

pub map_kept : {A B : Type 0} (f : A → B) (kept : Bool) (xs : List A) (x : A) → map f (with_kept kept xs x) ≡ with_kept kept (map f xs) (f x)
map_kept f true xs x = map_more f xs x
  where
    map_more : {A B : Type 0} (f : A → B) (xs : List A) (x : A) → map f (xs ++ x ∷ []) ≡ map f xs ++ f x ∷ []
    map_more f [] x = refl
    map_more f (y ∷ ys) x = ap (λ l. f y ∷ l) (map_more f ys x)
map_kept f false xs x = refl

-- there is one more exactly where it was kept
pub kept_count : {A : Type 0} (kept : Bool) (xs : List A) (x : A) → nat_lt (length xs) (length (with_kept kept xs x)) ≡ kept
kept_count true xs x = le-leb (suc (length xs)) (length (xs ++ x ∷ [])) (omega (arith, length-append xs (x ∷ [])))
kept_count false xs x = lt-leb (suc (length xs)) (length xs) (omega arith)

-- a fact on a success gives another
pub if_ok : {T E : Type 0} {P Q : T → Type 0} (r : Result T E) → ((x : T) → P x → Q x) → IfOk r P → IfOk r Q
if_ok (Ok x) f h = f x h
if_ok (Err e) f h = tt

-- of two files that aren't short, the one in force isn't
pub picked_whole : (in_b : Bool) (written other : Kept) → (pick in_b written other).short ≡ false → (pick in_b other written).short ≡ false → written.short ≡ false
picked_whole true written other a b = b
picked_whole false written other a b = a

-- a fault is the same whatever was to come in its place
pub err_same : {A B E : Type 0} (x y : E) → (let r : Result A E = Err x in r ≡ Err y) → (let r : Result B E = Err x in r ≡ Err y)
err_same x y h = ap (λ e. Err e) (inside x y h)
  where
    inside : {A E : Type 0} (x y : E) → (let r : Result A E = Err x in r ≡ Err y) → x ≡ y
    inside x y h = cc h
