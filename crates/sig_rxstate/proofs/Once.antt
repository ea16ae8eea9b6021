-- Items of which no two are alike: each is none of those before it.
use Rattle.std.proofs.Common.{◌≡◌, ◌∙◌, ap, sym, refl, List, [], ◌∷◌, ◌++◌, Bool, true, false, not, ◌&&◌, ◌||◌, append-nil, append_assoc}
use Rattle.std.specs.Prelude.{⊤}
use Rattle.std.specs.List.{list_any}
use Rattle.std.proofs.lemmas.List.Folds.{list_any-append}

-- each is none of those before it
abbrev pub AreNew : {T : Type 0} → (T → List T → Bool) → List T → List T → Type 0
AreNew is_known before [] = ⊤
AreNew is_known before (x ∷ xs) = (is_known x before ≡ false) × AreNew is_known (before ++ x ∷ []) xs

-- each is none of those after it
abbrev pub each_once : {T : Type 0} → (T → List T → Bool) → List T → Bool
each_once is_known [] = true
each_once is_known (x ∷ xs) = not (is_known x xs) && each_once is_known xs

-- what is known is like one of them, and likeness goes both ways
pub record IsLikeness {T : Type 0} (is_known : T → List T → Bool) (like : T → T → Bool) : Type 0 where
  pub any : (x : T) (xs : List T) → is_known x xs ≡ list_any (like x) xs
  pub turned : (x y : T) → like x y ≡ false → like y x ≡ false

not_parts : (a b : Bool) → not a && b ≡ true → (a ≡ false) × (b ≡ true)
not_parts true b h = cc
not_parts false b h = (refl, h)

or_parts : (a b : Bool) → a || b ≡ false → (a ≡ false) × (b ≡ false)
or_parts true b h = cc
or_parts false b h = (refl, h)

neither : (a b : Bool) → a ≡ false → b ≡ false → a || b ≡ false
neither a b h k = rw (h, k) refl

both_so : (a b : Bool) → a ≡ false → b ≡ true → not a && b ≡ true
both_so a b h k = rw (h, k) refl

-- one more, which is none of them
last_once : {T : Type 0} (is_known : T → List T → Bool) (like : T → T → Bool) → IsLikeness is_known like
    → (xs : List T) (x : T) → each_once is_known xs ≡ true → list_any (like x) xs ≡ false → each_once is_known (xs ++ x ∷ []) ≡ true
last_once is_known like likeness [] x once new = both_so (is_known x []) true (likeness.any x []) refl
last_once is_known like likeness (y ∷ ys) x once new =
    let parts = not_parts (is_known y ys) (each_once is_known ys) once in
    let apart = or_parts (like x y) (list_any (like x) ys) new in
    let later : list_any (like y) (ys ++ x ∷ []) ≡ false =
    list_any-append (like y) ys (x ∷ [])
    ∙ neither (list_any (like y) ys) (list_any (like y) (x ∷ [])) (sym (likeness.any y ys) ∙ parts.0) (neither (like y x) false (likeness.turned x y apart.0) refl) in
    both_so (is_known y (ys ++ x ∷ [])) (each_once is_known (ys ++ x ∷ [])) (likeness.any y (ys ++ x ∷ []) ∙ later)
    (last_once is_known like likeness ys x parts.1 apart.1)

-- one that stands after others is none of them
before_new : {T : Type 0} (is_known : T → List T → Bool) (like : T → T → Bool) → IsLikeness is_known like
    → (before : List T) (x : T) (xs : List T) → each_once is_known (before ++ x ∷ xs) ≡ true → list_any (like x) before ≡ false
before_new is_known like likeness [] x xs once = refl
before_new is_known like likeness (y ∷ ys) x xs once =
    let parts = not_parts (is_known y (ys ++ x ∷ xs)) (each_once is_known (ys ++ x ∷ xs)) once in
    let later : list_any (like y) ys || (like y x || list_any (like y) xs) ≡ false =
    sym (list_any-append (like y) ys (x ∷ xs)) ∙ sym (likeness.any y (ys ++ x ∷ xs)) ∙ parts.0 in
    let after = or_parts (list_any (like y) ys) (like y x || list_any (like y) xs) later in
    let apart = or_parts (like y x) (list_any (like y) xs) after.1 in
    neither (like x y) (list_any (like x) ys) (likeness.turned y x apart.0) (before_new is_known like likeness ys x xs parts.1)

moved : {T : Type 0} (before : List T) (x : T) (xs : List T) → (before ++ x ∷ []) ++ xs ≡ before ++ x ∷ xs
moved before x xs = append_assoc before (x ∷ []) xs

pub news_once : {T : Type 0} (is_known : T → List T → Bool) (like : T → T → Bool) → IsLikeness is_known like
    → (before xs : List T) → each_once is_known before ≡ true → AreNew is_known before xs → each_once is_known (before ++ xs) ≡ true
news_once is_known like likeness before [] once news = ap (each_once is_known) (append-nil before) ∙ once
news_once is_known like likeness before (x ∷ xs) once news =
    ap (each_once is_known) (sym (moved before x xs))
    ∙ news_once is_known like likeness (before ++ x ∷ []) xs (last_once is_known like likeness before x once (sym (likeness.any x before) ∙ news.0)) news.1

pub once_news : {T : Type 0} (is_known : T → List T → Bool) (like : T → T → Bool) → IsLikeness is_known like
    → (before xs : List T) → each_once is_known (before ++ xs) ≡ true → AreNew is_known before xs
once_news is_known like likeness before [] once = tt
once_news is_known like likeness before (x ∷ xs) once = (
  likeness.any x before ∙ before_new is_known like likeness before x xs once,
  once_news is_known like likeness (before ++ x ∷ []) xs (ap (each_once is_known) (moved before x xs) ∙ once),
)
