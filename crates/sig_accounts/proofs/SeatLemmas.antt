-- Seats of streams, in the order of the streams.
use Rattle.std.proofs.Common.{◌≡◌, ◌∙◌, ap, sym, subst, ℕ, zero, suc, ◌+◌, ◌<◌, ◌≤◌, List, [], ◌∷◌, ◌++◌, filter, get_or, length, map, take, drop, Bool, true, false, not, ◌&&◌, ◌||◌, Some, refl, true≢false, arith}
use Rattle.std.specs.List.{insert, list_any, remove, slice_get}
use Rattle.std.specs.Prelude.{nat_eq}
use Rattle.std.proofs.Math.ListN.{set}
use Rattle.std.proofs.lemmas.Bool.{eq-eqb, eqb-true}
use Rattle.std.proofs.lemmas.Option.{none-some, same_Some}
use Rattle.sig_subject.specs.declared.subject.Subject.{Subject}
use Rattle.sig_subject.specs.Matching.{is_identical}
use Rattle.sig_accounts.specs.Listening.{AreApart, AreBelow, is_listed_at}

-- ---- truths

or_swap : (a b c : Bool) → (a || (b || c)) ≡ (b || (a || c))
or_swap true true c = refl
or_swap true false c = refl
or_swap false b c = refl

neither : (a b : Bool) → (a || b) ≡ false → (a ≡ false) × (b ≡ false)
neither true b is = absurd (true≢false is)
neither false b is = (refl, is)

-- ---- a stream that lists nothing

pub opened_at : (s : Subject) (n : ℕ) (ks : List ℕ) (ls : List (List Subject)) (i k : ℕ) → length ks ≡ length ls → i ≤ length ks
    → is_listed_at s n (insert ks i k) (insert ls i []) ≡ is_listed_at s n ks ls
opened_at s n ks ls zero k long within = none (nat_eq n k) (is_listed_at s n ks ls)
  where
    none : (a b : Bool) → ((a && false) || b) ≡ b
    none true b = refl
    none false b = refl
opened_at s n [] ls (suc i) k long within = absurd (omega (arith, within))
opened_at s n (j ∷ ks) [] (suc i) k long within = absurd (omega (arith, long))
opened_at s n (j ∷ ks) (l ∷ ls) (suc i) k long within =
    ap (λ b. (nat_eq n j && list_any (is_identical s) l) || b) (opened_at s n ks ls i k (omega (arith, long)) (omega (arith, within)))

pub opened_long : {X : Type 0} (xs : List X) (i : ℕ) (x : X) → i ≤ length xs → length (insert xs i x) ≡ suc (length xs)
opened_long xs zero x within = refl
opened_long [] (suc i) x within = absurd (omega (arith, within))
opened_long (y ∷ ys) (suc i) x within = ap suc (opened_long ys i x (omega (arith, within)))

any_put : (n : ℕ) (ks : List ℕ) (i k : ℕ) → i ≤ length ks → list_any (nat_eq n) (insert ks i k) ≡ (nat_eq n k || list_any (nat_eq n) ks)
any_put n ks zero k within = refl
any_put n [] (suc i) k within = absurd (omega (arith, within))
any_put n (j ∷ ks) (suc i) k within =
    ap (λ b. nat_eq n j || b) (any_put n ks i k (omega (arith, within))) ∙ or_swap (nat_eq n j) (nat_eq n k) (list_any (nat_eq n) ks)

unequal : (a b : ℕ) → a < b → nat_eq a b ≡ false
unequal a b below = elim (nat_eq a b) as (λ t. nat_eq a b ≡ t → t ≡ false) [
  | true ↦ λ is. let same : a ≡ b = eqb-true a b is in absurd (omega (arith, same, below))
  | false ↦ λ is. refl
] refl

unequal_too : (a b : ℕ) → b < a → nat_eq a b ≡ false
unequal_too a b below = elim (nat_eq a b) as (λ t. nat_eq a b ≡ t → t ≡ false) [
  | true ↦ λ is. let same : a ≡ b = eqb-true a b is in absurd (omega (arith, same, below))
  | false ↦ λ is. refl
] refl

none_below : (n : ℕ) (ks : List ℕ) → AreBelow n ks → list_any (nat_eq n) ks ≡ false
none_below n [] below = refl
none_below n (k ∷ ks) below =
    ap (λ b. b || list_any (nat_eq n) ks) (unequal_too n k below.0) ∙ none_below n ks below.1

pub opened_apart : (n : ℕ) (ks : List ℕ) (i : ℕ) → i ≤ length ks → AreBelow n ks → AreApart ks → AreApart (insert ks i n)
opened_apart n ks zero within below apart = (none_below n ks below, apart)
opened_apart n [] (suc i) within below apart = absurd (omega (arith, within))
opened_apart n (k ∷ ks) (suc i) within below apart = (
  any_put k ks i n (omega (arith, within)) ∙ ap (λ b. b || list_any (nat_eq k) ks) (unequal k n below.0) ∙ apart.0,
  opened_apart n ks i (omega (arith, within)) below.1 apart.1,
)

higher : (m n : ℕ) (ks : List ℕ) → m ≤ n → AreBelow m ks → AreBelow n ks
higher m n [] rises below = tt
higher m n (k ∷ ks) rises below = (omega (arith, rises, below.0), higher m n ks rises below.1)

pub opened_below : (n : ℕ) (ks : List ℕ) (i : ℕ) → AreBelow n ks → AreBelow (n + 1) (insert ks i n)
opened_below n ks zero below = (omega arith, higher n (n + 1) ks (omega arith) below)
opened_below n [] (suc i) below = (omega arith, tt)
opened_below n (k ∷ ks) (suc i) below = (omega (arith, below.0), opened_below n ks i below.1)

-- ---- a list that changes

absent : (s : Subject) (n : ℕ) (ks : List ℕ) (ls : List (List Subject)) → list_any (nat_eq n) ks ≡ false → is_listed_at s n ks ls ≡ false
absent s n [] ls none = refl
absent s n (k ∷ ks) [] none = refl
absent s n (k ∷ ks) (l ∷ ls) none =
    let parts = neither (nat_eq n k) (list_any (nat_eq n) ks) none in
    ap (λ b. (b && list_any (is_identical s) l) || is_listed_at s n ks ls) parts.0 ∙ absent s n ks ls parts.1

pub changed_or : (s : Subject) (n : ℕ) (ks : List ℕ) (ls : List (List Subject)) (i k : ℕ) (l m : List Subject) (x : Bool)
    → slice_get ks i ≡ Some k → slice_get ls i ≡ Some l → list_any (is_identical s) m ≡ (list_any (is_identical s) l || x)
    → is_listed_at s n ks (set ls i m) ≡ (is_listed_at s n ks ls || (x && nat_eq n k))
changed_or s n [] ls i k l m x seat at is = absurd (none-some k seat)
changed_or s n (j ∷ ks) [] i k l m x seat at is = absurd (none-some l at)
changed_or s n (j ∷ ks) (o ∷ ls) zero k l m x seat at is =
    ap (λ b. (nat_eq n j && b) || is_listed_at s n ks ls) (is ∙ ap (λ (p : List Subject). list_any (is_identical s) p || x) (sym (same_Some o l at)))
    ∙ moved (nat_eq n j) (list_any (is_identical s) o) x (is_listed_at s n ks ls)
    ∙ ap (λ (p : ℕ). ((nat_eq n j && list_any (is_identical s) o) || is_listed_at s n ks ls) || (x && nat_eq n p)) (same_Some j k seat)
  where
    moved : (a b x c : Bool) → ((a && (b || x)) || c) ≡ (((a && b) || c) || (x && a))
    moved true true x c = refl
    moved true false true true = refl
    moved true false true false = refl
    moved true false false true = refl
    moved true false false false = refl
    moved false b true true = refl
    moved false b true false = refl
    moved false b false true = refl
    moved false b false false = refl
changed_or s n (j ∷ ks) (o ∷ ls) (suc i) k l m x seat at is =
    ap (λ b. (nat_eq n j && list_any (is_identical s) o) || b) (changed_or s n ks ls i k l m x seat at is)
    ∙ regrouped (nat_eq n j && list_any (is_identical s) o) (is_listed_at s n ks ls) (x && nat_eq n k)
  where
    regrouped : (a b c : Bool) → (a || (b || c)) ≡ ((a || b) || c)
    regrouped true b c = refl
    regrouped false b c = refl

equal_itself : (n : ℕ) → nat_eq n n ≡ true
equal_itself n = eq-eqb n n refl

pub seat_any : (ks : List ℕ) (i k : ℕ) → slice_get ks i ≡ Some k → list_any (nat_eq k) ks ≡ true
seat_any [] i k at = absurd (none-some k at)
seat_any (j ∷ ks) zero k at = ap (λ b. b || list_any (nat_eq k) ks) (ap (nat_eq k) (same_Some j k at) ∙ equal_itself k)
seat_any (j ∷ ks) (suc i) k at = either (nat_eq k j) (seat_any ks i k at)
  where
    either : (a : Bool) {b : Bool} → b ≡ true → (a || b) ≡ true
    either true is = refl
    either false is = is

-- a seat that stands once, in the first place and later
first_other : (j k n : ℕ) → nat_eq j k ≡ false → nat_eq n k ≡ true → nat_eq n j ≡ false
first_other j k n apart is =
    elim (nat_eq n j) as (λ b. nat_eq n j ≡ b → b ≡ false) [
      | true ↦ λ same. absurd (true≢false (sym is ∙ ap (λ m. nat_eq m k) (eqb-true n j same) ∙ apart))
      | false ↦ λ other. refl
    ] refl

no_other : (j : ℕ) (ks : List ℕ) (i k : ℕ) → list_any (nat_eq j) ks ≡ false → slice_get ks i ≡ Some k → nat_eq j k ≡ false
no_other j [] i k none at = absurd (none-some k at)
no_other j (h ∷ ks) zero k none at = ap (nat_eq j) (sym (same_Some h k at)) ∙ (neither (nat_eq j h) (list_any (nat_eq j) ks) none).0
no_other j (h ∷ ks) (suc i) k none at = no_other j ks i k (neither (nat_eq j h) (list_any (nat_eq j) ks) none).1 at

pub changed_and : (s : Subject) (n : ℕ) (ks : List ℕ) (ls : List (List Subject)) (i k : ℕ) (l m : List Subject) (x : Bool) → AreApart ks
    → slice_get ks i ≡ Some k → slice_get ls i ≡ Some l → list_any (is_identical s) m ≡ (list_any (is_identical s) l && not x)
    → is_listed_at s n ks (set ls i m) ≡ (is_listed_at s n ks ls && not (x && nat_eq n k))
changed_and s n [] ls i k l m x apart seat at is = absurd (none-some k seat)
changed_and s n (j ∷ ks) [] i k l m x apart seat at is = absurd (none-some l at)
changed_and s n (j ∷ ks) (o ∷ ls) zero k l m x apart seat at is =
    ap (λ b. (nat_eq n j && b) || is_listed_at s n ks ls) (is ∙ ap (λ (p : List Subject). list_any (is_identical s) p && not x) (sym (same_Some o l at)))
    ∙ elim (nat_eq n j) as (λ b. nat_eq n j ≡ b
    → ((b && (list_any (is_identical s) o && not x)) || is_listed_at s n ks ls)
    ≡ (((b && list_any (is_identical s) o) || is_listed_at s n ks ls) && not (x && b))) [
      | true ↦ λ same.
          let none : is_listed_at s n ks ls ≡ false =
          absent s n ks ls (ap (λ p. list_any (nat_eq p) ks) (eqb-true n j same) ∙ apart.0) in
          ap (λ b. (list_any (is_identical s) o && not x) || b) none ∙ mine (list_any (is_identical s) o) x
          ∙ ap (λ b. (list_any (is_identical s) o || b) && not (x && true)) (sym none)
      | false ↦ λ other. others (is_listed_at s n ks ls) x
    ] refl
    ∙ ap (λ (p : ℕ). ((nat_eq n j && list_any (is_identical s) o) || is_listed_at s n ks ls) && not (x && nat_eq n p)) (same_Some j k seat)
  where
    mine : (a x : Bool) → ((a && not x) || false) ≡ ((a || false) && not (x && true))
    mine true true = refl
    mine true false = refl
    mine false true = refl
    mine false false = refl

    others : (c x : Bool) → c ≡ (c && not (x && false))
    others true true = refl
    others true false = refl
    others false true = refl
    others false false = refl
changed_and s n (j ∷ ks) (o ∷ ls) (suc i) k l m x apart seat at is =
    ap (λ b. (nat_eq n j && list_any (is_identical s) o) || b) (changed_and s n ks ls i k l m x apart.1 seat at is)
    ∙ elim (nat_eq n k) as (λ b. nat_eq n k ≡ b
    → ((nat_eq n j && list_any (is_identical s) o) || (is_listed_at s n ks ls && not (x && b)))
    ≡ (((nat_eq n j && list_any (is_identical s) o) || is_listed_at s n ks ls) && not (x && b))) [
      | true ↦ λ same.
          let off : nat_eq n j ≡ false = first_other j k n (no_other j ks i k apart.0 seat) same in
          ap (λ b. (b && list_any (is_identical s) o) || (is_listed_at s n ks ls && not (x && true))) off
          ∙ ap (λ b. ((b && list_any (is_identical s) o) || is_listed_at s n ks ls) && not (x && true)) (sym off)
      | false ↦ λ other. off (nat_eq n j && list_any (is_identical s) o) (is_listed_at s n ks ls) x
    ] refl
  where
    off : (a b x : Bool) → (a || (b && not (x && false))) ≡ ((a || b) && not (x && false))
    off true b true = refl
    off true b false = refl
    off false b x = refl

-- ---- a stream that is taken away

pub closed_long : {X : Type 0} (xs : List X) (i : ℕ) (x : X) → slice_get xs i ≡ Some x → suc (length (remove xs i)) ≡ length xs
closed_long [] i x at = absurd (none-some x at)
closed_long (y ∷ ys) zero x at = refl
closed_long (y ∷ ys) (suc i) x at = ap suc (closed_long ys i x at)

any_closed : (n : ℕ) (ks : List ℕ) (i : ℕ) → list_any (nat_eq n) ks ≡ false → list_any (nat_eq n) (remove ks i) ≡ false
any_closed n [] zero none = refl
any_closed n [] (suc i) none = refl
any_closed n (k ∷ ks) zero none = (neither (nat_eq n k) (list_any (nat_eq n) ks) none).1
any_closed n (k ∷ ks) (suc i) none =
    let parts = neither (nat_eq n k) (list_any (nat_eq n) ks) none in
    ap (λ b. b || list_any (nat_eq n) (remove ks i)) parts.0 ∙ any_closed n ks i parts.1

pub closed_apart : (ks : List ℕ) (i : ℕ) → AreApart ks → AreApart (remove ks i)
closed_apart [] zero apart = tt
closed_apart [] (suc i) apart = tt
closed_apart (k ∷ ks) zero apart = apart.1
closed_apart (k ∷ ks) (suc i) apart = (any_closed k ks i apart.0, closed_apart ks i apart.1)

pub closed_below : (n : ℕ) (ks : List ℕ) (i : ℕ) → AreBelow n ks → AreBelow n (remove ks i)
closed_below n [] zero below = tt
closed_below n [] (suc i) below = tt
closed_below n (k ∷ ks) zero below = below.1
closed_below n (k ∷ ks) (suc i) below = (below.0, closed_below n ks i below.1)

pub closed_at : (s : Subject) (n : ℕ) (ks : List ℕ) (ls : List (List Subject)) (i k : ℕ) (l : List Subject) → AreApart ks
    → slice_get ks i ≡ Some k → slice_get ls i ≡ Some l
    → is_listed_at s n (remove ks i) (remove ls i) ≡ (is_listed_at s n ks ls && not (list_any (is_identical s) l && nat_eq n k))
closed_at s n [] ls i k l apart seat at = absurd (none-some k seat)
closed_at s n (j ∷ ks) [] i k l apart seat at = absurd (none-some l at)
closed_at s n (j ∷ ks) (o ∷ ls) zero k l apart seat at =
    elim (nat_eq n j) as (λ b. nat_eq n j ≡ b
    → is_listed_at s n ks ls ≡ (((b && list_any (is_identical s) o) || is_listed_at s n ks ls) && not (list_any (is_identical s) o && b))) [
      | true ↦ λ same.
          let none : is_listed_at s n ks ls ≡ false =
          absent s n ks ls (ap (λ p. list_any (nat_eq p) ks) (eqb-true n j same) ∙ apart.0) in
          none ∙ mine (list_any (is_identical s) o) ∙ ap (λ b. (list_any (is_identical s) o || b) && not (list_any (is_identical s) o && true)) (sym none)
      | false ↦ λ other. others (is_listed_at s n ks ls) (list_any (is_identical s) o)
    ] refl
    ∙ ap (λ (p : ℕ). ((nat_eq n j && list_any (is_identical s) o) || is_listed_at s n ks ls) && not (list_any (is_identical s) o && nat_eq n p)) (same_Some j k seat)
    ∙ ap (λ (p : List Subject). ((nat_eq n j && list_any (is_identical s) o) || is_listed_at s n ks ls) && not (list_any (is_identical s) p && nat_eq n k)) (same_Some o l at)
  where
    mine : (a : Bool) → false ≡ ((a || false) && not (a && true))
    mine true = refl
    mine false = refl

    others : (c x : Bool) → c ≡ (c && not (x && false))
    others true true = refl
    others true false = refl
    others false true = refl
    others false false = refl
closed_at s n (j ∷ ks) (o ∷ ls) (suc i) k l apart seat at =
    let x : Bool = list_any (is_identical s) l in
    ap (λ b. (nat_eq n j && list_any (is_identical s) o) || b) (closed_at s n ks ls i k l apart.1 seat at)
    ∙ elim (nat_eq n k) as (λ b. nat_eq n k ≡ b
    → ((nat_eq n j && list_any (is_identical s) o) || (is_listed_at s n ks ls && not (x && b)))
    ≡ (((nat_eq n j && list_any (is_identical s) o) || is_listed_at s n ks ls) && not (x && b))) [
      | true ↦ λ same.
          let off : nat_eq n j ≡ false = first_other j k n (no_other j ks i k apart.0 seat) same in
          ap (λ b. (b && list_any (is_identical s) o) || (is_listed_at s n ks ls && not (x && true))) off
          ∙ ap (λ b. ((b && list_any (is_identical s) o) || is_listed_at s n ks ls) && not (x && true)) (sym off)
      | false ↦ λ other. off (nat_eq n j && list_any (is_identical s) o) (is_listed_at s n ks ls) x
    ] refl
  where
    off : (a b x : Bool) → (a || (b && not (x && false))) ≡ ((a || b) && not (x && false))
    off true b true = refl
    off true b false = refl
    off false b x = refl

-- ---- one that lists a subject is found by its seat

pub listed_found : (s : Subject) (ks : List ℕ) (ls : List (List Subject)) (i k : ℕ) (l : List Subject) → slice_get ks i ≡ Some k → slice_get ls i ≡ Some l
    → list_any (is_identical s) l ≡ true → is_listed_at s k ks ls ≡ true
listed_found s [] ls i k l seat at is = absurd (none-some k seat)
listed_found s (j ∷ ks) [] i k l seat at is = absurd (none-some l at)
listed_found s (j ∷ ks) (o ∷ ls) zero k l seat at is =
    ap (λ b. (b && list_any (is_identical s) o) || is_listed_at s k ks ls) (ap (nat_eq k) (same_Some j k seat) ∙ equal_itself k)
    ∙ ap (λ b. b || is_listed_at s k ks ls) (ap (list_any (is_identical s)) (same_Some o l at) ∙ is)
listed_found s (j ∷ ks) (o ∷ ls) (suc i) k l seat at is = either (nat_eq k j && list_any (is_identical s) o) (listed_found s ks ls i k l seat at is)
  where
    either : (a : Bool) {b : Bool} → b ≡ true → (a || b) ≡ true
    either true is = refl
    either false is = is

-- ---- seats that are gone through

pub below_at : (n : ℕ) (ks : List ℕ) (i d : ℕ) → i < length ks → AreBelow n ks → get_or ks i d < n
below_at n [] i d within below = absurd (omega (arith, within))
below_at n (k ∷ ks) zero d within below = below.0
below_at n (k ∷ ks) (suc i) d within below = below_at n ks i d (omega (arith, within)) below.1

marked_next : (f : ℕ → Bool) (ks : List ℕ) (i d : ℕ) → i < length ks → map f (take (suc i) ks) ≡ map f (take i ks) ++ f (get_or ks i d) ∷ []
marked_next f [] i d within = absurd (omega (arith, within))
marked_next f (k ∷ ks) zero d within = refl
marked_next f (k ∷ ks) (suc i) d within = ap (λ l. f k ∷ l) (marked_next f ks i d (omega (arith, within)))

pub marked_more : (f : ℕ → Bool) (ks : List ℕ) (i d : ℕ) → i < length ks → map f (take (i + 1) ks) ≡ map f (take i ks) ++ f (get_or ks i d) ∷ []
marked_more f ks i d within =
    let one : i + 1 ≡ suc i = omega arith in
    ap (λ n. map f (take n ks)) one ∙ marked_next f ks i d within
