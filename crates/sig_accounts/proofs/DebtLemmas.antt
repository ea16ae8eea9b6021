-- Debts in order of number, and those that are left of them.
use Rattle.std.proofs.Common.{◌≡◌, ◌∙◌, ap, subst, sym, ℕ, zero, suc, ◌+◌, ◌<◌, ◌≤◌, List, [], ◌∷◌, ◌++◌, length, filter, take, drop, get_or, add-one, drop-cons, ◌==◌, eq-eqb, ◌||◌, Bool, true, false, not, nat_le, nat_lt, if◌then◌else◌, refl, arith}
use Rattle.std.specs.Prelude.{All}
use Rattle.std.specs.List.{AllWithin, list_any, swap}
use Rattle.std.specs.List.Sorted.{IsNonDecreasingBy}
use Rattle.std.proofs.lemmas.Bool.{le-leb, leb-false, leb-true, ltb-false, ltb-true, ne_eqb}
use Rattle.std.proofs.Math.ListN.{set}
use Rattle.std.proofs.Math.Seq.{take-append_seam}
use Rattle.std.proofs.lemmas.List.{drop-drop, drop-take, drop-set, drop-set-lt, get_or-take, length-set, take-set, take-set-le}
use Rattle.std.proofs.lemmas.List.Edits.{swap_is}
use Rattle.std.proofs.lemmas.List.Elements.{All-append, All-filter}
use Rattle.sig_accounts.specs.declared.debt.Debt.{Debt}
use Rattle.sig_accounts.specs.Debts.{AreNumbered, Rises, is_left, is_from, is_to, numbered}

-- ---- lists that a test parts

none_passes : (p : Debt → Bool) (ds : List Debt) → AllWithin (λ (d : Debt). p d ≡ false) ds 0 (length ds) → filter p ds ≡ []
none_passes p [] fails = refl
none_passes p (d ∷ ds) fails =
    ap (λ b. if b then d ∷ filter p ds else filter p ds) (fails 0 d (omega arith) (omega arith))
    ∙ none_passes p ds (λ k e low h. fails (suc k) e (omega arith) (omega arith))

all_pass : (p : Debt → Bool) (ds : List Debt) → AllWithin (λ (d : Debt). p d ≡ true) ds 0 (length ds) → filter p ds ≡ ds
all_pass p [] passes = refl
all_pass p (d ∷ ds) passes =
    ap (λ b. if b then d ∷ filter p ds else filter p ds) (passes 0 d (omega arith) (omega arith))
    ∙ ap (λ l. d ∷ l) (all_pass p ds (λ k e low h. passes (suc k) e (omega arith) (omega arith)))

pub parted_take : (p : Debt → Bool) (ds : List Debt) (i : ℕ) → i ≤ length ds
    → AllWithin (λ (d : Debt). p d ≡ true) ds 0 i → AllWithin (λ (d : Debt). p d ≡ false) ds i (length ds) → take i ds ≡ filter p ds
parted_take p ds zero within passes fails = sym (none_passes p ds fails)
parted_take p [] (suc i) within passes fails = refl
parted_take p (d ∷ ds) (suc i) within passes fails =
    ap (λ l. d ∷ l) (parted_take p ds i (omega arith) (λ k e low h. passes (suc k) e (omega arith) (omega arith)) (λ k e low h. fails (suc k) e (omega arith) (omega arith)))
    ∙ sym (ap (λ b. if b then d ∷ filter p ds else filter p ds) (passes 0 d (omega arith) (omega arith)))

pub parted_drop : (p q : Debt → Bool) (ds : List Debt) (i : ℕ) → ((d : Debt) → q d ≡ not (p d)) → i ≤ length ds
    → AllWithin (λ (d : Debt). p d ≡ true) ds 0 i → AllWithin (λ (d : Debt). p d ≡ false) ds i (length ds) → drop i ds ≡ filter q ds
parted_drop p q ds zero other within passes fails =
    sym (all_pass q ds (λ k e low h. other (get_or ds k e) ∙ ap not (fails k e low h)))
parted_drop p q [] (suc i) other within passes fails = refl
parted_drop p q (d ∷ ds) (suc i) other within passes fails =
    parted_drop p q ds i other (omega arith) (λ k e low h. passes (suc k) e (omega arith) (omega arith)) (λ k e low h. fails (suc k) e (omega arith) (omega arith))
    ∙ sym (ap (λ b. if b then d ∷ filter q ds else filter q ds) (other d ∙ ap not (passes 0 d (omega arith) (omega arith))))

-- ---- numbers that rise

above_all : (below : ℕ) (ds : List Debt) (k : ℕ) (e : Debt) → Rises below ds → k < length ds → below < (get_or ds k e).number
above_all below [] k e rises within = absurd (omega arith)
above_all below (d ∷ ds) zero e rises within = rises.0
above_all below (d ∷ ds) (suc k) e rises within =
    let more : d.number < (get_or ds k e).number = above_all d.number ds k e rises.1 (omega arith) in
    omega (arith, rises.0, more)

sorted_at : (below : ℕ) (ds : List Debt) (i j : ℕ) (e : Debt) → Rises below ds → i ≤ j → j < length ds → (get_or ds i e).number ≤ (get_or ds j e).number
sorted_at below [] i j e rises order within = absurd (omega arith)
sorted_at below (d ∷ ds) zero zero e rises order within = omega arith
sorted_at below (d ∷ ds) zero (suc j) e rises order within =
    let more : d.number < (get_or ds j e).number = above_all d.number ds j e rises.1 (omega arith) in
    omega (arith, more)
sorted_at below (d ∷ ds) (suc i) zero e rises order within = absurd (omega arith)
sorted_at below (d ∷ ds) (suc i) (suc j) e rises order within = sorted_at d.number ds i j e rises.1 (omega arith) (omega arith)

pub rises_sorted : (below : ℕ) (ds : List Debt) → Rises below ds → IsNonDecreasingBy (λ (d : Debt). d.number) ds
rises_sorted below ds rises = λ i j e order within. sorted_at below ds i j e rises order within

rises_lower : (low below : ℕ) (ds : List Debt) → low ≤ below → Rises below ds → Rises low ds
rises_lower low below [] order rises = tt
rises_lower low below (d ∷ ds) order rises = (omega (arith, rises.0), rises.1)

pub rises_filter : (p : Debt → Bool) (below : ℕ) (ds : List Debt) → Rises below ds → Rises below (filter p ds)
rises_filter p below [] rises = tt
rises_filter p below (d ∷ ds) rises =
    let rest : Rises d.number (filter p ds) = rises_filter p d.number ds rises.1 in
    elim (p d) as (λ b. Rises below (if b then d ∷ filter p ds else filter p ds)) [
      | true ↦ (rises.0, rest)
      | false ↦ rises_lower below d.number (filter p ds) (omega (arith, rises.0)) rest
    ]

pub rises_push : (below : ℕ) (ds : List Debt) (d : Debt) → Rises below ds → All (λ (e : Debt). e.number < d.number) ds → below < d.number → Rises below (ds ++ d ∷ [])
rises_push below [] d rises low above = (above, tt)
rises_push below (e ∷ ds) d rises low above =
    (rises.0, rises_push e.number ds d rises.1 (λ k f h. low (suc k) f (omega arith)) (low 0 e (omega arith)))

-- ---- numbers that are settled

left_one : (is_settled : ℕ → Bool) (most n : ℕ) → ((m : ℕ) → is_settled m ≡ true → m ≤ most) → most < n → not (is_settled n) ≡ true
left_one is_settled most n highest above =
    elim (is_settled n) as (λ b. is_settled n ≡ b → not b ≡ true) [
      | true ↦ λ is. (let low : n ≤ most = highest n is in absurd (omega arith))
      | false ↦ λ is. refl
    ] refl

-- those above each number that is settled are left
pub left_above : (is_settled : ℕ → Bool) (most i : ℕ) (ds : List Debt) → ((n : ℕ) → is_settled n ≡ true → n ≤ most)
    → AllWithin (λ (d : Debt). most < d.number) ds i (length ds) → filter (is_left is_settled) (drop i ds) ≡ drop i ds
left_above is_settled most zero ds highest above =
    all_pass (is_left is_settled) ds (λ k e low h. left_one is_settled most (get_or ds k e).number highest (above k e low h))
left_above is_settled most (suc i) [] highest above = refl
left_above is_settled most (suc i) (d ∷ ds) highest above =
    left_above is_settled most i ds highest (λ k e low h. above (suc k) e (omega arith) (omega arith))

-- ---- one that is left is put where those that are left begin

take_less : (r : ℕ) (ds : List Debt) → take r (take (suc r) ds) ≡ take r ds
take_less zero ds = refl
take_less (suc r) [] = refl
take_less (suc r) (d ∷ ds) = ap (λ l. d ∷ l) (take_less r ds)

-- the front before one that is looked at, and that one
pub front_less : (r : ℕ) (all now : List Debt) → take (suc r) now ≡ take (suc r) all → take r now ≡ take r all
front_less r all now front = sym (take_less r now) ∙ ap (take r) front ∙ take_less r all

front_at : (r : ℕ) (all now : List Debt) (d : Debt) → take (suc r) now ≡ take (suc r) all → get_or now r d ≡ get_or all r d
front_at r all now d front =
    sym (get_or-take (suc r) now r d (omega arith)) ∙ ap (λ l. get_or l r d) front ∙ get_or-take (suc r) all r d (omega arith)

pub sifted_front : (r k : ℕ) (all now after : List Debt) (d : Debt) → r ≤ k → k < length now → take (suc r) now ≡ take (suc r) all
    → after ≡ swap now r k → take r after ≡ take r all
sifted_front r k all now after d order within front is =
    ap (take r) (is ∙ sym (swap_is now r k d (omega arith) within))
    ∙ take-set-le r (set now r (get_or now k d)) k (get_or now r d) order
    ∙ take-set now r (get_or now k d)
    ∙ front_less r all now front

next_left : (p : Debt → Bool) (all : List Debt) (r : ℕ) (d : Debt) (t : Bool) → r < length all → p (get_or all r d) ≡ t
    → filter p (drop r all) ≡ (if t then get_or all r d ∷ filter p (drop (suc r) all) else filter p (drop (suc r) all))
next_left p all r d t within is =
    ap (filter p) (drop-cons all r d within)
    ∙ ap (λ b. if b then get_or all r d ∷ filter p (drop (suc r) all) else filter p (drop (suc r) all)) is

pub sifted_left : (p : Debt → Bool) (r k : ℕ) (all now after : List Debt) (d : Debt) → r ≤ k → k < length now → length now ≡ length all
    → take (suc r) now ≡ take (suc r) all → drop (suc k) now ≡ filter p (drop (suc r) all)
    → p (get_or now r d) ≡ true → after ≡ swap now r k → drop k after ≡ filter p (drop r all)
sifted_left p r k all now after d order within same front left passes is =
    let put : List Debt = set now r (get_or now k d) in
    let x : Debt = get_or now r d in
    ap (drop k) (is ∙ sym (swap_is now r k d (omega arith) within))
    ∙ drop-set put k x (omega (arith, length-set {A = Debt}))
    ∙ ap (λ n. x ∷ drop n put) (add-one k)
    ∙ ap (λ l. x ∷ l) (drop-set-lt (suc k) now r (get_or now k d) (omega arith) ∙ left)
    ∙ ap (λ y. y ∷ filter p (drop (suc r) all)) (front_at r all now d front)
    ∙ sym (next_left p all r d true (omega arith) (ap p (sym (front_at r all now d front)) ∙ passes))

-- one that isn't left is passed over
pub passed_left : (p : Debt → Bool) (r k : ℕ) (all now : List Debt) (d : Debt) → r < length all
    → take (suc r) now ≡ take (suc r) all → drop k now ≡ filter p (drop (suc r) all)
    → p (get_or now r d) ≡ false → drop k now ≡ filter p (drop r all)
passed_left p r k all now d within front left fails =
    left ∙ sym (next_left p all r d false within (ap p (sym (front_at r all now d front)) ∙ fails))

-- ---- tests of numbers

not_le : (a b : ℕ) → b < a → nat_le a b ≡ false
not_le a b less =
    elim (nat_le a b) as (λ t. nat_le a b ≡ t → t ≡ false) [
      | true ↦ λ is. (let more : a ≤ b = leb-true a b is in absurd (omega arith))
      | false ↦ λ is. refl
    ] refl

pub not_below : (a b : ℕ) → nat_le a b ≡ not (nat_lt b a)
not_below a b =
    elim (nat_lt b a) as (λ t. nat_lt b a ≡ t → nat_le a b ≡ not t) [
      | true ↦ λ is. not_le a b (ltb-true b a is)
      | false ↦ λ is. le-leb a b (ltb-false b a is)
    ] refl

-- ---- as the code has them

-- the places before the first are passed over
pub left_from : (is_settled : ℕ → Bool) (most first count : ℕ) (all now debts : List Debt) → now ≡ all → debts ≡ drop first all
    → ((n : ℕ) → is_settled n ≡ true → n ≤ most) → AllWithin (λ (d : Debt). most < d.number) debts count (length debts)
    → filter (is_left is_settled) (drop (first + count) now) ≡ drop (first + count) now
left_from is_settled most first count all now debts same is highest above =
    let there : drop count debts ≡ drop (first + count) now =
    ap (drop count) (is ∙ ap (drop first) (sym same)) ∙ drop-drop count first now in
    subst (λ (ds : List Debt). filter (is_left is_settled) ds ≡ ds) there (left_above is_settled most count debts highest above)

-- a step of the loop that keeps one
pub kept_step : (p : Debt → Bool) (read kept r k : ℕ) (all now after : List Debt) (d : Debt) → read ≡ suc r → kept ≡ suc k → r ≤ k
    → k < length now → length now ≡ length all → take read now ≡ take read all → drop kept now ≡ filter p (drop read all)
    → p (get_or now r d) ≡ true → after ≡ swap now r k
    → (take r after ≡ take r all) × (drop k after ≡ filter p (drop r all))
kept_step p read kept r k all now after d at to order within same front left passes is =
    let first : take (suc r) now ≡ take (suc r) all = subst (λ n. take n now ≡ take n all) at front in
    let rest : drop (suc k) now ≡ filter p (drop (suc r) all) =
    ap (λ n. drop n now) (sym to) ∙ left ∙ ap (λ n. filter p (drop n all)) at in
    (sifted_front r k all now after d order within first is, sifted_left p r k all now after d order within same first rest passes is)

-- and of one that doesn't
pub passed_step : (p : Debt → Bool) (read kept r : ℕ) (all now : List Debt) (d : Debt) → read ≡ suc r → r < length all
    → take read now ≡ take read all → drop kept now ≡ filter p (drop read all)
    → p (get_or now r d) ≡ false → (take r now ≡ take r all) × (drop kept now ≡ filter p (drop r all))
passed_step p read kept r all now d at within front left fails =
    let first : take (suc r) now ≡ take (suc r) all = subst (λ n. take n now ≡ take n all) at front in
    (front_less r all now first, passed_left p r kept all now d within first (left ∙ ap (λ n. filter p (drop n all)) at) fails)

-- ---- where those that are left end

left_low : (is_settled : ℕ → Bool) (least n : ℕ) → ((m : ℕ) → is_settled m ≡ true → least ≤ m) → n < least → not (is_settled n) ≡ true
left_low is_settled least n lowest below =
    elim (is_settled n) as (λ b. is_settled n ≡ b → not b ≡ true) [
      | true ↦ λ is. (let high : least ≤ n = lowest n is in absurd (omega arith))
      | false ↦ λ is. refl
    ] refl

-- those below each number that is settled are left
pub left_below : (is_settled : ℕ → Bool) (least i : ℕ) (ds : List Debt) → ((n : ℕ) → is_settled n ≡ true → least ≤ n) → i ≤ length ds
    → AllWithin (λ (d : Debt). d.number < least) ds 0 i → filter (is_left is_settled) (take i ds) ≡ take i ds
left_below is_settled least zero ds lowest within below = refl
left_below is_settled least (suc i) [] lowest within below = refl
left_below is_settled least (suc i) (d ∷ ds) lowest within below =
    ap (λ b. if b then d ∷ filter (is_left is_settled) (take i ds) else filter (is_left is_settled) (take i ds))
    (left_low is_settled least d.number lowest (below 0 d (omega arith) (omega arith)))
    ∙ ap (λ l. d ∷ l) (left_below is_settled least i ds lowest (omega arith) (λ k e low h. below (suc k) e (omega arith) (omega arith)))

-- what is left is cut off behind its end
pub cut_off : (p : Debt → Bool) (first left : ℕ) (all now after debts : List Debt)
    → take left (drop first now) ≡ filter p (drop first all) → after ≡ take (first + left) now → drop first all ≡ debts
    → drop first after ≡ filter p debts
cut_off p first left all now after debts left_is is same =
    ap (drop first) is ∙ drop-take first left now ∙ left_is ∙ ap (filter p) same

-- a list that is written back whole
pub written : (n : ℕ) (now rest : List Debt) → n ≡ length now → take n (now ++ rest) ≡ now
written n now rest is = ap (λ k. take k (now ++ rest)) is ∙ take-append_seam now rest

-- ---- what a stream keeps of its debts

pub none_numbered : (made : ℕ) → AreNumbered made []
none_numbered made = record { rising = tt; within = λ k d h. absurd (omega arith) }

pub left_numbered : (p : Debt → Bool) (made : ℕ) (ds : List Debt) → AreNumbered made ds → AreNumbered made (filter p ds)
left_numbered p made ds are = record {
  rising = rises_filter p 0 ds are.rising;
  within = All-filter p (λ (d : Debt). d.number ≤ made) ds are.within;
}

pub next_numbered : (made number : ℕ) (ds : List Debt) (d : Debt) → AreNumbered made ds → d.number ≡ number → number ≡ made + 1
    → AreNumbered number (ds ++ d ∷ [])
next_numbered made number ds d are is next = record {
  rising = rises_push 0 ds d are.rising (λ k e h. let low : (get_or ds k e).number ≤ made = are.within k e h in omega arith) (omega arith);
  within = All-append (λ (e : Debt). e.number ≤ number) ds (d ∷ []) (λ k e h. let low : (get_or ds k e).number ≤ made = are.within k e h in omega arith)
      (one_below number d (omega arith));
}
  where
    one_below : (number : ℕ) (d : Debt) → d.number ≤ number → All (λ (e : Debt). e.number ≤ number) (d ∷ [])
    one_below number d low zero e h = low
    one_below number d low (suc k) e h = absurd (omega arith)

-- a number is owed where one stands between it and itself
found_more : (n : ℕ) (d : Debt) (ds : List Debt) → list_any (λ (e : Debt). e.number == n) ds ≡ not (length (numbered n n ds) == 0)
    → list_any (λ (e : Debt). e.number == n) (d ∷ ds) ≡ not (length (numbered n n (d ∷ ds)) == 0)
found_more n d ds rest =
    let others : Bool = list_any (λ (e : Debt). e.number == n) ds in
    let low : List Debt = filter (is_to n) ds in
    let left : List Debt = numbered n n ds in
    let other : (d.number ≡ n → ⊥) → ((d.number == n) || others) ≡ not (length left == 0) =
    λ apart. ap (λ b. b || others) (ne_eqb d.number n apart) ∙ rest in
    elim (nat_le d.number n) as (λ a. nat_le d.number n ≡ a → ((d.number == n) || others) ≡ not (length (filter (is_from n) (if a then d ∷ low else low)) == 0)) [
      | true ↦ λ to. elim (nat_le n d.number) as (λ b. nat_le n d.number ≡ b → ((d.number == n) || others) ≡ not (length (if b then d ∷ left else left) == 0)) [
        | true ↦ λ from. (let below : d.number ≤ n = leb-true d.number n to in
            let above : n ≤ d.number = leb-true n d.number from in
            ap (λ b. b || others) (eq-eqb d.number n (omega arith))
            ∙ sym (ap not (ne_eqb (length (d ∷ left)) 0 (λ is. omega arith))))
        | false ↦ λ from. other (λ is. let above : d.number < n = leb-false n d.number from in omega arith)
      ] refl
      | false ↦ λ to. other (λ is. let above : n < d.number = leb-false d.number n to in omega arith)
    ] refl

pub found_numbered : (n : ℕ) (ds : List Debt) → list_any (λ (d : Debt). d.number == n) ds ≡ not (length (numbered n n ds) == 0)
found_numbered n [] = refl
found_numbered n (d ∷ ds) = found_more n d ds (found_numbered n ds)
