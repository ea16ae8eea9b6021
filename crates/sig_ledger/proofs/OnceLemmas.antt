-- Settled items of which each number is named once, counted in turn.
use Rattle.std.proofs.Common.{◌≡◌, ◌∙◌, ap, sym, ℕ, ◌+◌, ◌<◌, ◌==◌, List, [], ◌∷◌, ◌++◌, take, drop, get_or, add-one, length, Bool, true, false, not, ◌&&◌, ◌||◌, refl}
use Rattle.std.specs.Prelude.{cond}
use Rattle.std.specs.List.{list_any}
use Rattle.std.proofs.lemmas.List.{take_more}
use Rattle.std.proofs.lemmas.List.Folds.{list_any-append}
use Rattle.std.proofs.Math.Seq.{drop-cons}
use Rattle.sig_terms.specs.declared.fact.SettledItem.{SettledItem}
use Rattle.sig_history.specs.Owed.{names_number}
use Rattle.sig_history.specs.Sound.{each_once}
use Rattle.sig_accounts.proofs.SettleLemmas.{turned_number}

-- items after others: none is named twice, or by those before
abbrev pub are_new : List SettledItem → List SettledItem → Bool
are_new before items = each_once items && not (list_any (λ (i : SettledItem). names_number i.number before) items)

any_after : (before : List SettledItem) (x : SettledItem) (items : List SettledItem)
    → list_any (λ (i : SettledItem). names_number i.number (before ++ x ∷ [])) items
    ≡ (list_any (λ (i : SettledItem). names_number i.number before) items || names_number x.number items)
any_after before x [] = refl
any_after before x (i ∷ items) =
    let rest : List SettledItem → Bool = list_any (λ (j : SettledItem). names_number j.number before) in
    ap (λ b. b || list_any (λ (j : SettledItem). names_number j.number (before ++ x ∷ [])) items)
    (list_any-append (λ (j : SettledItem). j.number == i.number) before (x ∷ [])
    ∙ ap (λ b. names_number i.number before || (b || false)) (turned_number x.number i.number))
    ∙ ap (λ b. (names_number i.number before || ((i.number == x.number) || false)) || b) (any_after before x items)
    ∙ mixed (names_number i.number before) (i.number == x.number) (rest items) (names_number x.number items)
  where
    mixed : (a b c d : Bool) → ((a || (b || false)) || (c || d)) ≡ ((a || c) || (b || d))
    mixed true b c d = refl
    mixed false true true d = refl
    mixed false true false d = refl
    mixed false false c d = refl

one_new : (n e h : Bool) → ((not n && e) && not h) ≡ (e && not (h || n))
one_new true true true = refl
one_new true true false = refl
one_new true false h = refl
one_new false e true = refl
one_new false true false = refl
one_new false false false = refl

new_one : (before : List SettledItem) (x : SettledItem) (items : List SettledItem) → names_number x.number before ≡ false
    → are_new before (x ∷ items) ≡ are_new (before ++ x ∷ []) items
new_one before x items absent =
    let earlier : Bool = list_any (λ (i : SettledItem). names_number i.number before) items in
    ap (λ b. (not (names_number x.number items) && each_once items) && not (b || earlier)) absent
    ∙ one_new (names_number x.number items) (each_once items) earlier
    ∙ ap (λ b. each_once items && not b) (sym (any_after before x items))

parted : (all : List SettledItem) (k : ℕ) (d : SettledItem) → k < length all → drop k all ≡ get_or all k d ∷ drop (k + 1) all
parted all k d within = drop-cons all k d within ∙ ap (λ n. get_or all k d ∷ drop n all) (sym (add-one k))

-- a set that takes in the number of one more item has those of all so far
pub named_step : (all : List SettledItem) (k : ℕ) (d : SettledItem) (n : ℕ) (before now : Bool) → k < length all
    → before ≡ names_number n (take k all) → now ≡ cond ((get_or all k d).number == n) true before
    → now ≡ names_number n (take (k + 1) all)
named_step all k d n before now within so_far is =
    let x : SettledItem = get_or all k d in
    is ∙ ap (cond (x.number == n) true) so_far ∙ either (x.number == n) (names_number n (take k all))
    ∙ sym (list_any-append (λ (i : SettledItem). i.number == n) (take k all) (x ∷ []))
    ∙ ap (names_number n) (sym (take_more all k d within))
  where
    either : (a b : Bool) → cond a true b ≡ (b || (a || false))
    either true true = refl
    either true false = refl
    either false true = refl
    either false false = refl

-- one more item whose number was not named before
pub new_step : (all : List SettledItem) (k : ℕ) (d : SettledItem) → k < length all → names_number (get_or all k d).number (take k all) ≡ false
    → each_once all ≡ are_new (take k all) (drop k all) → each_once all ≡ are_new (take (k + 1) all) (drop (k + 1) all)
new_step all k d within absent so_far =
    so_far ∙ ap (are_new (take k all)) (parted all k d within)
    ∙ new_one (take k all) (get_or all k d) (drop (k + 1) all) absent
    ∙ ap (λ l. are_new l (drop (k + 1) all)) (sym (take_more all k d within))

none_before : (items : List SettledItem) → list_any (λ (i : SettledItem). names_number i.number []) items ≡ false
none_before [] = refl
none_before (i ∷ items) = none_before items

-- before any item
pub new_start : (all : List SettledItem) → each_once all ≡ are_new [] all
new_start all =
    at (each_once all) ∙ ap (λ b. each_once all && not b) (sym (none_before all))
  where
    at : (b : Bool) → b ≡ (b && true)
    at true = refl
    at false = refl
