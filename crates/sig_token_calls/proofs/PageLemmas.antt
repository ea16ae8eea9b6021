-- A page of tokens.
use Rattle.std.proofs.Common.{◌≡◌, ◌∙◌, ap, sym, ℕ, zero, suc, ◌+◌, ◌-◌, ◌==◌, ◌<◌, ◌≤◌, List, [], ◌∷◌, ◌++◌, length, map, filter, take, drop, get_or, Bool, true, false, not, ◌&&◌, nat_lt, if◌then◌else◌, refl, append-nil, append_assoc, arith, add-one}
use Rattle.std.specs.Option.{option_to_list}
use Rattle.std.specs.Prelude.{Option, None, Some}
use Rattle.std.specs.List.{filter_map, cons_option}
use Rattle.std.proofs.Math.Seq.{drop-cons}
use Rattle.std.proofs.lemmas.Bool.{ltb-true, lt-ltb, eqb-true}
use Rattle.std.proofs.lemmas.List.{take_more}
use Rattle.std.proofs.lemmas.List.Elements.{filter_map-append}
use Rattle.sig_accounts.specs.declared.debt.Debt.{Debt}
use Rattle.sig_terms.specs.declared.token.Token.{Token}
use Rattle.sig_terms.specs.declared.want.Delivery.{Delivery}
use Rattle.sig_terms.specs.declared.fact.SettledItem.{SettledItem}
use Rattle.sig_history.specs.Streams.{Stream, Publication, Made, token_of}
use Rattle.sig_history.specs.Owed.{names_number}
use Rattle.sig_token_calls.specs.declared.offering.Page.{Page}
use Rattle.sig_token_calls.specs.Offering.{offers, page_on}

-- the page when these tokens are on it already and there is room for so many more
abbrev pub page_step : Delivery → ℕ → List Token → List Made → Page
page_step delivery room tokens [] = record { tokens = tokens; more = false }
page_step delivery room tokens (t ∷ ts) =
    if room == 0 then record { tokens = tokens; more = true } else page_step delivery (room - 1) (tokens ++ token_of delivery t ∷ []) ts

abbrev pub Sets : List Token → Bool → Page
Sets tokens more = record { tokens = tokens; more = more }

pub not_below : (a b : ℕ) → b ≤ a → nat_lt a b ≡ false
not_below a b le =
    elim (nat_lt a b) as (λ t. (t ≡ true → a < b) → t ≡ false) [
      | true ↦ λ below. (let k : a < b = below refl in absurd (omega arith))
      | false ↦ λ below. refl
    ] (ltb-true a b)

same_below : (a b c d : ℕ) → (a < b → c < d) → (c < d → a < b) → nat_lt a b ≡ nat_lt c d
same_below a b c d to from =
    elim (nat_lt a b) as (λ t. (t ≡ true → a < b) → (a < b → t ≡ true) → t ≡ nat_lt c d) [
      | true ↦ λ is so. sym (lt-ltb c d (to (is refl)))
      | false ↦ λ is so. elim (nat_lt c d) as (λ u. (u ≡ true → c < d) → false ≡ u) [ true ↦ λ has. so (from (has refl)) | false ↦ λ has. refl ] (ltb-true c d)
    ] (ltb-true a b) (lt-ltb a b)

pub some_room : (room : ℕ) → 0 < room → (room == 0) ≡ false
some_room room above =
    elim (room == 0) as (λ t. (t ≡ true → room ≡ 0) → t ≡ false) [
      | true ↦ λ none. (let k : room ≡ 0 = none refl in absurd (omega arith))
      | false ↦ λ none. refl
    ] (eqb-true room 0)

page_steps : (delivery : Delivery) (room : ℕ) (tokens : List Token) (ts : List Made)
    → page_step delivery room tokens ts ≡ Sets (tokens ++ map (token_of delivery) (take room ts)) (nat_lt room (length ts))
page_steps delivery zero tokens [] = ap (λ l. Sets l false) (sym (append-nil tokens))
page_steps delivery (suc n) tokens [] =
    ap (λ l. Sets l false) (sym (append-nil tokens)) ∙ ap (Sets (tokens ++ [])) (sym (not_below (suc n) 0 (omega arith)))
page_steps delivery zero tokens (t ∷ ts) =
    ap (λ l. Sets l true) (sym (append-nil tokens)) ∙ ap (Sets (tokens ++ [])) (sym (lt-ltb 0 (length (t ∷ ts)) (omega arith)))
page_steps delivery (suc n) tokens (t ∷ ts) =
    let less : suc n - 1 ≡ n = omega arith in
    ap (λ b. if b then Sets tokens true else page_step delivery (suc n - 1) (tokens ++ token_of delivery t ∷ []) ts) (some_room (suc n) (omega arith))
    ∙ ap (λ k. page_step delivery k (tokens ++ token_of delivery t ∷ []) ts) less
    ∙ page_steps delivery n (tokens ++ token_of delivery t ∷ []) ts
    ∙ ap (λ l. Sets l (nat_lt n (length ts))) (append_assoc tokens (token_of delivery t ∷ []) (map (token_of delivery) (take n ts)))
    ∙ ap (Sets (tokens ++ token_of delivery t ∷ map (token_of delivery) (take n ts)))
    (same_below n (length ts) (suc n) (length (t ∷ ts)) (λ h. omega arith) (λ h. omega arith))

pub page_is : (delivery : Delivery) (size : ℕ) (ts : List Made) → page_step delivery size [] ts ≡ page_on delivery size ts
page_is delivery size ts = page_steps delivery size [] ts

-- ---- the next token that is owed

parts_at : (ds : List Debt) (i : ℕ) (d : Debt) → i < length ds → drop i ds ≡ get_or ds i d ∷ drop (i + 1) ds
parts_at ds i d within = drop-cons ds i d within ∙ ap (λ k. get_or ds i d ∷ drop k ds) (sym (add-one i))

-- one that isn't open is passed over
pub open_passed : (p : Debt → Bool) (ds : List Debt) (i : ℕ) (d : Debt) → i < length ds → p (get_or ds i d) ≡ false
    → filter p (drop i ds) ≡ filter p (drop (i + 1) ds)
open_passed p ds i d within closed =
    ap (filter p) (parts_at ds i d within)
    ∙ ap (λ b. if b then get_or ds i d ∷ filter p (drop (i + 1) ds) else filter p (drop (i + 1) ds)) closed

pub open_next : (p : Debt → Bool) (ds : List Debt) (i : ℕ) (d : Debt) → i < length ds → p (get_or ds i d) ≡ true
    → filter p (drop i ds) ≡ get_or ds i d ∷ filter p (drop (i + 1) ds)
open_next p ds i d within opened =
    ap (filter p) (parts_at ds i d within)
    ∙ ap (λ b. if b then get_or ds i d ∷ filter p (drop (i + 1) ds) else filter p (drop (i + 1) ds)) opened

-- a full page ends before it
pub page_full : (delivery : Delivery) (room : ℕ) (tokens : List Token) (f : Debt → Made) (p : Debt → Bool) (ds : List Debt) (i : ℕ) (d : Debt) → i < length ds
    → p (get_or ds i d) ≡ true → room ≡ 0
    → page_step delivery room tokens (map f (filter p (drop i ds))) ≡ Sets tokens true
page_full delivery room tokens f p ds i d within opened none =
    ap (λ l. page_step delivery room tokens (map f l)) (open_next p ds i d within opened)
    ∙ ap (λ k. page_step delivery k tokens (f (get_or ds i d) ∷ map f (filter p (drop (i + 1) ds)))) none

-- it is put on one that has room
pub page_more : (delivery : Delivery) (room : ℕ) (tokens : List Token) (f : Debt → Made) (p : Debt → Bool) (ds : List Debt) (i : ℕ) (d : Debt) → i < length ds
    → p (get_or ds i d) ≡ true → (room == 0) ≡ false
    → page_step delivery room tokens (map f (filter p (drop i ds)))
    ≡ page_step delivery (room - 1) (tokens ++ token_of delivery (f (get_or ds i d)) ∷ []) (map f (filter p (drop (i + 1) ds)))
page_more delivery room tokens f p ds i d within opened some =
    ap (λ l. page_step delivery room tokens (map f l)) (open_next p ds i d within opened)
    ∙ ap (λ b. if b then Sets tokens true
    else page_step delivery (room - 1) (tokens ++ token_of delivery (f (get_or ds i d)) ∷ []) (map f (filter p (drop (i + 1) ds)))) some

-- ---- items that there are

one_item : {X Y : Type 0} (f : X → Option Y) (x : X) → filter_map f (x ∷ []) ≡ option_to_list (f x)
one_item f x = elim (f x) as (λ o. cons_option o [] ≡ option_to_list o) [ None ↦ refl | Some y ↦ refl ]

pub items_more : {X Y : Type 0} (f : X → Option Y) (xs : List X) (i : ℕ) (d : X) → i < length xs
    → filter_map f (take (i + 1) xs) ≡ filter_map f (take i xs) ++ option_to_list (f (get_or xs i d))
items_more f xs i d within =
    ap (filter_map f) (take_more xs i d within) ∙ filter_map-append f (take i xs) (get_or xs i d ∷ [])
    ∙ ap (λ l. filter_map f (take i xs) ++ l) (one_item f (get_or xs i d))

-- ---- debts that are open

-- what was looked up in the numbers is what the items name
pub open_from : (items : List SettledItem) (published : List Publication) (s : Stream) (named : ℕ → Bool) (d : Debt) (opened t : Bool)
    → ((n : ℕ) → named n ≡ names_number n items) → opened ≡ (not (named d.number) && offers published s d) → opened ≡ t
    → (not (names_number d.number items) && offers published s d) ≡ t
open_from items published s named d opened t same is how = ap (λ b. not b && offers published s d) (sym (same d.number)) ∙ sym is ∙ how
