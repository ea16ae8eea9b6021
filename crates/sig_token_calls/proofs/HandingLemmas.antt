-- Names that come first, and tokens up to a page.
use Rattle.std.proofs.Common.{◌≡◌, ◌∙◌, ap, sym, ℕ, zero, suc, ◌+◌, ◌<◌, List, [], ◌∷◌, ◌++◌, length, map, take, drop, get_or, Bool, true, false, not, ◌||◌, bytes_eq, None, Some, Ok, if◌then◌else◌, refl, append_assoc, arith, add-one}
use Rattle.std.specs.Prelude.{flat_map}
use Rattle.std.specs.List.{list_any}
use Rattle.std.specs.Option.{option_map_or}
use Rattle.std.proofs.Math.Seq.{drop-cons, take-append-add}
use Rattle.std.proofs.lemmas.Slice.Eq.{bytes_eq-Decides}
use Rattle.sig_terms.specs.Deliveries.{is_push}
use Rattle.sig_terms.specs.declared.answer.Answer.TheVariants as answer
use Rattle.sig_terms.specs.declared.token.Token.{Token}
use Rattle.sig_history.specs.Streams.{Stream, Made, token_of}
use Rattle.sig_history.specs.Owed.{Sum, offered_by}
use Rattle.sig_calls.specs.Found.{told_by}
use Rattle.sig_calls.specs.Handing.{delivering, first_names, pushed_by}
use Rattle.sig_calls.specs.Told.{only, outcome}
use Rattle.sig_accounts.specs.Owings.{Owing, made_of, owing_named}
use Rattle.sig_ledger.specs.Books.{Books, sum_in}
use Rattle.sig_token_calls.specs.Handing.{new_names}
use Rattle.sig_token_calls.specs.Offering.{open_debts}
use Rattle.sig_token_calls.proofs.FoundLemmas.{named_is}
use Rattle.sig_token_calls.proofs.OfferedLemmas.{offered_all}

-- ---- names

new_are_first : (earlier ns : List (List ℕ)) → new_names (λ n. list_any (bytes_eq n) earlier) ns ≡ first_names earlier ns
new_are_first earlier [] = refl
new_are_first earlier (n ∷ ns) =
    elim (list_any (bytes_eq n) earlier) as (λ b.
    (if b then new_names (λ m. list_any (bytes_eq m) earlier) ns else n ∷ new_names (λ m. bytes_eq m n || list_any (bytes_eq m) earlier) ns)
    ≡ (if b then first_names earlier ns else n ∷ first_names (n ∷ earlier) ns)) [
      | true ↦ new_are_first earlier ns
      | false ↦ ap (λ l. n ∷ l) (new_are_first (n ∷ earlier) ns)
    ]

pub new_alike : (p q : List ℕ → Bool) → ((n : List ℕ) → p n ≡ q n) → (ns : List (List ℕ)) → new_names p ns ≡ new_names q ns
new_alike p q same [] = refl
new_alike p q same (n ∷ ns) =
    ap (λ b. if b then new_names p ns else n ∷ new_names (λ m. bytes_eq m n || p m) ns) (same n)
    ∙ (elim (q n) as (λ b. (if b then new_names p ns else n ∷ new_names (λ m. bytes_eq m n || p m) ns)
    ≡ (if b then new_names q ns else n ∷ new_names (λ m. bytes_eq m n || q m) ns)) [
      | true ↦ new_alike p q same ns
      | false ↦ ap (λ l. n ∷ l) (new_alike (λ m. bytes_eq m n || p m) (λ m. bytes_eq m n || q m) (λ m. ap (λ b. bytes_eq m n || b) (same m)) ns)
    ])

-- where nothing was seen, the names that are left are the first ones
pub all_first : (seen : List ℕ → Bool) → ((n : List ℕ) → seen n ≡ false) → (ns : List (List ℕ)) → new_names seen ns ≡ first_names [] ns
all_first seen none ns = new_alike seen (λ n. list_any (bytes_eq n) []) none ns ∙ new_are_first [] ns

-- one that was seen is seen still
seen_still : (seen : List ℕ → Bool) (n : List ℕ) → seen n ≡ true → (m : List ℕ) → (bytes_eq m n || seen m) ≡ seen m
seen_still seen n is m =
    elim (bytes_eq m n) as (λ b. (b ≡ true → m ≡ n) → (b || seen m) ≡ seen m) [
      | true ↦ λ same. sym (ap seen (same refl) ∙ is)
      | false ↦ λ same. refl
    ] (bytes_eq-Decides m n).0

-- ---- tokens

-- the tokens when these are on the page already and these names are left
abbrev pub page_of_names : ℕ → (List ℕ → List Token) → List Token → (List ℕ → Bool) → List (List ℕ) → List Token
page_of_names size f tokens seen names = take size (tokens ++ flat_map f (new_names seen names))

take_twice : (size : ℕ) (xs ys : List Token) → take size (take size xs ++ ys) ≡ take size (xs ++ ys)
take_twice zero xs ys = refl
take_twice (suc n) [] ys = refl
take_twice (suc n) (x ∷ xs) ys = ap (λ l. x ∷ l) (take_twice n xs ys)

parts_at : (ns : List (List ℕ)) (i : ℕ) (d : List ℕ) → i < length ns → drop i ns ≡ get_or ns i d ∷ drop (i + 1) ns
parts_at ns i d within = drop-cons ns i d within ∙ ap (λ k. get_or ns i d ∷ drop k ns) (sym (add-one i))

-- a name that was seen adds nothing
pub name_passed : (size : ℕ) (f : List ℕ → List Token) (tokens : List Token) (seen after : List ℕ → Bool) (ns : List (List ℕ)) (i : ℕ) (d : List ℕ) → i < length ns
    → seen (get_or ns i d) ≡ true → ((m : List ℕ) → after m ≡ (bytes_eq m (get_or ns i d) || seen m))
    → page_of_names size f tokens seen (drop i ns) ≡ page_of_names size f tokens after (drop (i + 1) ns)
name_passed size f tokens seen after ns i d within is so =
    let n : List ℕ = get_or ns i d in
    let rest : List (List ℕ) = drop (i + 1) ns in
    ap (page_of_names size f tokens seen) (parts_at ns i d within)
    ∙ ap (λ b. take size (tokens ++ flat_map f (if b then new_names seen rest else n ∷ new_names (λ m. bytes_eq m n || seen m) rest))) is
    ∙ ap (λ l. take size (tokens ++ flat_map f l)) (new_alike seen after (λ m. sym (so m ∙ seen_still seen n is m)) rest)

-- one that comes first adds its own
pub name_added : (size : ℕ) (f : List ℕ → List Token) (tokens more : List Token) (seen after : List ℕ → Bool) (ns : List (List ℕ)) (i : ℕ) (d : List ℕ) → i < length ns
    → seen (get_or ns i d) ≡ false → ((m : List ℕ) → after m ≡ (bytes_eq m (get_or ns i d) || seen m)) → more ≡ take size (tokens ++ f (get_or ns i d))
    → page_of_names size f tokens seen (drop i ns) ≡ page_of_names size f more after (drop (i + 1) ns)
name_added size f tokens more seen after ns i d within is so added =
    let n : List ℕ = get_or ns i d in
    let rest : List (List ℕ) = drop (i + 1) ns in
    let left : List Token = flat_map f (new_names after rest) in
    ap (page_of_names size f tokens seen) (parts_at ns i d within)
    ∙ ap (λ b. take size (tokens ++ flat_map f (if b then new_names seen rest else n ∷ new_names (λ m. bytes_eq m n || seen m) rest))) is
    ∙ ap (λ l. take size (tokens ++ (f n ++ flat_map f l))) (new_alike (λ m. bytes_eq m n || seen m) after (λ m. sym (so m)) rest)
    ∙ ap (take size) (sym (append_assoc tokens (f n) left))
    ∙ sym (take_twice size (tokens ++ f n) left)
    ∙ ap (λ l. take size (l ++ left)) (sym added)

-- a page that is full stays
pub page_stays : (size : ℕ) (tokens ys : List Token) → length tokens ≡ size → take size (tokens ++ ys) ≡ tokens
page_stays size [] ys is = ap (λ n. take n ys) (sym is)
page_stays zero (t ∷ ts) ys is = absurd (omega arith)
page_stays (suc n) (t ∷ ts) ys is = ap (λ l. t ∷ l) (page_stays n ts ys (omega arith))

-- one that has room takes so many more
pub page_takes : (size room : ℕ) (tokens ys : List Token) → length tokens + room ≡ size → take size (tokens ++ ys) ≡ tokens ++ take room ys
page_takes size room tokens ys is = ap (λ n. take n (tokens ++ ys)) (sym is) ∙ take-append-add tokens ys room

pub take_none : (n : ℕ) (ts : List Token) → ts ≡ [] → ts ≡ take n ts
take_none zero [] is = refl
take_none (suc n) [] is = refl
take_none zero (t ∷ ts) is = cc
take_none (suc n) (t ∷ ts) is = cc

pub map_taken : (f : Made → Token) (n : ℕ) (ts : List Made) → map f (take n ts) ≡ take n (map f ts)
map_taken f zero ts = refl
map_taken f (suc n) [] = refl
map_taken f (suc n) (t ∷ ts) = ap (λ l. f t ∷ l) (map_taken f n ts)

pub from_not_true : (b first : Bool) → first ≡ not b → first ≡ true → b ≡ false
from_not_true true first is how = sym how ∙ is
from_not_true false first is how = refl

pub from_not_false : (b first : Bool) → first ≡ not b → first ≡ false → b ≡ true
from_not_false true first is how = refl
from_not_false false first is how = sym how ∙ is

-- ---- the stream of a name

abbrev pushed_of : Sum → List ℕ → Stream → List Token
pushed_of sum name s = if is_push s.conf.delivery then map (token_of s.conf.delivery) (offered_by sum name) else []

-- there is none
pub none_pushed : (b : Books) (name : List ℕ) → None ≡ owing_named name b.owings → pushed_by (sum_in b) name ≡ []
none_pushed b name none = ap (λ found. option_map_or (pushed_of (sum_in b) name) found []) (named_is b name None none)

-- its tokens are polled
pub polled_pushed : (b : Books) (name : List ℕ) (o : Owing) → Some o ≡ owing_named name b.owings → is_push o.stream.conf.delivery ≡ false
    → pushed_by (sum_in b) name ≡ []
polled_pushed b name o is polled =
    ap (λ found. option_map_or (pushed_of (sum_in b) name) found []) (named_is b name (Some o) is)
    ∙ ap (λ p. if p then map (token_of o.stream.conf.delivery) (offered_by (sum_in b) name) else []) polled

-- they are pushed
pub are_pushed : (b : Books) (name : List ℕ) (o : Owing) → Some o ≡ owing_named name b.owings → is_push o.stream.conf.delivery ≡ true
    → pushed_by (sum_in b) name
    ≡ map (token_of o.stream.conf.delivery) (map (made_of b.store_id b.published o.stream) (open_debts b.published o.stream [] o.owed))
are_pushed b name o is pushed =
    ap (λ found. option_map_or (pushed_of (sum_in b) name) found []) (named_is b name (Some o) is)
    ∙ ap (λ p. if p then map (token_of o.stream.conf.delivery) (offered_by (sum_in b) name) else []) pushed
    ∙ ap (map (token_of o.stream.conf.delivery)) (offered_all b name o is)

-- ---- the operator's round

pub not_delivered : (b : Books) (name : List ℕ) → None ≡ owing_named name b.owings
    → outcome (delivering (sum_in b).parts name) ≡ Ok (record { answer = answer.NotFound; change = None })
not_delivered b name none =
    ap (λ found. outcome (told_by (λ (s : Stream). if is_push s.conf.delivery then only (answer.Delivering name) else only answer.NotFound) found))
    (named_is b name None none)

pub poll_not_delivered : (b : Books) (name : List ℕ) (o : Owing) → Some o ≡ owing_named name b.owings → is_push o.stream.conf.delivery ≡ false
    → outcome (delivering (sum_in b).parts name) ≡ Ok (record { answer = answer.NotFound; change = None })
poll_not_delivered b name o is polled =
    ap (λ found. outcome (told_by (λ (s : Stream). if is_push s.conf.delivery then only (answer.Delivering name) else only answer.NotFound) found))
    (named_is b name (Some o) is)
    ∙ ap (λ p. outcome (if p then only (answer.Delivering name) else only answer.NotFound)) polled

pub is_delivered : (b : Books) (name : List ℕ) (o : Owing) → Some o ≡ owing_named name b.owings → is_push o.stream.conf.delivery ≡ true
    → outcome (delivering (sum_in b).parts name) ≡ Ok (record { answer = answer.Delivering name; change = None })
is_delivered b name o is pushed =
    ap (λ found. outcome (told_by (λ (s : Stream). if is_push s.conf.delivery then only (answer.Delivering name) else only answer.NotFound) found))
    (named_is b name (Some o) is)
    ∙ ap (λ p. outcome (if p then only (answer.Delivering name) else only answer.NotFound)) pushed
