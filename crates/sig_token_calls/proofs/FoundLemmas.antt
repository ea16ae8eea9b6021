-- The stream that a call names, in the books and in what they come to.
use Rattle.std.proofs.Common.{◌≡◌, ◌∙◌, ap, sym, subst, ℕ, ◌≤◌, List, [], ◌∷◌, map, length, Bool, true, false, ◌&&◌, ◌||◌, bytes_eq, Option, Some, if◌then◌else◌, refl}
use Rattle.std.specs.Prelude.{All, option_map}
use Rattle.std.proofs.lemmas.List.Elements.{All-head, All-tail}
use Rattle.std.proofs.lemmas.Slice.Eq.{bytes_eq-Decides}
use Rattle.sig_json.specs.declared.limits.TheConstants.{LAST_NUMBER}
use Rattle.sig_history.specs.Streams.{Count, Publication, is_named, stands}
use Rattle.sig_history.specs.Owed.{stream_named}
use Rattle.sig_history.specs.Standings.{owed_in_standing, stream_in}
use Rattle.sig_history.specs.Whole.{AreWhole}
use Rattle.sig_calls.specs.Found.{client_stream}
use Rattle.sig_accounts.specs.Owings as books
use Rattle.sig_accounts.specs.Owings.{ArePlaced, IsPlaced, Owing, client_owing, owing_named, standing_of}
use Rattle.sig_ledger.specs.Books.{AreKept, Books, sum_in}
use Rattle.sig_accounts.specs.declared.debt.Debt.{Debt}

-- ---- the stream of a name

named_in : (sid : List ℕ) (published : List Publication) (name : List ℕ) (os : List Owing)
    → stream_named name (map stream_in (map (standing_of sid published) os)) ≡ option_map books.stream_in (owing_named name os)
named_in sid published name [] = refl
named_in sid published name (o ∷ os) =
    elim (is_named name o.stream) as (λ b. (if b then Some o.stream else stream_named name (map stream_in (map (standing_of sid published) os)))
    ≡ option_map books.stream_in (if b then Some o else owing_named name os)) [
      | true ↦ refl
      | false ↦ named_in sid published name os
    ]

pub named_is : (b : Books) (name : List ℕ) (found : Option Owing) → found ≡ owing_named name b.owings
    → stream_named name (sum_in b).parts.streams ≡ option_map books.stream_in found
named_is b name found is = named_in b.store_id b.published name b.owings ∙ ap (option_map books.stream_in) (sym is)

-- ---- a client's stream of a name

client_in : (sid : List ℕ) (published : List Publication) (client name : List ℕ) (os : List Owing)
    → client_stream client name (map stream_in (map (standing_of sid published) os)) ≡ option_map books.stream_in (client_owing client name os)
client_in sid published client name [] = refl
client_in sid published client name (o ∷ os) =
    elim (bytes_eq o.stream.client client && is_named name o.stream) as (λ b.
    (if b then Some o.stream else client_stream client name (map stream_in (map (standing_of sid published) os)))
    ≡ option_map books.stream_in (if b then Some o else client_owing client name os)) [
      | true ↦ refl
      | false ↦ client_in sid published client name os
    ]

pub client_is : (b : Books) (client name : List ℕ) (found : Option Owing) → found ≡ client_owing client name b.owings
    → client_stream client name (sum_in b).parts.streams ≡ option_map books.stream_in found
client_is b client name found is = client_in b.store_id b.published client name b.owings ∙ ap (option_map books.stream_in) (sym is)

and_false : (b : Bool) → (b && false) ≡ false
and_false true = refl
and_false false = refl

client_stands : (sid : List ℕ) (published : List Publication) (client name : List ℕ) (os : List Owing) (o : Owing) → client_owing client name os ≡ Some o
    → stands name (map stream_in (map (standing_of sid published) os)) ≡ true
client_stands sid published client name [] o is = cc
client_stands sid published client name (p ∷ ps) o is =
    elim (is_named name p.stream) as (λ b. (if bytes_eq p.stream.client client && b then Some p else client_owing client name ps) ≡ Some o
    → (b || stands name (map stream_in (map (standing_of sid published) ps))) ≡ true) [
      | true ↦ λ is. refl
      | false ↦ λ is. client_stands sid published client name ps o
          (sym (ap (λ t. if t then Some p else client_owing client name ps) (and_false (bytes_eq p.stream.client client))) ∙ is)
    ] is

-- it is the stream of that name, since a name stands once
client_named_in : (sid : List ℕ) (created : List Count) (published : List Publication) (client name : List ℕ) (os : List Owing) (o : Owing)
    → client_owing client name os ≡ Some o
    → AreWhole sid created (map stream_in (map (standing_of sid published) os)) (map owed_in_standing (map (standing_of sid published) os))
    → owing_named name os ≡ Some o
client_named_in sid created published client name [] o is whole = cc
client_named_in sid created published client name (p ∷ ps) o is whole =
    let same : is_named name p.stream ≡ true → p.stream.conf.stream ≡ name = (bytes_eq-Decides p.stream.conf.stream name).0 in
    elim (is_named name p.stream) as (λ b. (b ≡ true → p.stream.conf.stream ≡ name)
    → (if bytes_eq p.stream.client client && b then Some p else client_owing client name ps) ≡ Some o
    → (if b then Some p else owing_named name ps) ≡ Some o) [
      | true ↦ λ same is. (elim (bytes_eq p.stream.client client) as (λ c. (if c && true then Some p else client_owing client name ps) ≡ Some o → Some p ≡ Some o) [
        | true ↦ λ is. is
        | false ↦ λ is. (let twice : true ≡ false =
            sym (client_stands sid published client name ps o is)
            ∙ ap (λ n. stands n (map stream_in (map (standing_of sid published) ps))) (sym (same refl)) ∙ whole.1 in cc)
      ] is)
      | false ↦ λ same is. client_named_in sid created published client name ps o
          (sym (ap (λ t. if t then Some p else client_owing client name ps) (and_false (bytes_eq p.stream.client client))) ∙ is) whole.3
    ] same is

pub client_named : (b : Books) (client name : List ℕ) (o : Owing) → Some o ≡ client_owing client name b.owings → AreKept b
    → Some o ≡ owing_named name b.owings
client_named b client name o is kept = sym (client_named_in b.store_id b.created b.published client name b.owings o (sym is) kept.whole)

-- ---- what holds of it

placed_in : (places : ℕ) (name : List ℕ) (os : List Owing) (o : Owing) → Some o ≡ owing_named name os → All (ArePlaced places) os → ArePlaced places o
placed_in places name [] o is all = cc
placed_in places name (p ∷ ps) o is all =
    elim (is_named name p.stream) as (λ b. Some o ≡ (if b then Some p else owing_named name ps) → ArePlaced places o) [
      | true ↦ λ is. (let same : p ≡ o = cc in subst (ArePlaced places) same (All-head (ArePlaced places) p ps all))
      | false ↦ λ is. placed_in places name ps o is (All-tail (ArePlaced places) p ps all)
    ] is

-- its debts are about publications that there are
pub found_placed : (b : Books) (name : List ℕ) (o : Owing) → Some o ≡ owing_named name b.owings → AreKept b
    → All (λ (d : Debt). IsPlaced (length b.published) d.said) o.owed
found_placed b name o is kept = placed_in (length b.published) name b.owings o is kept.placed

numbered_in : (sid : List ℕ) (created : List Count) (published : List Publication) (name : List ℕ) (os : List Owing) (o : Owing) → Some o ≡ owing_named name os
    → AreWhole sid created (map stream_in (map (standing_of sid published) os)) (map owed_in_standing (map (standing_of sid published) os))
    → o.stream.made ≤ LAST_NUMBER
numbered_in sid created published name [] o is whole = cc
numbered_in sid created published name (p ∷ ps) o is whole =
    elim (is_named name p.stream) as (λ b. Some o ≡ (if b then Some p else owing_named name ps) → o.stream.made ≤ LAST_NUMBER) [
      | true ↦ λ is. (let same : p ≡ o = cc in subst (λ (q : Owing). q.stream.made ≤ LAST_NUMBER) same whole.0.made)
      | false ↦ λ is. numbered_in sid created published name ps o is whole.3
    ] is

-- the number of its last token is one
pub found_numbered : (b : Books) (name : List ℕ) (o : Owing) → Some o ≡ owing_named name b.owings → AreKept b → o.stream.made ≤ LAST_NUMBER
found_numbered b name o is kept = numbered_in b.store_id b.created b.published name b.owings o is kept.whole
