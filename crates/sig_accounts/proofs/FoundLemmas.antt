-- The stream of a name, among streams and in what they come to.
use Rattle.std.proofs.Common.{◌≡◌, ◌∙◌, ap, sym, ℕ, List, [], ◌∷◌, length, map, true, false, ◌||◌, None, Some, if◌then◌else◌, refl}
use Rattle.std.specs.Prelude.{is_some, option_map}
use Rattle.std.proofs.lemmas.List.{length-map}
use Rattle.sig_history.specs.Streams.{Publication, is_named, stands}
use Rattle.sig_history.specs.Owed.{owed_in}
use Rattle.sig_history.specs.Standings.{owed_in_standing, stream_in}
use Rattle.sig_accounts.specs.Owings.{Owing, made_of, owing_named, standing_of}
use Rattle.sig_accounts.specs.Owings as books

-- the streams of the books are those that they come to
pub book_streams : (sid : List ℕ) (published : List Publication) (os : List Owing)
    → map stream_in (map (standing_of sid published) os) ≡ map books.stream_in os
book_streams sid published [] = refl
book_streams sid published (o ∷ os) = ap (λ l. o.stream ∷ l) (book_streams sid published os)

-- where it stands, what is found is what it owes
pub found_in : (sid : List ℕ) (published : List Publication) (name : List ℕ) (os : List Owing) (o : Owing) → owing_named name os ≡ Some o
    → owed_in name (map stream_in (map (standing_of sid published) os)) (map owed_in_standing (map (standing_of sid published) os))
    ≡ map (made_of sid published o.stream) o.owed
found_in sid published name [] o found = cc
found_in sid published name (p ∷ ps) o found =
    elim (is_named name p.stream) as (λ b. (if b then Some p else owing_named name ps) ≡ Some o
    → (if b then map (made_of sid published p.stream) p.owed
    else owed_in name (map stream_in (map (standing_of sid published) ps)) (map owed_in_standing (map (standing_of sid published) ps)))
    ≡ map (made_of sid published o.stream) o.owed) [
      | true ↦ λ found. (let same : p ≡ o = cc in ap (λ (q : Owing). map (made_of sid published q.stream) q.owed) same)
      | false ↦ λ found. found_in sid published name ps o found
    ] found

pub named_stands : (sid : List ℕ) (published : List Publication) (name : List ℕ) (os : List Owing)
    → is_some (owing_named name os) ≡ stands name (map stream_in (map (standing_of sid published) os))
named_stands sid published name [] = refl
named_stands sid published name (p ∷ ps) =
    elim (is_named name p.stream) as (λ b. is_some (if b then Some p else owing_named name ps)
    ≡ (b || stands name (map stream_in (map (standing_of sid published) ps)))) [
      | true ↦ refl
      | false ↦ named_stands sid published name ps
    ]

pub stands_in : (sid : List ℕ) (published : List Publication) (name : List ℕ) (os : List Owing) (o : Owing) → owing_named name os ≡ Some o
    → stands name (map stream_in (map (standing_of sid published) os)) ≡ true
stands_in sid published name os o found = sym (named_stands sid published name os) ∙ ap is_some found

pub missing_in : (sid : List ℕ) (published : List Publication) (name : List ℕ) (os : List Owing) → owing_named name os ≡ None
    → stands name (map stream_in (map (standing_of sid published) os)) ≡ false
missing_in sid published name os missing = sym (named_stands sid published name os) ∙ ap is_some missing

pub none_in : (sid : List ℕ) (published : List Publication) (name : List ℕ) (os : List Owing) → owing_named name os ≡ None
    → owed_in name (map stream_in (map (standing_of sid published) os)) (map owed_in_standing (map (standing_of sid published) os)) ≡ []
none_in sid published name [] missing = refl
none_in sid published name (p ∷ ps) missing =
    elim (is_named name p.stream) as (λ b. (if b then Some p else owing_named name ps) ≡ None
    → (if b then map (made_of sid published p.stream) p.owed
    else owed_in name (map stream_in (map (standing_of sid published) ps)) (map owed_in_standing (map (standing_of sid published) ps))) ≡ []) [
      | true ↦ λ missing. cc
      | false ↦ λ missing. none_in sid published name ps missing
    ] missing

-- how many tokens it owes
pub counted_in : (sid : List ℕ) (published : List Publication) (name : List ℕ) (os : List Owing)
    → (if stands name (map stream_in (map (standing_of sid published) os))
    then Some (length (owed_in name (map stream_in (map (standing_of sid published) os)) (map owed_in_standing (map (standing_of sid published) os)))) else None)
    ≡ option_map (λ (o : Owing). length o.owed) (owing_named name os)
counted_in sid published name [] = refl
counted_in sid published name (p ∷ ps) =
    elim (is_named name p.stream) as (λ b. (if b || stands name (map stream_in (map (standing_of sid published) ps))
    then Some (length (if b then map (made_of sid published p.stream) p.owed
    else owed_in name (map stream_in (map (standing_of sid published) ps)) (map owed_in_standing (map (standing_of sid published) ps)))) else None)
    ≡ option_map (λ (o : Owing). length o.owed) (if b then Some p else owing_named name ps)) [
      | true ↦ ap (λ n. Some n) (length-map p.owed (made_of sid published p.stream))
      | false ↦ counted_in sid published name ps
    ]
