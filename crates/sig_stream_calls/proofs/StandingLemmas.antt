-- How streams stand in the books is how they stand in what the books come to.
use Rattle.std.proofs.Common.{◌≡◌, ◌∙◌, ap, sym, ℕ, ◌+◌, List, [], ◌∷◌, length, map, take, drop, Option, None, Some, if◌then◌else◌, true, false, refl}
use Rattle.std.specs.Prelude.{min, option_map}
use Rattle.std.specs.List.{slice_get}
use Rattle.std.proofs.lemmas.List.{drop-map, length-map, take-map}
use Rattle.sig_terms.specs.declared.answer.Answer.TheVariants as answer
use Rattle.sig_terms.specs.declared.standing.Standing as terms
use Rattle.sig_history.specs.Owed.{owed_by, owed_in, stream_named}
use Rattle.sig_history.specs.Standings.{Standing, owed_in_standing, stream_in}
use Rattle.sig_history.specs.Streams.{Publication, Stream, is_named}
use Rattle.sig_history.proofs.StepLemmas.{Each, all_own, each_and, map_each, name_of}
use Rattle.sig_history.proofs.WholeLemmas.{whole_distinct}
use Rattle.sig_calls.specs.Found.{told_by}
use Rattle.sig_calls.specs.Overseeing.{figuring, first_made, listing, standing_with, standings_of}
use Rattle.sig_calls.specs.Told.{Told, only}
use Rattle.sig_calls.specs.declared.limits.TheConstants.{STREAMS_PER_PAGE}
use Rattle.sig_accounts.specs.Owings as books
use Rattle.sig_accounts.specs.Owings.{Balance, Owing, made_of, owing_in, owing_named, standing_of}
use Rattle.sig_accounts.specs.declared.debt.Debt.{Debt}
use Rattle.sig_ledger.specs.Books.{AreKept, Books, sum_in}
use Rattle.sig_stream_calls.specs.Standings.{standing_in}

-- ---- one stream

first_of : (sid : List ℕ) (published : List Publication) (s : Stream) (ds : List Debt)
    → first_made (map (made_of sid published s) ds) ≡ option_map (λ (d : Debt). d.time) (slice_get ds 0)
first_of sid published s [] = refl
first_of sid published s (d ∷ ds) = refl

-- a stream that owes so many tokens, the first of which was made then
abbrev standing_at : Stream → ℕ → Option ℕ → terms.Standing
standing_at s owed oldest = record { stream = s.conf.stream; status = s.status; owed = owed; oldest = oldest; made = s.made }

held : (sid : List ℕ) (published : List Publication) (o : Owing)
    → standing_with o.stream (map (made_of sid published o.stream) o.owed) ≡ standing_in o
held sid published o =
    ap (λ n. standing_at o.stream n (first_made (map (made_of sid published o.stream) o.owed))) (length-map o.owed (made_of sid published o.stream))
    ∙ ap (standing_at o.stream (length o.owed)) (first_of sid published o.stream o.owed)

-- ---- all of them

of_streams : {X : Type 0} (f : Stream → X) (ss : List Standing) → map f (map stream_in ss) ≡ map (λ s. f s.stream) ss
of_streams f [] = refl
of_streams f (s ∷ ss) = ap (λ l. f s.stream ∷ l) (of_streams f ss)

all_held : (sid : List ℕ) (published : List Publication) (os : List Owing)
    → map (λ (s : Standing). standing_with s.stream s.owed) (map (standing_of sid published) os) ≡ map standing_in os
all_held sid published [] = refl
all_held sid published (o ∷ os) =
    ap (λ t. t ∷ map (λ (s : Standing). standing_with s.stream s.owed) (map (standing_of sid published) os)) (held sid published o)
    ∙ ap (λ l. standing_in o ∷ l) (all_held sid published os)

-- over books that are kept each stream owes under its name what stands beside it
pub standings_are : (b : Books) → AreKept b → standings_of (sum_in b) ≡ map standing_in b.owings
standings_are b kept =
    let ss : List Standing = map (standing_of b.store_id b.published) b.owings in
    let own : Each (λ s. owed_in (name_of s) (map stream_in ss) (map owed_in_standing ss) ≡ s.owed) ss =
    all_own ss (whole_distinct b.store_id b.created (map stream_in ss) (map owed_in_standing ss) kept.whole) in
    of_streams (λ (s : Stream). standing_with s (owed_by (sum_in b) s.conf.stream)) ss
    ∙ map_each (λ (s : Standing). standing_with s.stream (owed_by (sum_in b) (name_of s))) (λ (s : Standing). standing_with s.stream s.owed) ss
    (each_and (λ s. owed_in (name_of s) (map stream_in ss) (map owed_in_standing ss) ≡ s.owed)
    (λ s. owed_in (name_of s) (map stream_in ss) (map owed_in_standing ss) ≡ s.owed)
    (λ s. standing_with s.stream (owed_by (sum_in b) (name_of s)) ≡ standing_with s.stream s.owed)
    (λ s one two. ap (standing_with s.stream) one) ss own own)
    ∙ all_held b.store_id b.published b.owings

-- ---- what the operator is told

pub figured : (b : Books) (accounts : List Balance) (publications : ℕ) (standings : List terms.Standing) → AreKept b → map owing_in accounts ≡ b.owings
    → publications ≡ length b.published → standings ≡ map standing_in (map owing_in accounts)
    → only (answer.Figures publications standings) ≡ figuring (sum_in b)
figured b accounts publications standings kept held many each =
    ap (λ n. only (answer.Figures n standings)) many
    ∙ ap (λ l. only (answer.Figures (length b.published) l)) (each ∙ ap (map standing_in) held ∙ sym (standings_are b kept))

-- so many streams stand as are held
counted : (b : Books) (accounts : List Balance) → map owing_in accounts ≡ b.owings → length accounts ≡ length (sum_in b).parts.streams
counted b accounts held =
    sym (length-map accounts owing_in) ∙ ap length held ∙ sym (length-map b.owings (standing_of b.store_id b.published))
    ∙ sym (length-map (map (standing_of b.store_id b.published) b.owings) stream_in)

paged : (b : Books) (accounts : List Balance) (from : ℕ) → AreKept b → map owing_in accounts ≡ b.owings
    → map standing_in (map owing_in (take STREAMS_PER_PAGE (drop from accounts))) ≡ take STREAMS_PER_PAGE (drop from (standings_of (sum_in b)))
paged b accounts from kept held =
    ap (map standing_in) (sym (take-map owing_in STREAMS_PER_PAGE (drop from accounts)))
    ∙ sym (take-map standing_in STREAMS_PER_PAGE (map owing_in (drop from accounts)))
    ∙ ap (λ l. take STREAMS_PER_PAGE (map standing_in l)) (sym (drop-map owing_in from accounts))
    ∙ ap (take STREAMS_PER_PAGE) (sym (drop-map standing_in from (map owing_in accounts)))
    ∙ ap (λ l. take STREAMS_PER_PAGE (drop from (map standing_in l))) held
    ∙ ap (λ l. take STREAMS_PER_PAGE (drop from l)) (sym (standings_are b kept))

pub listed : (b : Books) (accounts : List Balance) (from next : ℕ) (standings : List terms.Standing) → AreKept b → map owing_in accounts ≡ b.owings
    → next ≡ min (from + STREAMS_PER_PAGE) (length accounts)
    → standings ≡ map standing_in (map owing_in (take STREAMS_PER_PAGE (drop from accounts)))
    → only (answer.Standings next standings) ≡ listing (sum_in b) from
listed b accounts from next standings kept held behind each =
    ap (λ n. only (answer.Standings n standings)) (behind ∙ ap (min (from + STREAMS_PER_PAGE)) (counted b accounts held))
    ∙ ap (λ l. only (answer.Standings (min (from + STREAMS_PER_PAGE) (length (sum_in b).parts.streams)) l)) (each ∙ paged b accounts from kept held)

-- ---- the stream of a name

named_in : (sid : List ℕ) (published : List Publication) (name : List ℕ) (os : List Owing)
    → option_map books.stream_in (owing_named name os) ≡ stream_named name (map stream_in (map (standing_of sid published) os))
named_in sid published name [] = refl
named_in sid published name (o ∷ os) =
    elim (is_named name o.stream) as (λ b. option_map books.stream_in (if b then Some o else owing_named name os)
    ≡ (if b then Some o.stream else stream_named name (map stream_in (map (standing_of sid published) os)))) [
      | true ↦ refl
      | false ↦ named_in sid published name os
    ]

-- so what is told of what is found in the books is what the table tells of the stream of the name
pub told_named : (tell : Stream → Told) (b : Books) (name : List ℕ) (found : Option Owing) (t : Told)
    → t ≡ told_by tell (option_map books.stream_in found) → found ≡ owing_named name b.owings
    → t ≡ told_by tell (stream_named name (sum_in b).parts.streams)
told_named tell b name found t told is =
    told ∙ ap (λ o. told_by tell (option_map books.stream_in o)) is ∙ ap (told_by tell) (named_in b.store_id b.published name b.owings)
