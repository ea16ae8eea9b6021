-- Tokens on several streams, and the streams that the books hold.
use Rattle.std.proofs.Common.{◌≡◌, ◌∙◌, ap, sym, subst, ℕ, ◌+◌, List, [], ◌∷◌, ◌++◌, map, Bool, true, false, ◌&&◌, ◌||◌, nat_lt, Option, None, Some, if◌then◌else◌, refl}
use Rattle.std.specs.Prelude.{All}
use Rattle.std.specs.List.{list_any}
use Rattle.std.proofs.lemmas.List.Elements.{All-cons, All-nil}
use Rattle.std.proofs.lemmas.List.Folds.{list_any-append}
use Rattle.sig_json.specs.declared.limits.TheConstants.{LAST_NUMBER}
use Rattle.sig_event.specs.declared.news.News.{News}
use Rattle.sig_terms.specs.declared.fact.Fact.{Fact}
use Rattle.sig_terms.specs.declared.fact.Fact.TheVariants.{Created, Configured, StatusSet, Listed, Unlisted, Deleted, Published, Settled, Asked}
use Rattle.sig_history.specs.Streams.{Stream, Count, Publication, is_due, is_named}
use Rattle.sig_history.specs.Facts.{is_told, made_by, said_by, time_of, token_by, token_for}
use Rattle.sig_history.specs.Sound.{is_past, largest}
use Rattle.sig_history.specs.Standings.{owed_in_standing, stream_in}
use Rattle.sig_history.specs.Whole.{AreWhole}
use Rattle.sig_accounts.specs.Owings as books
use Rattle.sig_accounts.specs.Owings.{Balance, owing_in, standing_of}
use Rattle.sig_accounts.specs.Telling.{Addressed, IsAddressed}
use Rattle.sig_accounts.proofs.FoundLemmas.{book_streams}
use Rattle.sig_ledger.specs.Books.{AreKept, Books, sum_in}
use Rattle.sig_ledger.specs.Room.{IsAddressedIn}
use Rattle.sig_token_calls.specs.Tokens.{IsNumbered, is_full, stream_of, tokens_on}

-- ---- facts that tell nothing

-- a fact that tells nothing makes nothing
pub silent_size : (sid : List ℕ) (f : Fact) (ss : List Stream) → said_by f ≡ None → 0 ≡ largest (tokens_on sid f ss)
silent_size sid f [] none = refl
silent_size sid f (s ∷ ss) none =
    silent_size sid f ss none ∙ ap (λ l. largest (l ++ tokens_on sid f ss)) (sym (no_token sid f s none))
  where
    both : (b : Bool) (o : Option News) → (if b then o else o) ≡ o
    both true o = refl
    both false o = refl

    no_token : (sid : List ℕ) (f : Fact) (s : Stream) → said_by f ≡ None → token_for sid f s ≡ []
    no_token sid f s none =
        ap (λ (o : Option News). token_by sid (time_of f) s (if is_told f s then o else None)) none
        ∙ ap (token_by sid (time_of f) s) (both (is_told f s) None)

-- ---- numbers that are too great

told_past : (sid : List ℕ) (time : ℕ) (n : News) (s : Stream) (b : Bool)
    → list_any is_past (token_by sid time s (if b then Some n else None)) ≡ (b && nat_lt LAST_NUMBER (s.made + 1))
told_past sid time n s true = elim (nat_lt LAST_NUMBER (s.made + 1)) as (λ p. (p || false) ≡ p) [ true ↦ refl | false ↦ refl ]
told_past sid time n s false = refl

one_past : (sid : List ℕ) (f : Fact) (s : Stream) → list_any is_past (token_for sid f s) ≡ is_full f s
one_past sid (Created conf time) s = refl
one_past sid (Configured stream requested delivery description) s = refl
one_past sid (StatusSet stream status reason operator time) s = told_past sid time _ s (operator && is_named stream s)
one_past sid (Listed stream subject) s = refl
one_past sid (Unlisted stream subject) s = refl
one_past sid (Deleted stream) s = refl
one_past sid (Published id news time) s = told_past sid time news s (is_due news s)
one_past sid (Settled stream items) s = refl
one_past sid (Asked stream state time) s = told_past sid time _ s (is_named stream s)

-- they are those of streams that are full
past_is_full : (sid : List ℕ) (f : Fact) (ss : List Stream) → list_any is_past (tokens_on sid f ss) ≡ list_any (is_full f) ss
past_is_full sid f [] = refl
past_is_full sid f (s ∷ ss) =
    list_any-append is_past (token_for sid f s) (tokens_on sid f ss)
    ∙ ap (λ b. b || list_any is_past (tokens_on sid f ss)) (one_past sid f s)
    ∙ ap (λ b. is_full f s || b) (past_is_full sid f ss)

-- ---- the books

-- the streams that are held are those of the books
held_streams : (sid : List ℕ) (published : List Publication) (bs : List Balance) → map stream_in (map (standing_of sid published) (map owing_in bs)) ≡ map stream_of bs
held_streams sid published [] = refl
held_streams sid published (b ∷ bs) = ap (λ l. b.owing.stream ∷ l) (held_streams sid published bs)

streams_held : (b : Books) (bs : List Balance) → map owing_in bs ≡ b.owings → map stream_of bs ≡ (sum_in b).parts.streams
streams_held b bs held =
    sym (held_streams b.store_id b.published bs) ∙ ap (λ os. map stream_in (map (standing_of b.store_id b.published) os)) held

-- their numbers are ones
numbered : (sid : List ℕ) (created : List Count) (published : List Publication) (bs : List Balance)
    → AreWhole sid created (map stream_in (map (standing_of sid published) (map owing_in bs))) (map owed_in_standing (map (standing_of sid published) (map owing_in bs)))
    → All IsNumbered bs
numbered sid created published [] whole = All-nil IsNumbered
numbered sid created published (b ∷ bs) whole = All-cons IsNumbered b bs whole.0.made (numbered sid created published bs whole.3)

pub all_numbered : (b : Books) (bs : List Balance) → map owing_in bs ≡ b.owings → AreKept b → All IsNumbered bs
all_numbered b bs held kept =
    numbered b.store_id b.created b.published bs
    (subst (λ os. AreWhole b.store_id b.created (map stream_in (map (standing_of b.store_id b.published) os)) (map owed_in_standing (map (standing_of b.store_id b.published) os)))
    (sym held) kept.whole)

pub size_same : (b : Books) (bs : List Balance) (sid : List ℕ) (f : Fact) → sid ≡ b.store_id → map owing_in bs ≡ b.owings
    → largest (tokens_on sid f (map stream_of bs)) ≡ largest (made_by (sum_in b).parts f)
size_same b bs sid f store held =
    ap (λ ss. largest (tokens_on sid f ss)) (streams_held b bs held) ∙ ap (λ k. largest (tokens_on k f (sum_in b).parts.streams)) store

pub past_from : (b : Books) (bs : List Balance) (f : Fact) (full : Bool) → full ≡ list_any (is_full f) (map stream_of bs) → map owing_in bs ≡ b.owings
    → full ≡ list_any is_past (made_by (sum_in b).parts f)
past_from b bs f full is held =
    is ∙ ap (list_any (is_full f)) (streams_held b bs held) ∙ sym (past_is_full b.store_id f (sum_in b).parts.streams)

-- the streams that a fact tells are those of the streams that are held
pub told_held : (b : Books) (bs : List Balance) (a : Addressed) → map owing_in bs ≡ b.owings → IsAddressedIn (sum_in b).parts a
    → IsAddressed (map books.stream_in (map owing_in bs)) a
told_held b bs a held is =
    is ∙ ap (map (is_told a.fact)) (book_streams b.store_id b.published b.owings ∙ ap (map books.stream_in) (sym held))
