-- What a fact of one stream leaves in the books, and what a stream that is brought or taken away leaves there.
use Rattle.std.proofs.Common.{◌≡◌, ◌∙◌, ap, sym, subst, ℕ, ◌+◌, ◌<◌, List, [], ◌∷◌, ◌++◌, map, filter, length, get_or, Bool, true, not, ◌&&◌, Option, None, refl, append-nil, arith}
use Rattle.std.specs.List.{position_or_len, remove}
use Rattle.std.proofs.lemmas.Bool.{and_parts}
use Rattle.std.proofs.lemmas.Slice.Eq.{bytes_eq-Decides}
use Rattle.std.proofs.Math.ListN.{set}
use Rattle.sig_event.specs.declared.news.News.{News}
use Rattle.sig_event.specs.declared.status.Status.{Status}
use Rattle.std.proofs.lemmas.List.{length-append}
use Rattle.sig_terms.specs.declared.want.Delivery.{Delivery}
use Rattle.sig_terms.specs.declared.configuration.StreamConf.{StreamConf}
use Rattle.sig_terms.specs.declared.fact.Fact.{Fact}
use Rattle.sig_terms.specs.declared.fact.Fact.TheVariants.{Created, Configured, StatusSet, Deleted, Published, Settled, Asked}
use Rattle.sig_terms.specs.declared.fact.SettledItem.{SettledItem}
use Rattle.sig_history.specs.Streams.{Stream, Count, Publication, client_in, count_one, created_by, is_named, issued_of, stands}
use Rattle.sig_history.specs.Facts.{brought_by, counted, new_stream, published_by, removed_by, updated_news, verified_news}
use Rattle.sig_history.specs.Owed.{sum_of}
use Rattle.sig_history.specs.Sound.{Fits, are_owed, each_once, is_apt, is_small, may_be_made}
use Rattle.sig_history.specs.Owed.{Sum, owed_by}
use Rattle.sig_history.specs.Facts.{made_by}
use Rattle.sig_history.proofs.StepLemmas.{AreDistinct}
use Rattle.sig_history.proofs.WholeLemmas.{whole_distinct}
use Rattle.sig_accounts.specs.declared.debt.Said.{Said}
use Rattle.sig_accounts.specs.declared.debt.Said.TheVariants as said
use Rattle.sig_accounts.specs.Owings.{Balance, Owing, first_changed, has_name, opened, owing_after, owing_in, put_balance, put_owing, stream_in}
use Rattle.sig_ledger.specs.Books.{AreKept, Books, sum_in}
use Rattle.sig_history.specs.Streams.{is_before}
use Rattle.sig_ledger.specs.Room.{HaveRoom}
use Rattle.std.proofs.Common.{false, if◌then◌else◌}
use Rattle.sig_accounts.proofs.FoundLemmas.{book_streams}
use Rattle.sig_accounts.proofs.ChangeLemmas.{changed_at, created_all, deleted_all, removed_at, stands_at}
use Rattle.sig_accounts.specs.Reported.{Reported}
use Rattle.sig_ledger.proofs.TakenBooks.{MayTake, taken, taken_kept, taken_sum}
use Rattle.sig_accounts.proofs.StandingLemmas.{last_news, placed_owing, without_owing}

-- ---- one stream

-- the books that a ledger's fields hold
abbrev pub books_in : List ℕ → List Balance → List Count → List Publication → Reported → Books
books_in sid bs created published refused =
    record { store_id = sid; owings = map owing_in bs; created = created; published = published; refused = refused }

-- the books with other streams
abbrev pub with_owings : Books → List Owing → Books
with_owings b owings = record { store_id = b.store_id; owings = owings; created = b.created; published = b.published; refused = b.refused }

-- a fact changes streams that stand, and nothing else
pub record IsChange (b : Books) (f : Fact) (w : Said) (owings : List Owing) : Type 0 where
  pub may : MayTake b f w
  pub brings : brought_by (sum_in b).parts f ≡ None
  pub removes : removed_by f ≡ None
  pub publishes : published_by (sum_in b).parts f ≡ []
  pub now : owings ≡ map (owing_after f w) b.owings

change_is : (b : Books) (f : Fact) (w : Said) (owings : List Owing) → IsChange b f w owings → with_owings b owings ≡ taken b f w
change_is b f w owings change =
    let os : List Owing = map (owing_after f w) b.owings in
    ap (with_owings b) change.now
    ∙ ap (λ (l : List Publication). record { store_id = b.store_id; owings = os; created = b.created; published = l; refused = b.refused }) (sym (append-nil b.published))
    ∙ ap (λ (l : List Publication). record { store_id = b.store_id; owings = os; created = b.created; published = b.published ++ l; refused = b.refused }) (sym change.publishes)
    ∙ ap (λ (o : Option Stream). record {
      store_id = b.store_id;
      owings = placed_owing o os;
      created = counted o b.created;
      published = b.published ++ published_by (sum_in b).parts f;
      refused = b.refused;
    }) (sym change.brings)
    ∙ ap (λ (o : Option (List ℕ)). record {
      store_id = b.store_id;
      owings = placed_owing (brought_by (sum_in b).parts f) (without_owing o os);
      created = counted (brought_by (sum_in b).parts f) b.created;
      published = b.published ++ published_by (sum_in b).parts f;
      refused = b.refused;
    }) (sym change.removes)

pub change_sum : (b : Books) (f : Fact) (w : Said) (owings : List Owing) → IsChange b f w owings
    → sum_in (with_owings b owings) ≡ sum_of (sum_in b) (f ∷ [])
change_sum b f w owings change = ap sum_in (change_is b f w owings change) ∙ taken_sum b f w change.may

pub change_kept : (b : Books) (f : Fact) (w : Said) (owings : List Owing) → IsChange b f w owings → AreKept (with_owings b owings)
change_kept b f w owings change = subst AreKept (sym (change_is b f w owings change)) (taken_kept b f w change.may)

-- ---- where it stands

pub distinct_in : (b : Books) → AreKept b → AreDistinct (map stream_in b.owings)
distinct_in b kept =
    subst AreDistinct (book_streams b.store_id b.published b.owings) (whole_distinct b.store_id b.created _ _ kept.whole)

pub apt_by : (sum : Sum) (f : Fact) → Fits sum f → is_apt sum f ≡ true
apt_by sum f fits = (and_parts (may_be_made (made_by sum.parts f)) (is_apt sum f) fits).1

pub configured_stands : (sum : Sum) (name : List ℕ) (requested : Option (List (List ℕ))) (delivery : Delivery) (description : Option (List ℕ))
    → Fits sum (Configured name requested delivery description) → stands name sum.parts.streams ≡ true
configured_stands sum name requested delivery description fits =
    (and_parts (stands name sum.parts.streams) (is_small requested delivery description)
    (apt_by sum (Configured name requested delivery description) fits)).0

pub settled_stands : (sum : Sum) (name : List ℕ) (items : List SettledItem) → Fits sum (Settled name items) → stands name sum.parts.streams ≡ true
settled_stands sum name items fits =
    (and_parts (stands name sum.parts.streams) (are_owed items (owed_by sum name))
    (and_parts (stands name sum.parts.streams && are_owed items (owed_by sum name)) (each_once items) (apt_by sum (Settled name items) fits)).0).0

pub place_within : (b : Books) (bs : List Balance) (name : List ℕ) → map owing_in bs ≡ b.owings → stands name (sum_in b).parts.streams ≡ true
    → position_or_len (has_name name) bs < length bs
place_within b bs name same here =
    stands_at name bs (ap (λ os. stands name (map stream_in os)) same
    ∙ ap (stands name) (sym (book_streams b.store_id b.published b.owings)) ∙ here)

-- room that is held for what the books come to is held for the streams of the books
pub held_room : (b : Books) (name : List ℕ) (rooms : List ℕ) → HaveRoom (is_named name) (sum_in b).parts.streams rooms
    → HaveRoom (is_named name) (map stream_in b.owings) rooms
held_room b name rooms held = subst (λ (ss : List Stream). HaveRoom (is_named name) ss rooms) (book_streams b.store_id b.published b.owings) held

-- what is written at the place of a name is what the fact makes of its stream
pub change_here : (b : Books) (bs : List Balance) (f : Fact) (w : Said) (name : List ℕ) (g : Owing → Owing) (place : ℕ) (old new : Balance)
    → MayTake b f w → map owing_in bs ≡ b.owings → brought_by (sum_in b).parts f ≡ None → removed_by f ≡ None → published_by (sum_in b).parts f ≡ []
    → ((os : List Owing) → AreDistinct (map stream_in os) → first_changed name g os ≡ map (owing_after f w) os)
    → place ≡ position_or_len (has_name name) bs → place < length bs → old ≡ get_or bs place old → new.owing ≡ g old.owing
    → IsChange b f w (map owing_in (set bs place new))
change_here b bs f w name g place old new may same brings removes publishes all at within read is = record {
  may = may;
  brings = brings;
  removes = removes;
  publishes = publishes;
  now = changed_at name g bs place old new at within read is ∙ ap (first_changed name g) same ∙ all b.owings (distinct_in b may.kept);
}

-- ---- that a token says what the fact tells

-- what no token says
abbrev pub nothing_said : Said
nothing_said = said.Verified None

named_as : (name : List ℕ) (s : Stream) → is_named name s ≡ true → s.conf.stream ≡ name
named_as name s is = (bytes_eq-Decides s.conf.stream name).0 is

pub may_set : (b : Books) (name : List ℕ) (status : Status) (reason : Option (List ℕ)) (operator : Bool) (time : ℕ) → AreKept b
    → Fits (sum_in b) (StatusSet name status reason operator time) → MayTake b (StatusSet name status reason operator time) (said.Updated status reason)
may_set b name status reason operator time kept fits = record {
  kept = kept;
  fits = fits;
  says = λ s told. ap (λ n. updated_news n status reason) (named_as name s (and_parts operator (is_named name s) told).1);
  placed = tt;
  by = refl;
  reported = record { same = refl; known = tt };
}

pub may_ask : (b : Books) (name : List ℕ) (state : Option (List ℕ)) (time : ℕ) → AreKept b → Fits (sum_in b) (Asked name state time)
    → MayTake b (Asked name state time) (said.Verified state)
may_ask b name state time kept fits = record {
  kept = kept;
  fits = fits;
  says = λ s told. ap (λ n. verified_news n state) (named_as name s told);
  placed = tt;
  by = refl;
  reported = record { same = refl; known = tt };
}

pub may_publish : (b : Books) (id : List ℕ) (n : News) (time : ℕ) → AreKept b → Fits (sum_in b) (Published id n time)
    → MayTake b (Published id n time) (said.Published (length b.published))
may_publish b id n time kept fits =
    let more : List Publication = published_by (sum_in b).parts (Published id n time) in
    record {
      kept = kept;
      fits = fits;
      says = λ s told. last_news b.published (record { id = id; news = n; issued = map issued_of (made_by (sum_in b).parts (Published id n time)) });
      placed = omega (arith, length-append b.published more);
      by = refl;
      reported = record { same = refl; known = tt };
    }

-- ---- a stream that is brought

pub put_owings : (b : Balance) (bs : List Balance) → map owing_in (put_balance b bs) ≡ put_owing b.owing (map owing_in bs)
put_owings b [] = refl
put_owings b (c ∷ cs) =
    elim (is_before c.owing.stream b.owing.stream) as (λ t. map owing_in (if t then c ∷ put_balance b cs else b ∷ c ∷ cs)
    ≡ (if t then c.owing ∷ put_owing b.owing (map owing_in cs) else b.owing ∷ c.owing ∷ map owing_in cs)) [
      | true ↦ ap (λ l. c.owing ∷ l) (put_owings b cs)
      | false ↦ refl
    ]

-- the stream that a configuration brings
abbrev pub stream_for : Books → StreamConf → Stream
stream_for b conf = new_stream (client_in conf.stream) (created_by (client_in conf.stream) b.created + 1) conf

abbrev pub with_stream : Books → StreamConf → Books
with_stream b conf = record {
  store_id = b.store_id;
  owings = put_owing (opened (stream_for b conf)) b.owings;
  created = count_one (client_in conf.stream) b.created;
  published = b.published;
  refused = b.refused;
}

pub with_stream_is : (b : Books) (conf : StreamConf) (time : ℕ) → with_stream b conf ≡ taken b (Created conf time) nothing_said
with_stream_is b conf time =
    ap (λ (l : List Publication). record {
      store_id = b.store_id;
      owings = put_owing (opened (stream_for b conf)) b.owings;
      created = count_one (client_in conf.stream) b.created;
      published = l;
      refused = b.refused;
    }) (sym (append-nil b.published))
    ∙ ap (λ (os : List Owing). record {
      store_id = b.store_id;
      owings = put_owing (opened (stream_for b conf)) os;
      created = count_one (client_in conf.stream) b.created;
      published = b.published ++ [];
      refused = b.refused;
    }) (sym (created_all conf time nothing_said b.owings))

-- ---- a stream that is taken away

pub without_is : (b : Books) (bs : List Balance) (name : List ℕ) (place : ℕ) → AreKept b → map owing_in bs ≡ b.owings
    → place ≡ position_or_len (has_name name) bs → with_owings b (map owing_in (remove bs place)) ≡ taken b (Deleted name) nothing_said
without_is b bs name place kept same at =
    let others : Owing → Bool = λ o. not (is_named name o.stream) in
    ap (with_owings b)
    (removed_at name bs place at (subst (λ os. AreDistinct (map stream_in os)) (sym same) (distinct_in b kept))
    ∙ ap (filter others) same ∙ sym (deleted_all name nothing_said b.owings))
    ∙ ap (λ (l : List Publication). record {
      store_id = b.store_id;
      owings = filter others (map (owing_after (Deleted name) nothing_said) b.owings);
      created = b.created;
      published = l;
      refused = b.refused;
    }) (sym (append-nil b.published))
