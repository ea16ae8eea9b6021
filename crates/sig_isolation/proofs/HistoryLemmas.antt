-- A client's part of a history rests on nothing that other clients did.
use Rattle.std.proofs.Common.{◌≡◌, ◌∙◌, ap, sym, subst, ℕ, ◌+◌, List, [], ◌∷◌, ◌++◌, map, filter, flat_map, Bool, true, false, not, ◌&&◌, bytes_eq, Option, Some, None, if◌then◌else◌, refl}
use Rattle.std.proofs.lemmas.Bool.{or_left, or_right}
use Rattle.std.proofs.lemmas.List.Elements.{filter-append}
use Rattle.sig_event.specs.declared.news.News.{News}
use Rattle.sig_terms.specs.declared.configuration.StreamConf.{StreamConf}
use Rattle.sig_terms.specs.declared.fact.Fact.{Fact}
use Rattle.sig_terms.specs.declared.fact.Fact.TheVariants.{Created, Published}
use Rattle.sig_history.specs.Streams.{Stream, Count, Made, Parts, client_in, count_one, created_by, is_named, put_in_order, stands}
use Rattle.sig_history.specs.Facts.{made_by, new_stream, parts_after, parts_of, removed_by, stream_after, tells, time_of, token_by, token_for, without}
use Rattle.sig_history.specs.Owed.{Sum, empty_sum, is_of, owed_after, owed_by, owed_of, sum_of, survives, takes_off}
use Rattle.sig_isolation.specs.Isolation.{Part, PartsAreIsolated, concerns, is_of_client}
use Rattle.sig_history.proofs.JoinLemmas.{filter_same, found, gone}
use Rattle.sig_history.proofs.StreamLemmas.{after_same, one_counted, same_text, text_itself}
use Rattle.sig_isolation.proofs.OrderLemmas.{AreOrderly, orderly_after, own, put_other, put_own}
use Rattle.sig_isolation.proofs.OthersLemmas.{name_of_own, none_own, not_named, own_without, stands_own, streams_left, takes_none, tells_left, without_left}

-- ---- facts, over a client's streams

own_map : (client : List ℕ) (f : Fact) (ss : List Stream) → own client (map (stream_after f) ss) ≡ map (stream_after f) (own client ss)
own_map client f [] = refl
own_map client f (s ∷ ss) =
    ap (λ n. if bytes_eq (client_in n) client then stream_after f s ∷ own client (map (stream_after f) ss) else own client (map (stream_after f) ss)) (after_same f s).name
    ∙ ap (λ l. if is_of_client client s then stream_after f s ∷ l else l) (own_map client f ss)
    ∙ maps (is_of_client client s) s (own client ss)
  where
    maps : (b : Bool) (s : Stream) (xs : List Stream) → (if b then stream_after f s ∷ map (stream_after f) xs else map (stream_after f) xs) ≡ map (stream_after f) (if b then s ∷ xs else xs)
    maps true s xs = refl
    maps false s xs = refl

other_counted : (client other : List ℕ) (counts : List Count) → bytes_eq other client ≡ false → created_by client (count_one other counts) ≡ created_by client counts
other_counted client other [] not = rw not refl
other_counted client other (c ∷ cs) not =
    elim (bytes_eq c.client other) as (λ b. bytes_eq c.client other ≡ b
    → created_by client (if b then record { client = other; count = c.count + 1 } ∷ cs else c ∷ count_one other cs) ≡ created_by client (c ∷ cs)) [
      | true ↦ λ is. let same : c.client ≡ other = same_text c.client other is in
          ap (λ b. if b then c.count + 1 else created_by client cs) not
          ∙ sym (ap (λ n. if bytes_eq n client then c.count else created_by client cs) same ∙ ap (λ b. if b then c.count else created_by client cs) not)
      | false ↦ λ is. ap (λ n. if bytes_eq c.client client then c.count else n) (other_counted client other cs not)
    ] refl

-- ---- two histories that are alike for a client

pub record AreAlike (client : List ℕ) (p q : Parts) : Type 0 where
  pub store : p.store_id ≡ q.store_id
  pub streams : own client p.streams ≡ own client q.streams
  pub created : created_by client p.created ≡ created_by client q.created
  pub first : AreOrderly p.created p.streams
  pub second : AreOrderly q.created q.streams

-- the stream that a fact brings
abbrev next_one : StreamConf → ℕ → Stream
next_one conf n = new_stream (client_in conf.stream) (n + 1) conf

created_own : (client : List ℕ) (p : Parts) (conf : StreamConf) (time : ℕ) → bytes_eq (client_in conf.stream) client ≡ true → AreOrderly p.created p.streams
    → own client (parts_after p (Created conf time)).streams
    ≡ map (stream_after (Created conf time)) (own client p.streams) ++ next_one conf (created_by client p.created) ∷ []
created_own client p conf time is orderly =
    let f : Fact = Created conf time in
    let same : client_in conf.stream ≡ client = same_text (client_in conf.stream) client is in
    ap (λ n. own client (put_in_order (next_one conf n) (map (stream_after f) p.streams))) (ap (λ c. created_by c p.created) same)
    ∙ put_own client p.created (next_one conf (created_by client p.created)) (map (stream_after f) p.streams) same is refl (mapped p.streams orderly)
    ∙ ap (λ l. l ++ next_one conf (created_by client p.created) ∷ []) (own_map client f p.streams)
  where
    same_all : (ss : List Stream) → map (stream_after (Created conf time)) ss ≡ ss
    same_all [] = refl
    same_all (s ∷ ss) = ap (λ l. s ∷ l) (same_all ss)

    mapped : (ss : List Stream) → AreOrderly p.created ss → AreOrderly p.created (map (stream_after (Created conf time)) ss)
    mapped ss orderly = subst (AreOrderly p.created) (sym (same_all ss)) orderly

-- a client's streams after a fact that brings none
kept_own : (client : List ℕ) (f : Fact) (ss : List Stream)
    → own client (without (removed_by f) (map (stream_after f) ss)) ≡ without (removed_by f) (map (stream_after f) (own client ss))
kept_own client f ss = own_without client (removed_by f) (map (stream_after f) ss) ∙ ap (without (removed_by f)) (own_map client f ss)

streams_alike : (client : List ℕ) (p q : Parts) (f : Fact) → concerns client f ≡ true → AreAlike client p q
    → own client (parts_after p f).streams ≡ own client (parts_after q f).streams
streams_alike client p q (Created conf time) is alike =
    created_own client p conf time is alike.first
    ∙ ap (λ l. map (stream_after (Created conf time)) l ++ next_one conf (created_by client p.created) ∷ []) alike.streams
    ∙ ap (λ n. map (stream_after (Created conf time)) (own client q.streams) ++ next_one conf n ∷ []) alike.created
    ∙ sym (created_own client q conf time is alike.second)
streams_alike client p q f is alike =
    kept_own client f p.streams ∙ ap (λ l. without (removed_by f) (map (stream_after f) l)) alike.streams ∙ sym (kept_own client f q.streams)

counts_alike : (client : List ℕ) (p q : Parts) (f : Fact) → concerns client f ≡ true → AreAlike client p q
    → created_by client (parts_after p f).created ≡ created_by client (parts_after q f).created
counts_alike client p q (Created conf time) is alike =
    let same : client_in conf.stream ≡ client = same_text (client_in conf.stream) client is in
    ap (λ c. created_by client (count_one c p.created)) same ∙ one_counted client p.created ∙ ap (λ n. n + 1) alike.created
    ∙ sym (ap (λ c. created_by client (count_one c q.created)) same ∙ one_counted client q.created)
counts_alike client p q f is alike = alike.created

-- after a fact that concerns the client they are alike still
alike_both : (client : List ℕ) (p q : Parts) (f : Fact) → concerns client f ≡ true → AreAlike client p q → AreAlike client (parts_after p f) (parts_after q f)
alike_both client p q f is alike = record {
  store = alike.store;
  streams = streams_alike client p q f is alike;
  created = counts_alike client p q f is alike;
  first = orderly_after p f alike.first;
  second = orderly_after q f alike.second;
}

-- a fact that doesn't concern the client leaves its streams and its count
left_streams : (client : List ℕ) (p : Parts) (f : Fact) → concerns client f ≡ false → own client (parts_after p f).streams ≡ own client p.streams
left_streams client p (Created conf time) not =
    put_other client (next_one conf (created_by (client_in conf.stream) p.created)) (map (stream_after (Created conf time)) p.streams) not
    ∙ ap (own client) (same_all p.streams)
  where
    same_all : (ss : List Stream) → map (stream_after (Created conf time)) ss ≡ ss
    same_all [] = refl
    same_all (s ∷ ss) = ap (λ l. s ∷ l) (same_all ss)
left_streams client p (Published id news time) not = cc not
left_streams client p f not =
    kept_own client f p.streams ∙ ap (without (removed_by f)) (streams_left client f p.streams not) ∙ without_left client f p.streams not

left_counts : (client : List ℕ) (p : Parts) (f : Fact) → concerns client f ≡ false → created_by client (parts_after p f).created ≡ created_by client p.created
left_counts client p (Created conf time) not = other_counted client (client_in conf.stream) p.created not
left_counts client p f not = refl

alike_first : (client : List ℕ) (p q : Parts) (f : Fact) → concerns client f ≡ false → AreAlike client p q → AreAlike client (parts_after p f) q
alike_first client p q f not alike = record {
  store = alike.store;
  streams = left_streams client p f not ∙ alike.streams;
  created = left_counts client p f not ∙ alike.created;
  first = orderly_after p f alike.first;
  second = alike.second;
}

-- by any facts, with and without those of others
parts_alike : (client : List ℕ) (p q : Parts) (facts : List Fact) → AreAlike client p q → AreAlike client (parts_of p facts) (parts_of q (filter (concerns client) facts))
parts_alike client p q [] alike = alike
parts_alike client p q (f ∷ fs) alike =
    elim (concerns client f) as (λ b. concerns client f ≡ b
    → AreAlike client (parts_of (parts_after p f) fs) (parts_of q (if b then f ∷ filter (concerns client) fs else filter (concerns client) fs))) [
      | true ↦ λ is. parts_alike client (parts_after p f) (parts_after q f) fs (alike_both client p q f is alike)
      | false ↦ λ other. parts_alike client (parts_after p f) q fs (alike_first client p q f other alike)
    ] refl

-- ---- what survives

stands_alike : (client name : List ℕ) (p q : Parts) → client_in name ≡ client → AreAlike client p q → stands name p.streams ≡ stands name q.streams
stands_alike client name p q of alike =
    stands_own client name p.streams of ∙ ap (stands name) alike.streams ∙ sym (stands_own client name q.streams of)

-- what survives stands
standing : (name : List ℕ) (q : Parts) (facts : List Fact) (t : Made) (b : Bool) → b ≡ stands name q.streams
    → (b && survives name q facts t) ≡ survives name q facts t
standing name q facts t true is = refl
standing name q facts t false is = sym (gone name q facts (sym is) t)

survives_alike : (client name : List ℕ) (p q : Parts) (facts : List Fact) (t : Made) → client_in name ≡ client → AreAlike client p q
    → survives name p facts t ≡ survives name q (filter (concerns client) facts) t
survives_alike client name p q [] t of alike = stands_alike client name p q of alike
survives_alike client name p q (f ∷ fs) t of alike =
    let rest : List Fact = filter (concerns client) fs in
    elim (concerns client f) as (λ b. concerns client f ≡ b → survives name p (f ∷ fs) t ≡ survives name q (if b then f ∷ rest else rest) t) [
      | true ↦ λ is. ap (λ b. b && (not (takes_off name f t) && survives name (parts_after p f) fs t)) (stands_alike client name p q of alike)
          ∙ ap (λ b. stands name q.streams && (not (takes_off name f t) && b))
          (survives_alike client name (parts_after p f) (parts_after q f) fs t of (alike_both client p q f is alike))
      | false ↦ λ other. ap (λ b. stands name p.streams && (not b && survives name (parts_after p f) fs t)) (takes_none client name f t of other)
          ∙ ap (λ b. stands name p.streams && b) (survives_alike client name (parts_after p f) q fs t of (alike_first client p q f other alike))
          ∙ standing name q rest t (stands name p.streams) (stands_alike client name p q of alike)
    ] refl

-- ---- what is owed

other_token : (client name sid : List ℕ) (time : ℕ) (s : Stream) (o : Option News) → client_in name ≡ client → is_of_client client s ≡ false
    → filter (is_of name) (token_by sid time s o) ≡ []
other_token client name sid time s None of other = refl
other_token client name sid time s (Some n) of other = rw (not_named client name s of other) refl

-- of the tokens that a fact makes, those of a client's stream are made for the client's streams
tokens_own : (client name sid : List ℕ) (f : Fact) (ss : List Stream) → client_in name ≡ client
    → filter (is_of name) (flat_map (token_for sid f) ss) ≡ filter (is_of name) (flat_map (token_for sid f) (own client ss))
tokens_own client name sid f [] of = refl
tokens_own client name sid f (s ∷ ss) of =
    let rest : List Made = flat_map (token_for sid f) ss in
    let first : List Made = token_for sid f s in
    filter-append (is_of name) first rest
    ∙ elim (is_of_client client s) as (λ b. is_of_client client s ≡ b
    → filter (is_of name) first ++ filter (is_of name) rest ≡ filter (is_of name) (flat_map (token_for sid f) (if b then s ∷ own client ss else own client ss))) [
      | true ↦ λ is. ap (λ l. filter (is_of name) first ++ l) (tokens_own client name sid f ss of)
          ∙ sym (filter-append (is_of name) first (flat_map (token_for sid f) (own client ss)))
      | false ↦ λ other. ap (λ l. l ++ filter (is_of name) rest) (other_token client name sid (time_of f) s (tells f s) of other)
          ∙ tokens_own client name sid f ss of
    ] refl

made_alike : (client name : List ℕ) (p q : Parts) (f : Fact) → client_in name ≡ client → AreAlike client p q
    → filter (is_of name) (made_by p f) ≡ filter (is_of name) (made_by q f)
made_alike client name p q f of alike =
    tokens_own client name p.store_id f p.streams of
    ∙ ap (λ l. filter (is_of name) (flat_map (token_for p.store_id f) l)) alike.streams
    ∙ ap (λ sid. filter (is_of name) (flat_map (token_for sid f) (own client q.streams))) alike.store
    ∙ sym (tokens_own client name q.store_id f q.streams of)

-- facts of others make none for a client's stream
none_made : (client name : List ℕ) (p : Parts) (f : Fact) → client_in name ≡ client → concerns client f ≡ false → filter (is_of name) (made_by p f) ≡ []
none_made client name p f of other =
    tokens_own client name p.store_id f p.streams of
    ∙ ap (filter (is_of name)) (none_own client (token_for p.store_id f)
    (λ s is. ap (token_by p.store_id (time_of f) s) (tells_left client f s is other)) p.streams)

owed_alike : (client name : List ℕ) (p q : Parts) (facts : List Fact) → client_in name ≡ client → AreAlike client p q
    → owed_of name p facts ≡ owed_of name q (filter (concerns client) facts)
owed_alike client name p q [] of alike = refl
owed_alike client name p q (f ∷ fs) of alike =
    let rest : List Fact = filter (concerns client) fs in
    elim (concerns client f) as (λ b. concerns client f ≡ b → owed_of name p (f ∷ fs) ≡ owed_of name q (if b then f ∷ rest else rest)) [
      | true ↦ λ is. let next : AreAlike client (parts_after p f) (parts_after q f) = alike_both client p q f is alike in
          ap (λ l. filter (survives name (parts_after p f) fs) l ++ owed_of name (parts_after p f) fs) (made_alike client name p q f of alike)
          ∙ ap (λ l. l ++ owed_of name (parts_after p f) fs) (filter_same (survives name (parts_after p f) fs) (survives name (parts_after q f) rest)
          (λ t. survives_alike client name (parts_after p f) (parts_after q f) fs t of next) (filter (is_of name) (made_by q f)))
          ∙ ap (λ l. filter (survives name (parts_after q f) rest) (filter (is_of name) (made_by q f)) ++ l)
          (owed_alike client name (parts_after p f) (parts_after q f) fs of next)
      | false ↦ λ other. ap (λ l. filter (survives name (parts_after p f) fs) l ++ owed_of name (parts_after p f) fs) (none_made client name p f of other)
          ∙ owed_alike client name (parts_after p f) q fs of (alike_first client p q f other alike)
    ] refl

-- ---- a client's part

same_map : (f g : List ℕ → List Made) (ss : List Stream) → ((name : List ℕ) → stands name ss ≡ true → f name ≡ g name)
    → map (λ (s : Stream). f s.conf.stream) ss ≡ map (λ (s : Stream). g s.conf.stream) ss
same_map f g [] same = refl
same_map f g (s ∷ ss) same =
    ap (λ x. x ∷ map (λ (s : Stream). f s.conf.stream) ss) (same s.conf.stream (or_left (is_named s.conf.stream s) (stands s.conf.stream ss) (text_itself s.conf.stream s.conf.stream refl)))
    ∙ ap (λ l. g s.conf.stream ∷ l) (same_map f g ss (λ name here. same name (or_right (is_named name s) (stands name ss) here)))

-- what a stream owes that stands in the end
owed_end : (store : List ℕ) (facts : List Fact) (client name : List ℕ) → client_in name ≡ client
    → stands name (own client (parts_of (empty_sum store).parts facts).streams) ≡ true
    → owed_by (sum_of (empty_sum store) facts) name ≡ owed_of name (empty_sum store).parts facts
owed_end store facts client name of here =
    let streams : List Stream = (parts_of (empty_sum store).parts facts).streams in
    found (owed_after (empty_sum store) facts) name streams (stands_own client name streams of ∙ here)

pub parts_isolated : PartsAreIsolated
parts_isolated store client facts =
    let base : Parts = (empty_sum store).parts in
    let others : List Fact = filter (concerns client) facts in
    let start : AreAlike client base base = record { store = refl; streams = refl; created = refl; first = tt; second = tt } in
    let alike : AreAlike client (parts_of base facts) (parts_of base others) = parts_alike client base base facts start in
    let a : Sum = sum_of (empty_sum store) facts in
    let b : Sum = sum_of (empty_sum store) others in
    let owed : (name : List ℕ) → stands name (own client a.parts.streams) ≡ true → owed_by a name ≡ owed_by b name = λ name here.
    let of : client_in name ≡ client = name_of_own client name a.parts.streams here in
    owed_end store facts client name of here ∙ owed_alike client name base base facts of start
    ∙ sym (owed_end store others client name of (subst (λ l. stands name l ≡ true) alike.streams here)) in
    let part : List ℕ → List Stream → List (List Made) → ℕ → Part = λ sid ss os n. record { store_id = sid; streams = ss; owed = os; created = n } in
    let owes : Sum → List Stream → List (List Made) = λ sum ss. map (λ (s : Stream). owed_by sum s.conf.stream) ss in
    ap (λ sid. part sid (own client a.parts.streams) (owes a (own client a.parts.streams)) (created_by client a.parts.created)) alike.store
    ∙ ap (λ l. part b.parts.store_id (own client a.parts.streams) l (created_by client a.parts.created)) (same_map (owed_by a) (owed_by b) (own client a.parts.streams) owed)
    ∙ ap (λ l. part b.parts.store_id l (owes b l) (created_by client a.parts.created)) alike.streams
    ∙ ap (part b.parts.store_id (own client b.parts.streams) (owes b (own client b.parts.streams))) alike.created
