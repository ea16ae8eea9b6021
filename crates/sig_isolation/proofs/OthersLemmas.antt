-- A fact that doesn't concern a client tells its streams nothing, changes nothing of them, and takes none of them away.
use Rattle.std.proofs.Common.{◌≡◌, ◌∙◌, ap, sym, ℕ, List, [], ◌∷◌, ◌++◌, map, filter, flat_map, Bool, true, false, not, ◌&&◌, ◌||◌, bytes_eq, Option, Some, None, if◌then◌else◌, refl, inl, inr, true≢false}
use Rattle.std.proofs.lemmas.Bool.{false_from_ne_true, or_cases}
use Rattle.sig_event.specs.declared.news.News.{News}
use Rattle.sig_terms.specs.declared.fact.Fact.{Fact}
use Rattle.sig_terms.specs.declared.fact.Fact.TheVariants.{Configured, StatusSet, Listed, Unlisted, Deleted, Published, Settled, Asked}
use Rattle.sig_history.specs.Streams.{Stream, Made, client_in, is_disabled, is_named, list_added, list_removed, stands, with_asked, with_conf, with_listed, with_status}
use Rattle.sig_history.specs.Facts.{changed_by, configured, of_named, removed_by, stream_after, tells, told_one, updated_news, verified_news, without}
use Rattle.sig_history.specs.Owed.{names_number, stream_named, takes_off}
use Rattle.sig_isolation.specs.Isolation.{concerns, is_of_client}
use Rattle.sig_history.proofs.JoinLemmas.{filter_join, filter_same}
use Rattle.sig_history.proofs.StreamLemmas.{same_text, text_itself}
use Rattle.sig_isolation.proofs.OrderLemmas.{own}

-- ---- names

-- a name of another client is none of a client's names
pub other_name : (client name other : List ℕ) → client_in name ≡ client → bytes_eq (client_in other) client ≡ false → bytes_eq other name ≡ false
other_name client name other of apart = false_from_ne_true (bytes_eq other name) (λ is.
    true≢false (sym (text_itself (client_in other) client (ap client_in (same_text other name is) ∙ of)) ∙ apart))

-- and none of its streams has it
not_ours : (client other : List ℕ) (s : Stream) → bytes_eq (client_in other) client ≡ false → is_of_client client s ≡ true → is_named other s ≡ false
not_ours client other s apart is = false_from_ne_true (is_named other s) (λ named.
    true≢false (sym (text_itself (client_in other) client (sym (ap client_in (same_text s.conf.stream other named)) ∙ same_text (client_in s.conf.stream) client is)) ∙ apart))

-- a stream of another client has no such name
pub not_named : (client name : List ℕ) (s : Stream) → client_in name ≡ client → is_of_client client s ≡ false → is_named name s ≡ false
not_named client name s of other = false_from_ne_true (is_named name s) (λ is.
    true≢false (sym (text_itself (client_in s.conf.stream) client (ap client_in (same_text s.conf.stream name is) ∙ of)) ∙ other))

pub stands_own : (client name : List ℕ) (ss : List Stream) → client_in name ≡ client → stands name ss ≡ stands name (own client ss)
stands_own client name [] of = refl
stands_own client name (s ∷ ss) of =
    elim (is_of_client client s) as (λ b. is_of_client client s ≡ b → (is_named name s || stands name ss) ≡ stands name (if b then s ∷ own client ss else own client ss)) [
      | true ↦ λ is. ap (λ b. is_named name s || b) (stands_own client name ss of)
      | false ↦ λ other. ap (λ b. b || stands name ss) (not_named client name s of other) ∙ stands_own client name ss of
    ] refl

-- a name that stands among a client's streams is of that client
pub name_of_own : (client name : List ℕ) (ss : List Stream) → stands name (own client ss) ≡ true → client_in name ≡ client
name_of_own client name [] here = cc here
name_of_own client name (s ∷ ss) here =
    elim (is_of_client client s) as (λ b. is_of_client client s ≡ b → stands name (if b then s ∷ own client ss else own client ss) ≡ true → client_in name ≡ client) [
      | true ↦ λ is some. elim (or_cases (is_named name s) (stands name (own client ss)) some) [
        | inl this ↦ ap client_in (sym (same_text s.conf.stream name this)) ∙ same_text (client_in s.conf.stream) client is
        | inr later ↦ name_of_own client name ss later
      ]
      | false ↦ λ other later. name_of_own client name ss later
    ] refl here

-- what is found of the client by such a name is found among its streams
pub named_own : (client name : List ℕ) (ss : List Stream) → client_in name ≡ client → stream_named name ss ≡ stream_named name (own client ss)
named_own client name [] of = refl
named_own client name (s ∷ ss) of =
    elim (is_of_client client s) as (λ b. is_of_client client s ≡ b
    → (if is_named name s then Some s else stream_named name ss) ≡ stream_named name (if b then s ∷ own client ss else own client ss)) [
      | true ↦ λ is. ap (λ o. if is_named name s then Some s else o) (named_own client name ss of)
      | false ↦ λ other. ap (λ b. if b then Some s else stream_named name ss) (not_named client name s of other) ∙ named_own client name ss of
    ] refl

-- ---- a stream of the client

named_left : (client other : List ℕ) (change : Stream → Stream) (s : Stream) → is_of_client client s ≡ true → bytes_eq (client_in other) client ≡ false
    → of_named other change s ≡ s
named_left client other change s is apart = ap (λ b. if b then change s else s) (not_ours client other s apart is)

changed_left : (client : List ℕ) (f : Fact) (s : Stream) → is_of_client client s ≡ true → concerns client f ≡ false → changed_by f s ≡ s
changed_left client (Configured stream requested delivery description) s is apart =
    named_left client stream (λ (t : Stream). with_conf (configured requested delivery description t.conf) t) s is apart
changed_left client (StatusSet stream status reason operator time) s is apart = named_left client stream (with_status status reason) s is apart
changed_left client (Listed stream subject) s is apart = named_left client stream (λ (t : Stream). with_listed (list_added subject t.listed) t) s is apart
changed_left client (Unlisted stream subject) s is apart = named_left client stream (λ (t : Stream). with_listed (list_removed subject t.listed) t) s is apart
changed_left client (Asked stream state time) s is apart = named_left client stream (with_asked time) s is apart
changed_left client f s is apart = refl

none_said : (operator : Bool) (n : News) → (if operator && false then Some n else None) ≡ None
none_said true n = refl
none_said false n = refl

pub tells_left : (client : List ℕ) (f : Fact) (s : Stream) → is_of_client client s ≡ true → concerns client f ≡ false → tells f s ≡ None
tells_left client (StatusSet stream status reason operator time) s is apart =
    ap (λ b. if operator && b then Some (updated_news stream status reason) else None) (not_ours client stream s apart is)
    ∙ none_said operator (updated_news stream status reason)
tells_left client (Asked stream state time) s is apart =
    ap (λ b. if b then Some (verified_news stream state) else None) (not_ours client stream s apart is)
tells_left client (Published id news time) s is apart = cc apart
tells_left client f s is apart = refl

stream_left : (client : List ℕ) (f : Fact) (s : Stream) → is_of_client client s ≡ true → concerns client f ≡ false → stream_after f s ≡ s
stream_left client f s is apart = ap (λ o. told_one o (changed_by f s)) (tells_left client f s is apart) ∙ changed_left client f s is apart

-- ---- all streams of the client

pub none_own : (client : List ℕ) (g : Stream → List Made) → ((s : Stream) → is_of_client client s ≡ true → g s ≡ []) → (ss : List Stream)
    → flat_map g (own client ss) ≡ []
none_own client g none [] = refl
none_own client g none (s ∷ ss) =
    elim (is_of_client client s) as (λ b. is_of_client client s ≡ b → flat_map g (if b then s ∷ own client ss else own client ss) ≡ []) [
      | true ↦ λ is. ap (λ l. l ++ flat_map g (own client ss)) (none s is) ∙ none_own client g none ss
      | false ↦ λ other. none_own client g none ss
    ] refl

map_own : (client : List ℕ) (g : Stream → Stream) → ((s : Stream) → is_of_client client s ≡ true → g s ≡ s) → (ss : List Stream)
    → map g (own client ss) ≡ own client ss
map_own client g same [] = refl
map_own client g same (s ∷ ss) =
    elim (is_of_client client s) as (λ b. is_of_client client s ≡ b
    → map g (if b then s ∷ own client ss else own client ss) ≡ (if b then s ∷ own client ss else own client ss)) [
      | true ↦ λ is. ap (λ t. t ∷ map g (own client ss)) (same s is) ∙ ap (λ l. s ∷ l) (map_own client g same ss)
      | false ↦ λ other. map_own client g same ss
    ] refl

filter_own : (client : List ℕ) (p : Stream → Bool) → ((s : Stream) → is_of_client client s ≡ true → p s ≡ true) → (ss : List Stream)
    → filter p (own client ss) ≡ own client ss
filter_own client p passes [] = refl
filter_own client p passes (s ∷ ss) =
    elim (is_of_client client s) as (λ b. is_of_client client s ≡ b
    → filter p (if b then s ∷ own client ss else own client ss) ≡ (if b then s ∷ own client ss else own client ss)) [
      | true ↦ λ is. ap (λ b. if b then s ∷ filter p (own client ss) else filter p (own client ss)) (passes s is)
          ∙ ap (λ l. s ∷ l) (filter_own client p passes ss)
      | false ↦ λ other. filter_own client p passes ss
    ] refl

pub streams_left : (client : List ℕ) (f : Fact) (ss : List Stream) → concerns client f ≡ false → map (stream_after f) (own client ss) ≡ own client ss
streams_left client f ss apart = map_own client (stream_after f) (λ s is. stream_left client f s is apart) ss

pub without_left : (client : List ℕ) (f : Fact) (ss : List Stream) → concerns client f ≡ false → without (removed_by f) (own client ss) ≡ own client ss
without_left client (Deleted stream) ss apart =
    filter_own client (λ (s : Stream). not (is_named stream s)) (λ s is. ap not (not_ours client stream s apart is)) ss
without_left client f ss apart = refl

-- what is taken away of a client's streams, as of all
pub own_without : (client : List ℕ) (o : Option (List ℕ)) (ss : List Stream) → own client (without o ss) ≡ without o (own client ss)
own_without client None ss = refl
own_without client (Some name) ss =
    let kept : Stream → Bool = λ (s : Stream). not (is_named name s) in
    sym (filter_join kept (is_of_client client) ss)
    ∙ filter_same (λ (s : Stream). kept s && is_of_client client s) (λ (s : Stream). is_of_client client s && kept s)
    (λ s. and_swap (kept s) (is_of_client client s)) ss
    ∙ filter_join (is_of_client client) kept ss
  where
    and_swap : (a b : Bool) → (a && b) ≡ (b && a)
    and_swap true true = refl
    and_swap true false = refl
    and_swap false true = refl
    and_swap false false = refl

-- ---- what it owes

pub takes_none : (client name : List ℕ) (f : Fact) (t : Made) → client_in name ≡ client → concerns client f ≡ false → takes_off name f t ≡ false
takes_none client name (StatusSet stream status reason operator time) t of apart = ap (λ b. b && is_disabled status) (other_name client name stream of apart)
takes_none client name (Deleted stream) t of apart = other_name client name stream of apart
takes_none client name (Settled stream items) t of apart = ap (λ b. b && names_number t.number items) (other_name client name stream of apart)
takes_none client name f t of apart = refl
