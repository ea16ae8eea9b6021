-- What a stream owes after one fact more.
use Rattle.std.proofs.Common.{◌≡◌, ◌∙◌, ap, sym, subst, ℕ, List, [], ◌∷◌, ◌++◌, map, filter, flat_map, Bool, true, false, not, ◌&&◌, Option, Some, None, bytes_eq, if◌then◌else◌, refl, append-nil}
use Rattle.std.specs.Option.{option_map_or}
use Rattle.std.proofs.lemmas.Bool.{and_parts}
use Rattle.std.proofs.lemmas.List.Elements.{filter-append}
use Rattle.sig_event.specs.declared.news.News.{News}
use Rattle.sig_event.specs.declared.status.Status.{Status}
use Rattle.sig_terms.specs.declared.fact.Fact.{Fact}
use Rattle.sig_terms.specs.declared.fact.Fact.TheVariants.{StatusSet, Deleted, Published, Settled, Asked}
use Rattle.sig_history.specs.Streams.{Stream, Parts, Made, is_due, is_named, next_token, stands}
use Rattle.sig_history.specs.Facts.{brought_by, made_by, parts_after, removed_by, stream_after, tells, time_of, token_by, token_for, updated_news, verified_news, without}
use Rattle.sig_history.specs.Owed.{Sum, is_of, names_number, owed_after, owed_by, stream_named, sum_of, takes_off}
use Rattle.sig_history.specs.Sound.{Fits, are_owed, each_once, is_apt, may_be_made}
use Rattle.sig_history.specs.Whole.{IsWhole}
use Rattle.sig_owing.specs.Laws.{AskingAddsAVerification, DeletingLeavesNothing, DisablingLeavesItsOwnNotice, PausingKeepsWhatIsOwed, PublishingAddsWhereDue, SettlingTakesOffTheNamed, notice_for}
use Rattle.sig_history.proofs.JoinLemmas.{filter_none, filter_same, found, none_in}
use Rattle.sig_history.proofs.StreamLemmas.{gone_without, is_taken, same_text, stands_after, stands_placed, stands_without, text_itself}
use Rattle.sig_history.proofs.StepLemmas.{AreDistinct, filter_all, none_for, other_token, owed_step, own_token}
use Rattle.sig_history.proofs.WholeLemmas.{whole_distinct}

-- ---- the tokens that a fact makes for the stream of a name

pub tokens_named : (name sid : List ℕ) (f : Fact) (ss : List Stream) → AreDistinct ss
    → filter (is_of name) (flat_map (token_for sid f) ss) ≡ option_map_or (token_for sid f) (stream_named name ss) []
tokens_named name sid f [] distinct = refl
tokens_named name sid f (s ∷ ss) distinct =
    let own : List Made = token_for sid f s in
    let rest : List Made = flat_map (token_for sid f) ss in
    filter-append (is_of name) own rest
    ∙ (elim (is_named name s) as (λ b. is_named name s ≡ b → filter (is_of name) own ++ filter (is_of name) rest
    ≡ option_map_or (token_for sid f) (if b then Some s else stream_named name ss) []) [
      | true ↦ λ is. let same : s.conf.stream ≡ name = same_text s.conf.stream name is in
          ap (λ l. l ++ filter (is_of name) rest)
          (subst (λ n. filter (is_of n) own ≡ own) same (own_token sid (time_of f) s (tells f s)))
          ∙ ap (λ l. own ++ l) (none_for name sid f ss (subst (λ n. stands n ss ≡ false) same distinct.0))
          ∙ append-nil own
      | false ↦ λ other. ap (λ l. l ++ filter (is_of name) rest) (other_token name sid (time_of f) s (tells f s) other)
          ∙ tokens_named name sid f ss distinct.1
    ] refl)

-- what a stream that stands, and isn't taken away, owes after one fact more
pub owed_one_more : (sum : Sum) (f : Fact) (name : List ℕ) → IsWhole sum → stands name sum.parts.streams ≡ true
    → is_taken (removed_by f) name ≡ false
    → owed_by (sum_of sum (f ∷ [])) name
    ≡ filter (λ (t : Made). not (takes_off name f t)) (owed_by sum name)
    ++ option_map_or (token_for sum.parts.store_id f) (stream_named name sum.parts.streams) []
owed_one_more sum f name whole here stays =
    let p : Parts = sum.parts in
    let changed : List Stream = map (stream_after f) p.streams in
    let after : stands name (parts_after p f).streams ≡ true =
    stands_placed name (brought_by p f) (without (removed_by f) changed)
    (stands_without name (removed_by f) changed stays ∙ stands_after name f p.streams ∙ here) in
    found (owed_after sum (f ∷ [])) name (parts_after p f).streams after
    ∙ owed_step sum f name here after
    ∙ ap (λ l. filter (λ (t : Made). not (takes_off name f t)) (owed_by sum name) ++ l)
    (tokens_named name p.store_id f p.streams (whole_distinct p.store_id p.created p.streams sum.owed whole))

-- the same where the fact takes nothing off
owed_and_more : (sum : Sum) (f : Fact) (name : List ℕ) (tokens : List Made) → IsWhole sum → stands name sum.parts.streams ≡ true
    → is_taken (removed_by f) name ≡ false → ((t : Made) → takes_off name f t ≡ false)
    → option_map_or (token_for sum.parts.store_id f) (stream_named name sum.parts.streams) [] ≡ tokens
    → owed_by (sum_of sum (f ∷ [])) name ≡ owed_by sum name ++ tokens
owed_and_more sum f name tokens whole here stays keeps told =
    owed_one_more sum f name whole here stays
    ∙ ap (λ l. l ++ option_map_or (token_for sum.parts.store_id f) (stream_named name sum.parts.streams) [])
    (filter_all (λ (t : Made). not (takes_off name f t)) (λ (t : Made). ap (λ b. not b) (keeps t)) (owed_by sum name))
    ∙ ap (λ l. owed_by sum name ++ l) told

names_stream : (sum : Sum) (f : Fact) (name : List ℕ) → is_apt sum f ≡ stands name sum.parts.streams → Fits sum f → stands name sum.parts.streams ≡ true
names_stream sum f name is fits = sym is ∙ (and_parts (may_be_made (made_by sum.parts f)) (is_apt sum f) fits).1

-- ---- what is found of the stream of a name

-- what is the same of every stream of the name
named_alike : (f g : Stream → List Made) (name : List ℕ) → ((s : Stream) → is_named name s ≡ true → f s ≡ g s) → (ss : List Stream)
    → option_map_or f (stream_named name ss) [] ≡ option_map_or g (stream_named name ss) []
named_alike f g name same [] = refl
named_alike f g name same (s ∷ ss) =
    elim (is_named name s) as (λ b. is_named name s ≡ b
    → option_map_or f (if b then Some s else stream_named name ss) [] ≡ option_map_or g (if b then Some s else stream_named name ss) []) [
      | true ↦ λ is. same s is
      | false ↦ λ other. named_alike f g name same ss
    ] refl

none_or : (f : Stream → List Made) → ((s : Stream) → f s ≡ []) → (o : Option Stream) → option_map_or f o [] ≡ []
none_or f none None = refl
none_or f none (Some s) = none s

-- ---- publications

due_token : (sid : List ℕ) (time : ℕ) (s : Stream) (n : News) (due : Bool)
    → token_by sid time s (if due then Some n else None) ≡ (if due then next_token sid n time s ∷ [] else [])
due_token sid time s n true = refl
due_token sid time s n false = refl

due_named : (sid id : List ℕ) (n : News) (time : ℕ) (o : Option Stream)
    → option_map_or (token_for sid (Published id n time)) o []
    ≡ (if option_map_or (is_due n) o false then option_map_or (λ (s : Stream). next_token sid n time s ∷ []) o [] else [])
due_named sid id n time None = refl
due_named sid id n time (Some s) = due_token sid time s n (is_due n s)

pub publishing_adds : PublishingAddsWhereDue
publishing_adds sum id news time stream whole here =
    owed_and_more sum (Published id news time) stream _ whole here refl (λ t. refl)
    (due_named sum.parts.store_id id news time (stream_named stream sum.parts.streams))

-- ---- verifications

pub asking_adds : AskingAddsAVerification
asking_adds sum stream state time whole fits =
    let sid : List ℕ = sum.parts.store_id in
    let f : Fact = Asked stream state time in
    let news : News = verified_news stream state in
    owed_and_more sum f stream _ whole (names_stream sum f stream refl fits) refl (λ t. refl)
    (named_alike (token_for sid f) (λ (s : Stream). next_token sid news time s ∷ []) stream
    (λ s is. ap (λ b. token_by sid time s (if b then Some news else None)) is) sum.parts.streams)

-- ---- tokens that are settled

pub settling_takes : SettlingTakesOffTheNamed
settling_takes sum stream items whole fits =
    let f : Fact = Settled stream items in
    let tokens : List Made = owed_by sum stream in
    let apt = and_parts (may_be_made (made_by sum.parts f)) (is_apt sum f) fits in
    let here : stands stream sum.parts.streams ≡ true =
    (and_parts (stands stream sum.parts.streams) (are_owed items tokens)
    (and_parts (stands stream sum.parts.streams && are_owed items tokens) (each_once items) apt.1).0).0 in
    owed_one_more sum f stream whole here refl
    ∙ ap (λ l. filter (λ (t : Made). not (takes_off stream f t)) tokens ++ l)
    (none_or (token_for sum.parts.store_id f) (λ s. refl) (stream_named stream sum.parts.streams))
    ∙ append-nil (filter (λ (t : Made). not (takes_off stream f t)) tokens)
    ∙ filter_same (λ (t : Made). not (takes_off stream f t)) (λ (t : Made). not (names_number t.number items))
    (λ t. ap (λ b. not (b && names_number t.number items)) (text_itself stream stream refl)) tokens

-- ---- a status that is set

named_notice : (sum : Sum) (stream : List ℕ) (status : Status) (reason : Option (List ℕ)) (operator : Bool) (time : ℕ)
    → option_map_or (token_for sum.parts.store_id (StatusSet stream status reason operator time)) (stream_named stream sum.parts.streams) []
    ≡ notice_for sum stream status reason operator time
named_notice sum stream status reason true time =
    let sid : List ℕ = sum.parts.store_id in
    let news : News = updated_news stream status reason in
    named_alike (token_for sid (StatusSet stream status reason true time)) (λ (s : Stream). next_token sid news time s ∷ []) stream
    (λ s is. ap (λ b. token_by sid time s (if b then Some news else None)) is) sum.parts.streams
named_notice sum stream status reason false time =
    none_or (token_for sum.parts.store_id (StatusSet stream status reason false time)) (λ s. refl) (stream_named stream sum.parts.streams)

and_false : (b : Bool) → (b && false) ≡ false
and_false true = refl
and_false false = refl

pub pausing_keeps : PausingKeepsWhatIsOwed
pausing_keeps sum stream status reason operator time whole fits stays =
    let f : Fact = StatusSet stream status reason operator time in
    owed_and_more sum f stream _ whole (names_stream sum f stream refl fits) refl
    (λ t. ap (λ d. bytes_eq stream stream && d) stays ∙ and_false (bytes_eq stream stream))
    (named_notice sum stream status reason operator time)

pub disabling_leaves : DisablingLeavesItsOwnNotice
disabling_leaves sum stream status reason operator time whole fits ends =
    let f : Fact = StatusSet stream status reason operator time in
    owed_one_more sum f stream whole (names_stream sum f stream refl fits) refl
    ∙ ap (λ l. l ++ option_map_or (token_for sum.parts.store_id f) (stream_named stream sum.parts.streams) [])
    (filter_none (λ (t : Made). not (takes_off stream f t))
    (λ t. ap (λ d. not (bytes_eq stream stream && d)) ends ∙ ap (λ b. not (b && true)) (text_itself stream stream refl)) (owed_by sum stream))
    ∙ named_notice sum stream status reason operator time

-- ---- a stream that is deleted

pub deleting_leaves : DeletingLeavesNothing
deleting_leaves sum stream =
    let f : Fact = Deleted stream in
    let absent : stands stream (parts_after sum.parts f).streams ≡ false = gone_without stream (map (stream_after f) sum.parts.streams) in
    (absent, none_in stream (parts_after sum.parts f).streams (owed_after sum (f ∷ [])) absent)
