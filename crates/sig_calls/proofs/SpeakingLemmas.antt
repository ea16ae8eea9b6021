-- What a call is told of a stream is so after it.
use Rattle.std.proofs.Common.{◌≡◌, ◌∙◌, ap, sym, subst, ℕ, ◌+◌, List, [], ◌∷◌, map, Bool, true, false, ◌&&◌, Option, Some, None, IfSome, bytes_eq, if◌then◌else◌, refl}
use Rattle.std.specs.Prelude.{nat_le, nat_lt, unwrap_or}
use Rattle.std.specs.Option.{option_or}
use Rattle.std.proofs.lemmas.Bool.{or_parts}
use Rattle.sig_json.specs.declared.limits.TheConstants.{STREAMS_PER_CLIENT}
use Rattle.sig_event.specs.News.{is_same_news}
use Rattle.sig_event.specs.declared.news.News.{News}
use Rattle.sig_event.specs.declared.status.Status.{Status}
use Rattle.sig_terms.specs.Deliveries.{is_push}
use Rattle.sig_terms.specs.declared.answer.Answer.{Answer}
use Rattle.sig_terms.specs.declared.answer.Answer.TheVariants as answer
use Rattle.sig_terms.specs.declared.call.Call.TheVariants.{Metadata, Create, ReadAll, Read, Patch, Put, Delete, GetStatus, SetStatus, Add, Remove, Verify, Poll, Publish, OperatorStatus, OperatorDelete, Streams, Refused, Figures, Deliver, Hand, Settle}
use Rattle.sig_terms.specs.declared.configuration.StreamConf.{StreamConf}
use Rattle.sig_terms.specs.declared.fact.Fact.{Fact}
use Rattle.sig_terms.specs.declared.fact.Fact.TheVariants as fact
use Rattle.sig_terms.specs.declared.rules.Client.{Client}
use Rattle.sig_terms.specs.declared.rules.Rules.{Rules}
use Rattle.sig_terms.specs.declared.want.Delivery.{Delivery}
use Rattle.sig_terms.specs.declared.want.Delivery.TheVariants as delivery
use Rattle.sig_terms.specs.declared.want.Want.{Want}
use Rattle.sig_history.specs.Facts.{brought_by, configured, made_by, stream_after}
use Rattle.sig_history.specs.Owed.{Sum, stream_named, sum_of}
use Rattle.sig_history.specs.Sound.{Fits, is_long, largest}
use Rattle.sig_history.specs.Streams.{Publication, Stream, is_before, is_disabled, is_named, publication_of, put_in_order, stands, streams_of}
use Rattle.sig_history.specs.Whole.{IsWhole}
use Rattle.sig_history.proofs.ChangeLemmas.{named_is, status_is_set, configuring_conf}
use Rattle.sig_history.proofs.StepLemmas.{AreDistinct}
use Rattle.sig_history.proofs.StreamLemmas.{same_text, stands_after, text_itself}
use Rattle.sig_history.proofs.WholeLemmas.{fits_brings, whole_distinct, whole_fresh}
use Rattle.sig_calls.specs.Configuring.{configured_change, patched, reconfigured, replaced}
use Rattle.sig_calls.specs.Creating.{client_of, created_for, next_conf, next_stream}
use Rattle.sig_calls.specs.Equality.{same_settings, status_eq}
use Rattle.sig_calls.specs.Found.{client_stream, told_by}
use Rattle.sig_calls.specs.Polling.{polled}
use Rattle.sig_calls.specs.Publishing.{published_after}
use Rattle.sig_calls.specs.Regular.{IsRegular}
use Rattle.sig_calls.specs.Speaking.{AnswersAreTrue, HasConf, HasState, IsTrueOf, IsTrueTold}
use Rattle.sig_calls.specs.Statuses.{operated, status_set}
use Rattle.sig_calls.specs.Table.{told_of}
use Rattle.sig_calls.specs.Told.{Told, making, only, with_change}
use Rattle.sig_calls.specs.Verifying.{asked_after, asked_of, next_time}
use Rattle.sig_calls.proofs.EqualityLemmas.{settings_same}
use Rattle.sig_calls.proofs.RegularLemmas.{calls_regular}

-- ---- shapes of what is told

either_true : (sum : Sum) (b : Bool) (t u : Told) → (b ≡ true → IsTrueTold sum t) → (b ≡ false → IsTrueTold sum u) → IsTrueTold sum (if b then t else u)
either_true sum true t u one two = one refl
either_true sum false t u one two = two refl

found_true : (sum : Sum) (tell : Stream → Told) (o : Option Stream) → ((s : Stream) → o ≡ Some s → IsTrueTold sum (tell s)) → IsTrueTold sum (told_by tell o)
found_true sum tell None each = λ low. tt
found_true sum tell (Some s) each = each s refl

making_true : (sum : Sum) (a : Answer) (f : Fact) → IsTrueOf (sum_of sum (f ∷ [])) a → IsTrueTold sum (making sum.parts a f)
making_true sum a f h =
    either_true sum (is_long (made_by sum.parts f)) (only (answer.Long (largest (made_by sum.parts f)))) _ (λ long low. tt) (λ short low. h)

-- ---- the stream that is found

-- a client's stream of a name is the stream of the name
client_named : (client name : List ℕ) (ss : List Stream) (s : Stream) → AreDistinct ss → client_stream client name ss ≡ Some s → stream_named name ss ≡ Some s
client_named client name [] s distinct is = cc is
client_named client name (t ∷ ts) s distinct is =
    elim (is_named name t) as (λ b. is_named name t ≡ b → (if bytes_eq t.client client && b then Some t else client_stream client name ts) ≡ Some s
    → (if b then Some t else stream_named name ts) ≡ Some s) [
      | true ↦ λ named found. by (bytes_eq t.client client) named found
      | false ↦ λ other found. client_named client name ts s distinct.1 (later (bytes_eq t.client client) found)
    ] refl is
  where
    later : (b : Bool) → (if b && false then Some t else client_stream client name ts) ≡ Some s → client_stream client name ts ≡ Some s
    later true h = h
    later false h = h

    absent : (us : List Stream) → stands name us ≡ false → client_stream client name us ≡ None
    absent [] h = refl
    absent (u ∷ us) h =
        let parts = or_parts (is_named name u) (stands name us) h in
        ap (λ b. if bytes_eq u.client client && b then Some u else client_stream client name us) parts.0
        ∙ none (bytes_eq u.client client) (absent us parts.1)
      where
        none : (b : Bool) → client_stream client name us ≡ None → (if b && false then Some u else client_stream client name us) ≡ None
        none true h = h
        none false h = h

    by : (b : Bool) → is_named name t ≡ true → (if b && true then Some t else client_stream client name ts) ≡ Some s → Some t ≡ Some s
    by true named h = h
    by false named h =
        let gone : client_stream client name ts ≡ None =
        absent ts (subst (λ n. stands n ts ≡ false) (same_text t.conf.stream name named) distinct.0) in
        cc (sym gone ∙ h)

whole_named : (sum : Sum) (client name : List ℕ) (s : Stream) → IsWhole sum → client_stream client name sum.parts.streams ≡ Some s
    → stream_named name sum.parts.streams ≡ Some s
whole_named sum client name s whole is =
    client_named client name sum.parts.streams s (whole_distinct sum.parts.store_id sum.parts.created sum.parts.streams sum.owed whole) is

-- a stream that stands has its configuration under its own name
conf_stands : (sum : Sum) (name : List ℕ) (s : Stream) (conf : StreamConf) → stream_named name sum.parts.streams ≡ Some s → s.conf ≡ conf → HasConf sum conf
conf_stands sum name s conf is same =
    let own : s.conf.stream ≡ name = same_text s.conf.stream name (named_is name sum.parts.streams s is) in
    (s, ap (λ n. stream_named n sum.parts.streams) (ap (λ (c : StreamConf). c.stream) (sym same) ∙ own) ∙ is, same)

-- ---- streams that are made

named_new : (n : Stream) (ss : List Stream) → stands n.conf.stream ss ≡ false → stream_named n.conf.stream (put_in_order n ss) ≡ Some n
named_new n [] fresh = ap (λ b. if b then Some n else None) (text_itself n.conf.stream n.conf.stream refl)
named_new n (s ∷ ss) fresh =
    let parts = or_parts (is_named n.conf.stream s) (stands n.conf.stream ss) fresh in
    elim (is_before s n) as (λ b. stream_named n.conf.stream (if b then s ∷ put_in_order n ss else n ∷ s ∷ ss) ≡ Some n) [
      | true ↦ ap (λ b. if b then Some s else stream_named n.conf.stream (put_in_order n ss)) parts.0 ∙ named_new n ss parts.1
      | false ↦ ap (λ b. if b then Some n else stream_named n.conf.stream (s ∷ ss)) (text_itself n.conf.stream n.conf.stream refl)
    ]

created_true : (sum : Sum) (conf : StreamConf) (now : ℕ) → IsWhole sum → Fits sum (fact.Created conf now)
    → HasConf (sum_of sum (fact.Created conf now ∷ [])) conf
created_true sum conf now whole fits =
    let f : Fact = fact.Created conf now in
    let fresh : stands conf.stream sum.parts.streams ≡ false =
    whole_fresh sum.parts.store_id sum.parts.created (brought_by sum.parts f) sum.parts.streams sum.owed (fits_brings sum f fits) whole in
    (_, named_new _ (map (stream_after f) sum.parts.streams) (stands_after conf.stream f sum.parts.streams ∙ fresh), refl)

creating_true : (rules : Rules) (sum : Sum) (want : Want) (now : ℕ) (o : Option Client) → IsWhole sum
    → ((created_for rules sum.parts want now o).over ≡ false → IfSome (created_for rules sum.parts want now o).change (Fits sum))
    → IsTrueTold sum (created_for rules sum.parts want now o)
creating_true rules sum want now None whole fits = λ low. tt
creating_true rules sum want now (Some c) whole fits = by (nat_le STREAMS_PER_CLIENT (streams_of c.name sum.parts.streams)) fits
  where
    by : (b : Bool)
        → ((if b then only answer.TooMany else next_stream rules sum.parts c want now).over ≡ false
        → IfSome (if b then only answer.TooMany else next_stream rules sum.parts c want now).change (Fits sum))
        → IsTrueTold sum (if b then only answer.TooMany else next_stream rules sum.parts c want now)
    by true h = λ low. tt
    by false h = λ low. created_true sum (next_conf rules sum.parts c want) now whole (h low)

-- ---- configurations

configured_true : (sum : Sum) (stream : List ℕ) (s : Stream) (requested : Option (List (List ℕ))) (d : Delivery) (description : Option (List ℕ))
    → stream_named stream sum.parts.streams ≡ Some s
    → IsTrueTold sum (with_change (answer.Conf (configured requested d description s.conf)) (configured_change stream s.conf (configured requested d description s.conf)))
configured_true sum stream s requested d description is = by (same_settings s.conf new) refl
  where
    new : StreamConf
    new = configured requested d description s.conf

    by : (b : Bool) → same_settings s.conf new ≡ b
        → IsTrueTold sum (with_change (answer.Conf new) (if b then None else Some (fact.Configured stream requested d description)))
    by true same low = conf_stands (sum_of sum []) stream s new is (settings_same requested d description s.conf same)
    by false other low =
        let (t, found, conf) = configuring_conf stream requested d description sum s is in
        conf_stands (sum_of sum (fact.Configured stream requested d description ∷ [])) stream t new found conf

-- ---- statuses

state_true : (sum : Sum) (stream : List ℕ) (s : Stream) → stream_named stream sum.parts.streams ≡ Some s → HasState (sum_of sum []) stream s.status s.reason
state_true sum stream s is = (s, is, refl, refl)

set_true : (sum : Sum) (stream : List ℕ) (s : Stream) (status : Status) (reason : Option (List ℕ)) (operator : Bool) (now : ℕ)
    → stream_named stream sum.parts.streams ≡ Some s → HasState (sum_of sum (fact.StatusSet stream status reason operator now ∷ [])) stream status reason
set_true sum stream s status reason operator now is =
    let (t, found, has) = status_is_set stream status reason operator now sum s is in (t, found, has.status, has.reason)

-- ---- calls

verified_true : (sum : Sum) (stream : List ℕ) (state : Option (List ℕ)) (now : ℕ) (s : Stream) (o : Option ℕ)
    → IsTrueTold sum (asked_after sum.parts stream state now s o)
verified_true sum stream state now s None = making_true sum (answer.Asked stream (s.made + 1)) (fact.Asked stream state now) tt
verified_true sum stream state now s (Some asked) =
    either_true sum (nat_lt now (next_time asked s.conf.interval)) _ _ (λ early low. tt)
    (λ late. making_true sum (answer.Asked stream (s.made + 1)) (fact.Asked stream state now) tt)

published_true : (sum : Sum) (id : List ℕ) (n : News) (now : ℕ) (o : Option Publication) → IsTrueTold sum (published_after sum.parts id n now o)
published_true sum id n now None = making_true sum _ (fact.Published id n now) tt
published_true sum id n now (Some p) =
    either_true sum (is_same_news p.news n) (only (answer.Published sum.parts.store_id p.issued)) (only answer.Conflict) (λ same low. tt) (λ other low. tt)

pub answers_true : AnswersAreTrue
unfolding told_of
answers_true rules sum Metadata now proper called whole = λ low. tt
answers_true rules sum (Create client want) now proper called whole =
    let regular : IsRegular rules sum (Create client want) now (told_of rules sum (Create client want) now) =
    calls_regular rules sum (Create client want) now proper whole in
    creating_true rules sum want now (client_of client rules.clients) whole (λ low. regular.fits called low)
answers_true rules sum (ReadAll client) now proper called whole = λ low. tt
answers_true rules sum (Read client stream) now proper called whole =
    found_true sum _ (client_stream client stream sum.parts.streams)
    (λ s is low. conf_stands (sum_of sum []) stream s s.conf (whole_named sum client stream s whole is) refl)
answers_true rules sum (Patch client stream want) now proper called whole =
    found_true sum (reconfigured stream (patched want)) (client_stream client stream sum.parts.streams)
    (λ s is. configured_true sum stream s (option_or want.requested s.conf.requested) (unwrap_or want.delivery s.conf.delivery)
    (option_or want.description s.conf.description) (whole_named sum client stream s whole is))
answers_true rules sum (Put client stream want) now proper called whole =
    found_true sum (reconfigured stream (replaced want)) (client_stream client stream sum.parts.streams)
    (λ s is. configured_true sum stream s want.requested (unwrap_or want.delivery delivery.Poll) want.description (whole_named sum client stream s whole is))
answers_true rules sum (Delete client stream) now proper called whole =
    found_true sum _ (client_stream client stream sum.parts.streams) (λ s is low. tt)
answers_true rules sum (GetStatus client stream) now proper called whole =
    found_true sum _ (client_stream client stream sum.parts.streams) (λ s is low. state_true sum stream s (whole_named sum client stream s whole is))
answers_true rules sum (SetStatus client stream status reason) now proper called whole =
    found_true sum (status_set stream status reason now) (client_stream client stream sum.parts.streams)
    (λ s is. either_true sum (status_eq s.status status) _ _ (λ same low. state_true sum stream s (whole_named sum client stream s whole is))
    (λ other low. set_true sum stream s status reason false now (whole_named sum client stream s whole is)))
answers_true rules sum (Add client stream subject) now proper called whole =
    found_true sum _ (client_stream client stream sum.parts.streams) (λ s is low. tt)
answers_true rules sum (Remove client stream subject) now proper called whole =
    found_true sum _ (client_stream client stream sum.parts.streams) (λ s is low. tt)
answers_true rules sum (Verify client stream state) now proper called whole =
    found_true sum (asked_of sum.parts stream state now) (client_stream client stream sum.parts.streams)
    (λ s is. either_true sum (is_disabled s.status) _ _ (λ off low. tt) (λ on. verified_true sum stream state now s s.asked))
answers_true rules sum (Poll client stream ask) now proper called whole =
    found_true sum (polled sum stream ask) (client_stream client stream sum.parts.streams)
    (λ s is. either_true sum (is_push s.conf.delivery) _ _ (λ push low. tt) (λ poll low. tt))
answers_true rules sum (Publish id news) now proper called whole = published_true sum id news now (publication_of id sum.parts.published)
answers_true rules sum (OperatorStatus stream status reason) now proper called whole =
    found_true sum (operated sum.parts stream status reason now) (stream_named stream sum.parts.streams)
    (λ s is. either_true sum (status_eq s.status status) _ _ (λ same low. state_true sum stream s is)
    (λ other. making_true sum (answer.State stream status reason (Some (s.made + 1))) (fact.StatusSet stream status reason true now)
    (set_true sum stream s status reason true now is)))
answers_true rules sum (OperatorDelete stream) now proper called whole =
    found_true sum _ (stream_named stream sum.parts.streams) (λ s is low. tt)
answers_true rules sum (Streams from) now proper called whole = λ low. tt
answers_true rules sum (Refused from) now proper called whole = λ low. tt
answers_true rules sum Figures now proper called whole = λ low. tt
answers_true rules sum (Deliver stream) now proper called whole =
    found_true sum _ (stream_named stream sum.parts.streams) (λ s is. either_true sum (is_push s.conf.delivery) _ _ (λ push low. tt) (λ poll low. tt))
answers_true rules sum (Hand streams) now proper called whole = λ low. tt
answers_true rules sum (Settle stream number outcome) now proper called whole = λ low. tt
