-- The fact that a call makes, call by call.
use Rattle.std.proofs.Common.{◌≡◌, subst, ℕ, List, [], ◌∷◌, Bool, true, false, Option, Some, None, IfSome, if◌then◌else◌, refl}
use Rattle.std.specs.Prelude.{nat_le, nat_lt}
use Rattle.std.specs.List.{list_any}
use Rattle.sig_event.specs.News.{is_same_news}
use Rattle.sig_event.specs.declared.news.News.{News}
use Rattle.sig_subject.specs.declared.subject.Subject.{Subject}
use Rattle.sig_json.specs.declared.limits.TheConstants.{STREAMS_PER_CLIENT}
use Rattle.sig_terms.specs.Deliveries.{is_push}
use Rattle.sig_terms.specs.declared.answer.Answer.{Answer}
use Rattle.sig_terms.specs.declared.answer.Answer.TheVariants as answer
use Rattle.sig_terms.specs.declared.call.Call.{Call}
use Rattle.sig_terms.specs.declared.call.Call.TheVariants.{Metadata, Create, ReadAll, Read, Patch, Put, Delete, GetStatus, SetStatus, Add, Remove, Verify, Poll, Publish, OperatorStatus, OperatorDelete, Streams, Refused, Figures, Deliver, Hand, Settle}
use Rattle.sig_terms.specs.declared.configuration.StreamConf.{StreamConf}
use Rattle.sig_terms.specs.declared.fact.Fact.{Fact}
use Rattle.sig_terms.specs.declared.fact.Fact.TheVariants as fact
use Rattle.sig_terms.specs.declared.fact.SettledItem.{SettledItem}
use Rattle.sig_terms.specs.declared.rules.Client.{Client}
use Rattle.sig_terms.specs.declared.rules.Rules.{Rules}
use Rattle.sig_terms.specs.declared.want.Defaults.{Defaults}
use Rattle.sig_terms.specs.declared.want.Defaults.TheVariants as defaults
use Rattle.sig_terms.specs.declared.want.Want.{Want}
use Rattle.sig_history.specs.Changes.{stream_of}
use Rattle.sig_history.specs.Facts.{brought_by, made_by, published_by}
use Rattle.sig_history.specs.Owed.{Sum, owed_by, stream_named}
use Rattle.sig_history.specs.Sound.{is_long, is_past, largest}
use Rattle.sig_history.specs.Streams.{Publication, Stream, is_disabled, publication_of, streams_of}
use Rattle.sig_calls.specs.Configuring.{patched, reconfigured, replaced}
use Rattle.sig_calls.specs.Creating.{client_of, created_for, next_conf, next_stream}
use Rattle.sig_calls.specs.Equality.{same_settings, status_eq}
use Rattle.sig_calls.specs.Found.{client_stream, told_by}
use Rattle.sig_calls.specs.Polling.{polled, polled_answer, polled_change, settled_items}
use Rattle.sig_calls.specs.Publishing.{published_after}
use Rattle.sig_calls.specs.Settling.{settled_fact, settled_one}
use Rattle.sig_calls.specs.Statuses.{operated, state_of, status_set}
use Rattle.sig_calls.specs.Subjects.{added_change, is_listed, listed_change, removed_change, unlisted_change}
use Rattle.sig_calls.specs.Table.{change_of, told_of}
use Rattle.sig_calls.specs.Told.{Told, making, only, with_change}
use Rattle.sig_calls.specs.Verifying.{asked_after, asked_of, next_time}

-- ---- facts

-- it names this stream, brings none, and publishes nothing
pub record IsOn (sum : Sum) (stream : List ℕ) (f : Fact) : Type 0 where
  pub names : stream_of f ≡ Some stream
  pub brings : brought_by sum.parts f ≡ None
  pub silent : published_by sum.parts f ≡ []

-- and the stream is this client's
pub record IsOnOwn (sum : Sum) (client stream : List ℕ) (f : Fact) : Type 0 where
  pub own : Stream
  pub found : client_stream client stream sum.parts.streams ≡ Some own
  pub on : IsOn sum stream f

-- what a call's fact is
abbrev pub FactOf : Rules → Sum → Call → ℕ → Fact → Type 0
FactOf rules sum Metadata now f = ⊥
FactOf rules sum (Create client want) now f =
    (c : Client) × (client_of client rules.clients ≡ Some c) × (fact.Created (next_conf rules sum.parts c want) now ≡ f)
FactOf rules sum (ReadAll client) now f = ⊥
FactOf rules sum (Read client stream) now f = ⊥
FactOf rules sum (Patch client stream want) now f = IsOnOwn sum client stream f
FactOf rules sum (Put client stream want) now f = IsOnOwn sum client stream f
FactOf rules sum (Delete client stream) now f = IsOnOwn sum client stream f
FactOf rules sum (GetStatus client stream) now f = ⊥
FactOf rules sum (SetStatus client stream status reason) now f = IsOnOwn sum client stream f
FactOf rules sum (Add client stream subject) now f = IsOnOwn sum client stream f
FactOf rules sum (Remove client stream subject) now f = IsOnOwn sum client stream f
FactOf rules sum (Verify client stream state) now f = IsOnOwn sum client stream f
FactOf rules sum (Poll client stream ask) now f = IsOnOwn sum client stream f
FactOf rules sum (Publish id news) now f = fact.Published id news now ≡ f
FactOf rules sum (OperatorStatus stream status reason) now f = IsOn sum stream f
FactOf rules sum (OperatorDelete stream) now f = IsOn sum stream f
FactOf rules sum (Streams from) now f = ⊥
FactOf rules sum (Refused from) now f = ⊥
FactOf rules sum Figures now f = ⊥
FactOf rules sum (Deliver stream) now f = ⊥
FactOf rules sum (Hand streams) now f = ⊥
FactOf rules sum (Settle stream number outcome) now f = IsOn sum stream f

-- ---- shapes of what is told

-- its fact, if any
abbrev IfMakes : (Fact → Type 0) → Told → Type 0
IfMakes P t = IfSome t.change P

either_makes : (P : Fact → Type 0) (b : Bool) (t u : Told) → IfMakes P t → IfMakes P u → IfMakes P (if b then t else u)
either_makes P true t u one two = one
either_makes P false t u one two = two

found_makes : (P : Fact → Type 0) (tell : Stream → Told) (o : Option Stream) → ((s : Stream) → o ≡ Some s → IfMakes P (tell s)) → IfMakes P (told_by tell o)
found_makes P tell None each = tt
found_makes P tell (Some s) each = each s refl

making_makes : (P : Fact → Type 0) (sum : Sum) (a : Answer) (f : Fact) → P f → IfMakes P (making sum.parts a f)
making_makes P sum a f holds =
    either_makes P (is_long (made_by sum.parts f)) (only (answer.Long (largest (made_by sum.parts f))))
    (record { answer = a; change = Some f; over = list_any is_past (made_by sum.parts f) }) tt holds

settled_makes : (P : Fact → Type 0) (stream : List ℕ) (items : List SettledItem) → ((more : List SettledItem) → P (fact.Settled stream more))
    → IfSome (settled_fact stream items) P
settled_makes P stream [] each = tt
settled_makes P stream (i ∷ items) each = each (i ∷ items)

-- ---- calls

created_makes : (rules : Rules) (sum : Sum) (client : List ℕ) (want : Want) (now : ℕ) (o : Option Client) → client_of client rules.clients ≡ o
    → IfMakes (FactOf rules sum (Create client want) now) (created_for rules sum.parts want now o)
created_makes rules sum client want now None is = tt
created_makes rules sum client want now (Some c) is =
    either_makes (FactOf rules sum (Create client want) now) (nat_le STREAMS_PER_CLIENT (streams_of c.name sum.parts.streams))
    (only answer.TooMany) (next_stream rules sum.parts c want now) tt (c, is, refl)

reconfigured_makes : (sum : Sum) (client stream : List ℕ) (anew : StreamConf → StreamConf) (s : Stream)
    → client_stream client stream sum.parts.streams ≡ Some s → IfMakes (IsOnOwn sum client stream) (reconfigured stream anew s)
reconfigured_makes sum client stream anew s is =
    elim (same_settings s.conf (anew s.conf)) as (λ b. IfSome (if b then None else Some (fact.Configured stream (anew s.conf).requested (anew s.conf).delivery (anew s.conf).description))
    (IsOnOwn sum client stream)) [
      | true ↦ tt
      | false ↦ record { own = s; found = is; on = record { names = refl; brings = refl; silent = refl } }
    ]

listed_makes : (sum : Sum) (client stream : List ℕ) (subject : Subject) (s : Stream) → client_stream client stream sum.parts.streams ≡ Some s
    → IfSome (listed_change stream subject s) (IsOnOwn sum client stream)
listed_makes sum client stream subject s is =
    elim (is_listed subject s) as (λ b. IfSome (if b then None else Some (fact.Listed stream subject)) (IsOnOwn sum client stream)) [
      | true ↦ tt
      | false ↦ record { own = s; found = is; on = record { names = refl; brings = refl; silent = refl } }
    ]

unlisted_makes : (sum : Sum) (client stream : List ℕ) (subject : Subject) (s : Stream) → client_stream client stream sum.parts.streams ≡ Some s
    → IfSome (unlisted_change stream subject s) (IsOnOwn sum client stream)
unlisted_makes sum client stream subject s is =
    elim (is_listed subject s) as (λ b. IfSome (if b then Some (fact.Unlisted stream subject) else None) (IsOnOwn sum client stream)) [
      | true ↦ record { own = s; found = is; on = record { names = refl; brings = refl; silent = refl } }
      | false ↦ tt
    ]

added_makes : (sum : Sum) (client stream : List ℕ) (subject : Subject) (d : Defaults) (s : Stream) → client_stream client stream sum.parts.streams ≡ Some s
    → IfSome (added_change d stream subject s) (IsOnOwn sum client stream)
added_makes sum client stream subject defaults.All s is = unlisted_makes sum client stream subject s is
added_makes sum client stream subject defaults.None s is = listed_makes sum client stream subject s is

removed_makes : (sum : Sum) (client stream : List ℕ) (subject : Subject) (d : Defaults) (s : Stream) → client_stream client stream sum.parts.streams ≡ Some s
    → IfSome (removed_change d stream subject s) (IsOnOwn sum client stream)
removed_makes sum client stream subject defaults.All s is = listed_makes sum client stream subject s is
removed_makes sum client stream subject defaults.None s is = unlisted_makes sum client stream subject s is

asked_makes : (sum : Sum) (client stream : List ℕ) (state : Option (List ℕ)) (now : ℕ) (s : Stream) (o : Option ℕ)
    → client_stream client stream sum.parts.streams ≡ Some s → IfMakes (IsOnOwn sum client stream) (asked_after sum.parts stream state now s o)
asked_makes sum client stream state now s None is =
    making_makes (IsOnOwn sum client stream) sum _ (fact.Asked stream state now)
    (record { own = s; found = is; on = record { names = refl; brings = refl; silent = refl } })
asked_makes sum client stream state now s (Some asked) is =
    either_makes (IsOnOwn sum client stream) (nat_lt now (next_time asked s.conf.interval)) _ _ tt
    (making_makes (IsOnOwn sum client stream) sum _ (fact.Asked stream state now)
    (record { own = s; found = is; on = record { names = refl; brings = refl; silent = refl } }))

published_makes : (rules : Rules) (sum : Sum) (id : List ℕ) (n : News) (now : ℕ) (o : Option Publication)
    → IfMakes (FactOf rules sum (Publish id n) now) (published_after sum.parts id n now o)
published_makes rules sum id n now None = making_makes (FactOf rules sum (Publish id n) now) sum _ (fact.Published id n now) refl
published_makes rules sum id n now (Some p) = either_makes (FactOf rules sum (Publish id n) now) (is_same_news p.news n) _ _ tt tt

pub change_is : (rules : Rules) (sum : Sum) (call : Call) (now : ℕ) → IfSome (change_of rules sum call now) (FactOf rules sum call now)
unfolding told_of
change_is rules sum Metadata now = tt
change_is rules sum (Create client want) now = created_makes rules sum client want now (client_of client rules.clients) refl
change_is rules sum (ReadAll client) now = tt
change_is rules sum (Read client stream) now =
    found_makes (λ f. ⊥) (λ (s : Stream). only (answer.Conf s.conf)) (client_stream client stream sum.parts.streams) (λ s is. tt)
change_is rules sum (Patch client stream want) now =
    found_makes (IsOnOwn sum client stream) (reconfigured stream (patched want)) (client_stream client stream sum.parts.streams)
    (λ s is. reconfigured_makes sum client stream (patched want) s is)
change_is rules sum (Put client stream want) now =
    found_makes (IsOnOwn sum client stream) (reconfigured stream (replaced want)) (client_stream client stream sum.parts.streams)
    (λ s is. reconfigured_makes sum client stream (replaced want) s is)
change_is rules sum (Delete client stream) now =
    found_makes (IsOnOwn sum client stream) (λ (s : Stream). with_change answer.Gone (Some (fact.Deleted stream))) (client_stream client stream sum.parts.streams)
    (λ s is. record { own = s; found = is; on = record { names = refl; brings = refl; silent = refl } })
change_is rules sum (GetStatus client stream) now =
    found_makes (λ f. ⊥) (λ (s : Stream). only (state_of stream s)) (client_stream client stream sum.parts.streams) (λ s is. tt)
change_is rules sum (SetStatus client stream status reason) now =
    found_makes (IsOnOwn sum client stream) (status_set stream status reason now) (client_stream client stream sum.parts.streams)
    (λ s is. either_makes (IsOnOwn sum client stream) (status_eq s.status status) _ _ tt
    (record { own = s; found = is; on = record { names = refl; brings = refl; silent = refl } }))
change_is rules sum (Add client stream subject) now =
    found_makes (IsOnOwn sum client stream) (λ (s : Stream). with_change answer.Added (added_change s.conf.defaults stream subject s))
    (client_stream client stream sum.parts.streams) (λ s is. added_makes sum client stream subject s.conf.defaults s is)
change_is rules sum (Remove client stream subject) now =
    found_makes (IsOnOwn sum client stream) (λ (s : Stream). with_change answer.Removed (removed_change s.conf.defaults stream subject s))
    (client_stream client stream sum.parts.streams) (λ s is. removed_makes sum client stream subject s.conf.defaults s is)
change_is rules sum (Verify client stream state) now =
    found_makes (IsOnOwn sum client stream) (asked_of sum.parts stream state now) (client_stream client stream sum.parts.streams)
    (λ s is. either_makes (IsOnOwn sum client stream) (is_disabled s.status) _ _ tt (asked_makes sum client stream state now s s.asked is))
change_is rules sum (Poll client stream ask) now =
    found_makes (IsOnOwn sum client stream) (polled sum stream ask) (client_stream client stream sum.parts.streams)
    (λ s is. either_makes (IsOnOwn sum client stream) (is_push s.conf.delivery) (only answer.NotFound)
    (with_change (polled_answer sum stream ask s) (polled_change sum stream ask)) tt
    (settled_makes (IsOnOwn sum client stream) stream (settled_items ask (owed_by sum stream))
    (λ items. record { own = s; found = is; on = record { names = refl; brings = refl; silent = refl } })))
change_is rules sum (Publish id n) now = published_makes rules sum id n now (publication_of id sum.parts.published)
change_is rules sum (OperatorStatus stream status reason) now =
    found_makes (IsOn sum stream) (operated sum.parts stream status reason now) (stream_named stream sum.parts.streams)
    (λ s is. either_makes (IsOn sum stream) (status_eq s.status status) _ _ tt
    (making_makes (IsOn sum stream) sum _ (fact.StatusSet stream status reason true now) (record { names = refl; brings = refl; silent = refl })))
change_is rules sum (OperatorDelete stream) now =
    found_makes (IsOn sum stream) (λ (s : Stream). with_change answer.Gone (Some (fact.Deleted stream))) (stream_named stream sum.parts.streams)
    (λ s is. record { names = refl; brings = refl; silent = refl })
change_is rules sum (Streams from) now = tt
change_is rules sum (Refused from) now = tt
change_is rules sum Figures now = tt
change_is rules sum (Deliver stream) now =
    found_makes (λ f. ⊥) (λ (s : Stream). if is_push s.conf.delivery then only (answer.Delivering stream) else only answer.NotFound)
    (stream_named stream sum.parts.streams) (λ s is. either_makes (λ f. ⊥) (is_push s.conf.delivery) _ _ tt tt)
change_is rules sum (Hand streams) now = tt
change_is rules sum (Settle stream number outcome) now =
    settled_makes (IsOn sum stream) stream (settled_one sum stream number outcome) (λ items. record { names = refl; brings = refl; silent = refl })

-- the fact that it makes
pub fact_is : (rules : Rules) (sum : Sum) (call : Call) (now : ℕ) (f : Fact) → change_of rules sum call now ≡ Some f → FactOf rules sum call now f
fact_is rules sum call now f is = by (change_of rules sum call now) is (change_is rules sum call now)
  where
    by : (o : Option Fact) → o ≡ Some f → IfSome o (FactOf rules sum call now) → FactOf rules sum call now f
    by None none h = cc none
    by (Some g) some h = let same : g ≡ f = cc in subst (FactOf rules sum call now) same h
