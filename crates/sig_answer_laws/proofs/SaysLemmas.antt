-- What each call is told is so: a line for each.
use Rattle.std.proofs.Common.{◌≡◌, ◌∙◌, ap, sym, subst, ℕ, ◌+◌, ◌≤◌, List, map, true, false, Option, Some, None, if◌then◌else◌, refl, inl, inr}
use Rattle.std.specs.Prelude.{nat_le, nat_lt}
use Rattle.std.proofs.lemmas.Bool.{both_ways, leb-false, leb-true, ltb-false, ltb-true}
use Rattle.sig_json.specs.declared.limits.TheConstants.{STREAMS_PER_CLIENT}
use Rattle.sig_event.specs.News.{is_same_news}
use Rattle.sig_event.specs.declared.news.News.{News}
use Rattle.sig_event.specs.declared.status.Status.{Status}
use Rattle.sig_event.specs.declared.status.Status.TheVariants as status
use Rattle.sig_terms.specs.Deliveries.{is_push}
use Rattle.sig_terms.specs.Reply.{Reply}
use Rattle.sig_terms.specs.declared.answer.Answer.{Answer}
use Rattle.sig_terms.specs.declared.answer.Answer.TheVariants as answer
use Rattle.sig_terms.specs.declared.call.Call.{Call}
use Rattle.sig_terms.specs.declared.call.Call.TheVariants.{Metadata, Create, ReadAll, Read, Patch, Put, Delete, GetStatus, SetStatus, Add, Remove, Verify, Poll, Publish, OperatorStatus, OperatorDelete, Streams, Refused, Figures, Deliver, Hand, Settle}
use Rattle.sig_terms.specs.declared.configuration.StreamConf.{StreamConf}
use Rattle.sig_terms.specs.declared.fact.Fact.{Fact}
use Rattle.sig_terms.specs.declared.fact.Fact.TheVariants as fact
use Rattle.sig_terms.specs.declared.rules.Client.{Client}
use Rattle.sig_terms.specs.declared.rules.Rules.{Rules}
use Rattle.sig_terms.specs.declared.want.Want.{Want}
use Rattle.sig_history.specs.Facts.{brought_by, made_by, updated_news, verified_news}
use Rattle.sig_history.specs.Owed.{Sum, owed_by, stream_named}
use Rattle.sig_history.specs.Sound.{has_number}
use Rattle.sig_history.specs.Streams.{Publication, Stream, client_in, is_disabled, issued_of, publication_of, streams_of}
use Rattle.sig_history.specs.Whole.{IsWhole}
use Rattle.sig_history.proofs.ChangeLemmas.{named_is}
use Rattle.sig_history.proofs.StreamLemmas.{same_text}
use Rattle.sig_history.proofs.WholeLemmas.{fits_brings, whole_fresh}
use Rattle.sig_owing.proofs.OwedStepLemmas.{deleting_leaves}
use Rattle.sig_calls.specs.Configuring.{configured_change, patched, reconfigured, replaced}
use Rattle.sig_calls.specs.Creating.{client_of, created_for, next_conf, next_stream}
use Rattle.sig_calls.specs.Equality.{status_eq}
use Rattle.sig_calls.specs.Found.{client_stream}
use Rattle.sig_calls.specs.Polling.{polled, polled_answer, polled_change}
use Rattle.sig_calls.specs.Proper.{IsProperCall}
use Rattle.sig_calls.specs.Publishing.{published_after}
use Rattle.sig_calls.specs.Regular.{IsRegular}
use Rattle.sig_calls.specs.Statuses.{operated, state_of, status_set}
use Rattle.sig_calls.specs.Subjects.{added_change, removed_change}
use Rattle.sig_calls.specs.Table.{told_of}
use Rattle.sig_calls.specs.Told.{Told, making, only, with_change}
use Rattle.sig_calls.specs.Verifying.{asked_after, asked_of, next_time}
use Rattle.sig_calls.proofs.RegularLemmas.{calls_regular}
use Rattle.sig_calls.proofs.ReplyLemmas.{IsReplyOf, reply_of}
use Rattle.sig_calls.proofs.SpeakingLemmas.{answers_true}
use Rattle.sig_call_laws.proofs.AuthorityLemmas.{IsStreamOf, stream_of_client}
use Rattle.sig_call_laws.proofs.RepeatLemmas.{new_last, same_itself}
use Rattle.sig_answer_laws.specs.Laws.{IsTrueAnswer, Says}
use Rattle.sig_answer_laws.specs.Refused.{IsLate}
use Rattle.sig_answer_laws.proofs.GivenLemmas.{handed_says, issued_owed, sets_say, settled_says}
use Rattle.sig_answer_laws.proofs.RefusalLemmas.{Case, IsKnown, Tells, either_says, found_says, making_says}
use Rattle.sig_answer_laws.proofs.ReportedLemmas.{refused_say}
use Rattle.sig_answer_laws.proofs.StandingLemmas.{each_told, standings_say}
use Rattle.sig_answer_laws.proofs.StreamLemmas.{after_whole, confs_each, own_conf}
use Rattle.sig_answer_laws.proofs.SubjectLemmas.{added_has, removed_hasnt}
use Rattle.sig_answer_laws.proofs.TokenLemmas.{told_owed}

abbrev case : Rules → Sum → Call → ℕ → Case
case rules sum call now = record { rules = rules; sum = sum; call = call; now = now }

-- ---- configurations

created_says : (rules : Rules) (sum : Sum) (name : List ℕ) (want : Want) (now : ℕ) (o : Option Client) → IsWhole sum → client_of name rules.clients ≡ o
    → IsKnown sum (created_for rules sum.parts want now o) → Tells (case rules sum (Create name want) now) (created_for rules sum.parts want now o)
created_says rules sum name want now None whole is known = λ low. record { same = refl; missing = is }
created_says rules sum name want now (Some c) whole is known =
    either_says (case rules sum (Create name want) now) (nat_le STREAMS_PER_CLIENT (streams_of c.name sum.parts.streams)) (only answer.TooMany)
    (next_stream rules sum.parts c want now)
    (λ many k low. record {
      name = name;
      want = want;
      client = c;
      same = refl;
      asked = refl;
      known = is;
      many = leb-true STREAMS_PER_CLIENT (streams_of c.name sum.parts.streams) many;
    })
    (λ few k low.
    let f : Fact = fact.Created (next_conf rules sum.parts c want) now in
    record {
      name = name;
      want = want;
      client = c;
      asked = refl;
      known = is;
      few = leb-false STREAMS_PER_CLIENT (streams_of c.name sum.parts.streams) few;
      fresh = whole_fresh sum.parts.store_id sum.parts.created (brought_by sum.parts f) sum.parts.streams sum.owed (fits_brings sum f (k.fits low)) whole;
      stands = k.true_of low;
      requested = refl;
      delivery = refl;
      description = refl;
      iss = refl;
      aud = refl;
    }) known

-- a client's stream of a name has the name
own_name : (sum : Sum) (client stream : List ℕ) (s : Stream) → IsStreamOf sum client stream s → s.conf.stream ≡ stream
own_name sum client stream s own = same_text s.conf.stream stream (named_is stream sum.parts.streams s own.named)

-- the client of such a stream, by the name of a configuration that is made of its own
conf_client : (sum : Sum) (client stream : List ℕ) (s : Stream) (conf : StreamConf) → IsStreamOf sum client stream s → conf.stream ≡ s.conf.stream
    → client_in conf.stream ≡ client
conf_client sum client stream s conf own kept = ap client_in (kept ∙ own_name sum client stream s own) ∙ own.own

-- ---- verifications

asked_says : (rules : Rules) (sum : Sum) (client stream : List ℕ) (state : Option (List ℕ)) (now : ℕ) (s : Stream) (o : Option ℕ) → IsWhole sum
    → client_stream client stream sum.parts.streams ≡ Some s → (s.status ≡ status.Disabled → ⊥) → s.asked ≡ o → IsKnown sum (asked_after sum.parts stream state now s o)
    → Tells (case rules sum (Verify client stream state) now) (asked_after sum.parts stream state now s o)
asked_says rules sum client stream state now s o whole is on last = by o last
  where
    c : Case
    c = case rules sum (Verify client stream state) now

    f : Fact
    f = fact.Asked stream state now

    own : IsStreamOf sum client stream s
    own = stream_of_client sum client stream s whole is

    told : IsLate s now → IsKnown sum (making sum.parts (answer.Asked stream (s.made + 1)) f) → Tells c (making sum.parts (answer.Asked stream (s.made + 1)) f)
    told late known = making_says c (answer.Asked stream (s.made + 1)) f (s, is, on, late, refl)
        (λ k low. record {
          client = client;
          state = state;
          asked = refl;
          told = told_owed sum f stream s (verified_news stream state) whole refl own.named
              (ap (λ b. if b then Some (verified_news stream state) else None) (named_is stream sum.parts.streams s own.named));
        }) known

    by : (o : Option ℕ) → s.asked ≡ o → IsKnown sum (asked_after sum.parts stream state now s o) → Tells c (asked_after sum.parts stream state now s o)
    by None never known = told (λ when some. cc (sym never ∙ some)) known
    by (Some asked) last known =
        either_says c (nat_lt now (next_time asked s.conf.interval)) (only (answer.Early (next_time asked s.conf.interval)))
        (making sum.parts (answer.Asked stream (s.made + 1)) f)
        (λ early k low. record {
          client = client;
          stream = stream;
          state = state;
          own = s;
          last = asked;
          same = refl;
          asked = refl;
          found = is;
          on = on;
          before = last;
          next = refl;
          early = ltb-true now (next_time asked s.conf.interval) early;
        })
        (λ late k. told (λ when some.
        let both : Some asked ≡ Some when = sym last ∙ some in
        let same : asked ≡ when = cc in
        let low : next_time asked s.conf.interval ≤ now = ltb-false now (next_time asked s.conf.interval) late in
        subst (λ n. next_time n s.conf.interval ≤ now) same low) k) known

isnt_disabled : (s : Status) → is_disabled s ≡ false → s ≡ status.Disabled → ⊥
isnt_disabled status.Enabled h is = cc is
isnt_disabled status.Paused h is = cc is
isnt_disabled status.Disabled h is = cc h

disabled_is : (s : Status) → is_disabled s ≡ true → s ≡ status.Disabled
disabled_is status.Enabled h = cc h
disabled_is status.Paused h = cc h
disabled_is status.Disabled h = refl

-- ---- publications

published_says : (rules : Rules) (sum : Sum) (id : List ℕ) (n : News) (now : ℕ) (o : Option Publication) → IsWhole sum → publication_of id sum.parts.published ≡ o
    → IsKnown sum (published_after sum.parts id n now o) → Tells (case rules sum (Publish id n) now) (published_after sum.parts id n now o)
published_says rules sum id n now None whole none known =
    let f : Fact = fact.Published id n now in
    making_says (case rules sum (Publish id n) now) (answer.Published sum.parts.store_id (map issued_of (made_by sum.parts f))) f (none, refl)
    (λ k low. record {
      id = id;
      news = n;
      publication = record { id = id; news = n; issued = map issued_of (made_by sum.parts f) };
      asked = refl;
      store = refl;
      found = new_last id sum.parts.published (record { id = id; news = n; issued = map issued_of (made_by sum.parts f) }) none refl;
      same = same_itself n;
      issued = refl;
      owed = issued_owed sum id n now whole;
    }) known
published_says rules sum id n now (Some p) whole there known =
    either_says (case rules sum (Publish id n) now) (is_same_news p.news n) (only (answer.Published sum.parts.store_id p.issued)) (only answer.Conflict)
    (λ same k low. record { id = id; news = n; publication = p; asked = refl; store = refl; found = there; same = same; issued = refl; owed = tt })
    (λ other k low. record { id = id; news = n; publication = p; same = refl; asked = refl; found = there; other = other }) known

-- ---- the operator's status

pub status_itself : (s : Status) → status_eq s s ≡ true
status_itself status.Enabled = refl
status_itself status.Paused = refl
status_itself status.Disabled = refl

operated_says : (rules : Rules) (sum : Sum) (stream : List ℕ) (new : Status) (reason : Option (List ℕ)) (now : ℕ) (s : Stream) → IsWhole sum
    → stream_named stream sum.parts.streams ≡ Some s → IsKnown sum (operated sum.parts stream new reason now s)
    → Tells (case rules sum (OperatorStatus stream new reason) now) (operated sum.parts stream new reason now s)
operated_says rules sum stream new reason now s whole is known =
    let c : Case = case rules sum (OperatorStatus stream new reason) now in
    let f : Fact = fact.StatusSet stream new reason true now in
    let given : Answer = answer.State stream new reason (Some (s.made + 1)) in
    either_says c (status_eq s.status new) (only (state_of stream s)) (making sum.parts given f)
    (λ same k low. record { stands = k.true_of low; told = tt })
    (λ other k. making_says c given f (s, is, (λ same. both_ways (status_eq s.status new) other (subst (λ n. status_eq s.status n ≡ true) same (status_itself s.status))), refl)
    (λ m low. record {
      stands = m.true_of low;
      told = told_owed sum f stream s (updated_news stream new reason) whole refl is
          (ap (λ b. if b then Some (updated_news stream new reason) else None) (named_is stream sum.parts.streams s is));
    }) k) known

-- ---- each call

pub says : (rules : Rules) (sum : Sum) (call : Call) (now : ℕ) → IsProperCall call → IsWhole sum → IsKnown sum (told_of rules sum call now)
    → Tells (case rules sum call now) (told_of rules sum call now)
unfolding told_of
says rules sum Metadata now called whole known = λ low. record { asked = refl; same = refl }
says rules sum (Create client want) now called whole known = created_says rules sum client want now (client_of client rules.clients) whole refl known
says rules sum (ReadAll client) now called whole known =
    λ low. record { client = client; asked = refl; same = refl; each = confs_each sum client whole }
says rules sum (Read client stream) now called whole known =
    found_says (case rules sum (Read client stream) now) (λ (s : Stream). only (answer.Conf s.conf)) (client_stream client stream sum.parts.streams) (λ none. none)
    (λ s is k low.
    let own : IsStreamOf sum client stream s = stream_of_client sum client stream s whole is in
    record {
      client = client;
      asked = (refl, sym (own_name sum client stream s own));
      own = own_conf sum None client s.conf (after_whole sum None whole tt) (conf_client sum client stream s s.conf own refl) (k.true_of low);
    }) known
says rules sum (Patch client stream want) now called whole known =
    found_says (case rules sum (Patch client stream want) now) (reconfigured stream (patched want)) (client_stream client stream sum.parts.streams) (λ none. none)
    (λ s is k low.
    let own : IsStreamOf sum client stream s = stream_of_client sum client stream s whole is in
    let conf : StreamConf = patched want s.conf in
    let change : Option Fact = configured_change stream s.conf conf in
    record {
      client = client;
      asked = (refl, sym (own_name sum client stream s own));
      own = own_conf sum change client conf (after_whole sum change whole (k.fits low)) (conf_client sum client stream s conf own refl) (k.true_of low);
    }) known
says rules sum (Put client stream want) now called whole known =
    found_says (case rules sum (Put client stream want) now) (reconfigured stream (replaced want)) (client_stream client stream sum.parts.streams) (λ none. none)
    (λ s is k low.
    let own : IsStreamOf sum client stream s = stream_of_client sum client stream s whole is in
    let conf : StreamConf = replaced want s.conf in
    let change : Option Fact = configured_change stream s.conf conf in
    record {
      client = client;
      asked = (refl, sym (own_name sum client stream s own));
      own = own_conf sum change client conf (after_whole sum change whole (k.fits low)) (conf_client sum client stream s conf own refl) (k.true_of low);
    }) known
says rules sum (Delete client stream) now called whole known =
    found_says (case rules sum (Delete client stream) now) (λ (s : Stream). with_change answer.Gone (Some (fact.Deleted stream)))
    (client_stream client stream sum.parts.streams) (λ none. none)
    (λ s is k low. (let left = deleting_leaves sum stream in record { stream = stream; asked = inl (client, refl); gone = left.0; nothing = left.1 })) known
says rules sum (GetStatus client stream) now called whole known =
    found_says (case rules sum (GetStatus client stream) now) (λ (s : Stream). only (state_of stream s)) (client_stream client stream sum.parts.streams) (λ none. none)
    (λ s is k low. record { stands = k.true_of low; told = tt }) known
says rules sum (SetStatus client stream new reason) now called whole known =
    found_says (case rules sum (SetStatus client stream new reason) now) (status_set stream new reason now) (client_stream client stream sum.parts.streams) (λ none. none)
    (λ s is. either_says (case rules sum (SetStatus client stream new reason) now) (status_eq s.status new) (only (state_of stream s))
    (with_change (answer.State stream new reason None) (Some (fact.StatusSet stream new reason false now)))
    (λ same k low. record { stands = k.true_of low; told = tt }) (λ other k low. record { stands = k.true_of low; told = tt })) known
says rules sum (Add client stream subject) now called whole known =
    found_says (case rules sum (Add client stream subject) now) (λ (s : Stream). with_change answer.Added (added_change s.conf.defaults stream subject s))
    (client_stream client stream sum.parts.streams) (λ none. none)
    (λ s is k low. record {
      client = client;
      stream = stream;
      subject = subject;
      asked = refl;
      has = added_has sum stream subject s.conf.defaults s called (stream_of_client sum client stream s whole is).named refl;
    }) known
says rules sum (Remove client stream subject) now called whole known =
    found_says (case rules sum (Remove client stream subject) now) (λ (s : Stream). with_change answer.Removed (removed_change s.conf.defaults stream subject s))
    (client_stream client stream sum.parts.streams) (λ none. none)
    (λ s is k low. record {
      client = client;
      stream = stream;
      subject = subject;
      asked = refl;
      hasnt = removed_hasnt sum stream subject s.conf.defaults s (stream_of_client sum client stream s whole is).named refl;
    }) known
says rules sum (Verify client stream state) now called whole known =
    found_says (case rules sum (Verify client stream state) now) (asked_of sum.parts stream state now) (client_stream client stream sum.parts.streams) (λ none. none)
    (λ s is. either_says (case rules sum (Verify client stream state) now) (is_disabled s.status) (only answer.Disabled) (asked_after sum.parts stream state now s s.asked)
    (λ off k low. record {
      client = client;
      stream = stream;
      state = state;
      own = s;
      same = refl;
      asked = refl;
      found = is;
      disabled = disabled_is s.status off;
    })
    (λ on k. asked_says rules sum client stream state now s s.asked whole is (isnt_disabled s.status on) refl k)) known
says rules sum (Poll client stream ask) now called whole known =
    found_says (case rules sum (Poll client stream ask) now) (polled sum stream ask) (client_stream client stream sum.parts.streams) (λ none. inl none)
    (λ s is. either_says (case rules sum (Poll client stream ask) now) (is_push s.conf.delivery) (only answer.NotFound)
    (with_change (polled_answer sum stream ask s) (polled_change sum stream ask))
    (λ push k low. record { same = refl; missing = inr (s, is, push) })
    (λ poll k low. sets_say sum client stream ask (polled_change sum stream ask) s.conf.delivery)) known
says rules sum (Publish id n) now called whole known = published_says rules sum id n now (publication_of id sum.parts.published) whole refl known
says rules sum (OperatorStatus stream new reason) now called whole known =
    found_says (case rules sum (OperatorStatus stream new reason) now) (operated sum.parts stream new reason now) (stream_named stream sum.parts.streams) (λ none. none)
    (λ s is k. operated_says rules sum stream new reason now s whole is k) known
says rules sum (OperatorDelete stream) now called whole known =
    found_says (case rules sum (OperatorDelete stream) now) (λ (s : Stream). with_change answer.Gone (Some (fact.Deleted stream)))
    (stream_named stream sum.parts.streams) (λ none. none)
    (λ s is k low. (let left = deleting_leaves sum stream in record { stream = stream; asked = inr refl; gone = left.0; nothing = left.1 })) known
says rules sum (Streams from) now called whole known = λ low. standings_say sum from
says rules sum (Refused from) now called whole known = λ low. refused_say sum from
says rules sum Figures now called whole known = λ low. record { asked = refl; same = refl; published = refl; each = each_told sum sum.parts.streams }
says rules sum (Deliver stream) now called whole known =
    found_says (case rules sum (Deliver stream) now) (λ (s : Stream). if is_push s.conf.delivery then only (answer.Delivering stream) else only answer.NotFound)
    (stream_named stream sum.parts.streams) (λ none. inl none)
    (λ s is. either_says (case rules sum (Deliver stream) now) (is_push s.conf.delivery) (only (answer.Delivering stream)) (only answer.NotFound)
    (λ push k low. record { asked = refl; same = refl; push = (s, is, push) }) (λ poll k low. record { same = refl; missing = inr (s, is, poll) })) known
says rules sum (Hand streams) now called whole known = λ low. handed_says sum streams
says rules sum (Settle stream number said) now called whole known = λ low. settled_says sum stream number said (has_number number (owed_by sum stream)) refl

-- ---- what a call replies

pub answer_is_true : (given : Answer) → IsTrueAnswer given
answer_is_true given rules sum call now change proper called whole is =
    let told : Told = told_of rules sum call now in
    let regular : IsRegular rules sum call now told = calls_regular rules sum call now proper whole in
    let known : IsKnown sum told = record { true_of = answers_true rules sum call now proper called whole; fits = regular.fits called } in
    let replied : IsReplyOf told (record { answer = given; change = change }) = reply_of told (record { answer = given; change = change }) is in
    subst (λ (r : Reply). Says rules sum call now r.change r.answer) replied.reply (says rules sum call now called whole known replied.low)
