-- A call with a cause to be refused is refused.
use Rattle.std.proofs.Common.{◌≡◌, ◌∙◌, ap, sym, subst, ℕ, ◌+◌, ◌<◌, ◌≤◌, List, map, true, false, Option, Some, None, Ok, if◌then◌else◌, refl, inl, inr, arith}
use Rattle.std.specs.Prelude.{All, Contains, nat_lt}
use Rattle.std.specs.List.{list_any}
use Rattle.std.proofs.lemmas.Bool.{false_from_ne_true, le-leb, lt-ltb, ltb-true}
use Rattle.std.proofs.lemmas.List.Elements.{All-contains}
use Rattle.sig_json.specs.declared.limits.TheConstants.{PAYLOAD_BYTES, STREAMS_PER_CLIENT}
use Rattle.sig_event.specs.declared.status.Status.{Status}
use Rattle.sig_event.specs.declared.status.Status.TheVariants as status
use Rattle.sig_terms.specs.Deliveries.{is_push}
use Rattle.sig_terms.specs.declared.answer.Answer.{Answer}
use Rattle.sig_terms.specs.declared.answer.Answer.TheVariants as answer
use Rattle.sig_terms.specs.declared.call.Call.{Call}
use Rattle.sig_terms.specs.declared.call.Call.TheVariants.{Metadata, Create, ReadAll, Read, Patch, Put, Delete, GetStatus, SetStatus, Add, Remove, Verify, Poll, Publish, OperatorStatus, OperatorDelete, Streams, Refused, Figures, Deliver, Hand, Settle}
use Rattle.sig_terms.specs.declared.fact.Fact.{Fact}
use Rattle.sig_terms.specs.declared.fact.Fact.TheVariants as fact
use Rattle.sig_terms.specs.declared.rules.Client.{Client}
use Rattle.sig_terms.specs.declared.rules.Rules.{Rules}
use Rattle.sig_history.specs.Facts.{made_by}
use Rattle.sig_history.specs.Owed.{Sum, stream_named}
use Rattle.sig_history.specs.Sound.{is_past, largest}
use Rattle.sig_history.specs.Streams.{Made, Stream, is_disabled, issued_of, streams_of}
use Rattle.sig_calls.specs.Creating.{created_for, next_stream}
use Rattle.sig_calls.specs.Equality.{status_eq}
use Rattle.sig_calls.specs.Found.{client_stream, told_by}
use Rattle.sig_calls.specs.Polling.{polled, polled_answer, polled_change}
use Rattle.sig_calls.specs.Publishing.{published_after}
use Rattle.sig_calls.specs.Statuses.{operated, state_of}
use Rattle.sig_calls.specs.Table.{prepared_of, told_of}
use Rattle.sig_calls.specs.Told.{Told, making, only, outcome, with_change}
use Rattle.sig_calls.specs.Verifying.{asked_after, asked_of, next_time}
use Rattle.sig_calls.proofs.EqualityLemmas.{status_same}
use Rattle.sig_answer_laws.specs.Exact.{ConflictComes, DisabledComes, EarlyComes, LongComes, NotFoundComes, TooManyComes}
use Rattle.sig_answer_laws.specs.Refused.{HasNoneToPoll, IsFactOf, IsLate, StandsNoneToPush, payload_bytes}
use Rattle.sig_answer_laws.specs.Tokens.{Replies}
use Rattle.sig_answer_laws.proofs.TokenLemmas.{largest_there, none_larger}

-- ---- what isn't there

none_found : (tell : Stream → Told) (o : Option Stream) → o ≡ None → outcome (told_by tell o) ≡ Ok (record { answer = answer.NotFound; change = None })
none_found tell o none = ap (λ p. outcome (told_by tell p)) none

none_to_poll : (sum : Sum) (client stream : List ℕ) (tell : Stream → Told) → ((s : Stream) → is_push s.conf.delivery ≡ true → tell s ≡ only answer.NotFound)
    → HasNoneToPoll sum client stream
    → outcome (told_by tell (client_stream client stream sum.parts.streams)) ≡ Ok (record { answer = answer.NotFound; change = None })
none_to_poll sum client stream tell each (inl none) = none_found tell (client_stream client stream sum.parts.streams) none
none_to_poll sum client stream tell each (inr some) =
    let (s, is, push) = some in ap (λ o. outcome (told_by tell o)) is ∙ ap outcome (each s push)

none_to_push : (sum : Sum) (stream : List ℕ) (tell : Stream → Told) → ((s : Stream) → is_push s.conf.delivery ≡ false → tell s ≡ only answer.NotFound)
    → StandsNoneToPush sum stream → outcome (told_by tell (stream_named stream sum.parts.streams)) ≡ Ok (record { answer = answer.NotFound; change = None })
none_to_push sum stream tell each (inl none) = none_found tell (stream_named stream sum.parts.streams) none
none_to_push sum stream tell each (inr some) =
    let (s, is, poll) = some in ap (λ o. outcome (told_by tell o)) is ∙ ap outcome (each s poll)

pub not_found_comes : NotFoundComes
unfolding told_of
not_found_comes rules sum Metadata now missing = absurd missing
not_found_comes rules sum (Create client want) now missing = ap (λ o. outcome (created_for rules sum.parts want now o)) missing
not_found_comes rules sum (ReadAll client) now missing = absurd missing
not_found_comes rules sum (Read client stream) now missing = none_found _ (client_stream client stream sum.parts.streams) missing
not_found_comes rules sum (Patch client stream want) now missing = none_found _ (client_stream client stream sum.parts.streams) missing
not_found_comes rules sum (Put client stream want) now missing = none_found _ (client_stream client stream sum.parts.streams) missing
not_found_comes rules sum (Delete client stream) now missing = none_found _ (client_stream client stream sum.parts.streams) missing
not_found_comes rules sum (GetStatus client stream) now missing = none_found _ (client_stream client stream sum.parts.streams) missing
not_found_comes rules sum (SetStatus client stream new reason) now missing = none_found _ (client_stream client stream sum.parts.streams) missing
not_found_comes rules sum (Add client stream subject) now missing = none_found _ (client_stream client stream sum.parts.streams) missing
not_found_comes rules sum (Remove client stream subject) now missing = none_found _ (client_stream client stream sum.parts.streams) missing
not_found_comes rules sum (Verify client stream state) now missing = none_found _ (client_stream client stream sum.parts.streams) missing
not_found_comes rules sum (Poll client stream ask) now missing =
    none_to_poll sum client stream (polled sum stream ask)
    (λ s push. ap (λ b. if b then only answer.NotFound else with_change (polled_answer sum stream ask s) (polled_change sum stream ask)) push) missing
not_found_comes rules sum (Publish id n) now missing = absurd missing
not_found_comes rules sum (OperatorStatus stream new reason) now missing = none_found _ (stream_named stream sum.parts.streams) missing
not_found_comes rules sum (OperatorDelete stream) now missing = none_found _ (stream_named stream sum.parts.streams) missing
not_found_comes rules sum (Streams from) now missing = absurd missing
not_found_comes rules sum (Refused from) now missing = absurd missing
not_found_comes rules sum Figures now missing = absurd missing
not_found_comes rules sum (Deliver stream) now missing =
    none_to_push sum stream (λ (s : Stream). if is_push s.conf.delivery then only (answer.Delivering stream) else only answer.NotFound)
    (λ s poll. ap (λ b. if b then only (answer.Delivering stream) else only answer.NotFound) poll) missing
not_found_comes rules sum (Hand streams) now missing = absurd missing
not_found_comes rules sum (Settle stream number said) now missing = absurd missing

-- ---- other refusals

-- what is replied to a call is replied to the same call
of_call : (rules : Rules) (sum : Sum) (call asked : Call) (now : ℕ) (given : Answer) → call ≡ asked → Replies rules sum asked now given None
    → Replies rules sum call now given None
of_call rules sum call asked now given same replied = subst (λ c. Replies rules sum c now given None) (sym same) replied

pub too_many_comes : TooManyComes
unfolding told_of
too_many_comes rules sum call now says =
    let c : Client = says.client in
    of_call rules sum call (Create says.name says.want) now answer.TooMany says.asked
    (ap (λ o. outcome (created_for rules sum.parts says.want now o)) says.known
    ∙ ap (λ b. outcome (if b then only answer.TooMany else next_stream rules sum.parts c says.want now))
    (le-leb STREAMS_PER_CLIENT (streams_of c.name sum.parts.streams) says.many))

pub conflict_comes : ConflictComes
unfolding told_of
conflict_comes rules sum call now says =
    of_call rules sum call (Publish says.id says.news) now answer.Conflict says.asked
    (ap (λ o. outcome (published_after sum.parts says.id says.news now o)) says.found
    ∙ ap (λ b. outcome (if b then only (answer.Published sum.parts.store_id says.publication.issued) else only answer.Conflict)) says.other)

pub disabled_comes : DisabledComes
unfolding told_of
disabled_comes rules sum call now says =
    let s : Stream = says.own in
    of_call rules sum call (Verify says.client says.stream says.state) now answer.Disabled says.asked
    (ap (λ o. outcome (told_by (asked_of sum.parts says.stream says.state now) o)) says.found
    ∙ ap (λ b. outcome (if b then only answer.Disabled else asked_after sum.parts says.stream says.state now s s.asked)) (ap is_disabled says.disabled))

on_is : (s : Status) → (s ≡ status.Disabled → ⊥) → is_disabled s ≡ false
on_is status.Enabled on = refl
on_is status.Paused on = refl
on_is status.Disabled on = absurd (on refl)

-- a verification of a stream that is found, and isn't disabled
verified : (sum : Sum) (client stream : List ℕ) (state : Option (List ℕ)) (now : ℕ) (s : Stream) → client_stream client stream sum.parts.streams ≡ Some s
    → (s.status ≡ status.Disabled → ⊥)
    → outcome (told_by (asked_of sum.parts stream state now) (client_stream client stream sum.parts.streams)) ≡ outcome (asked_after sum.parts stream state now s s.asked)
verified sum client stream state now s is on =
    ap (λ o. outcome (told_by (asked_of sum.parts stream state now) o)) is
    ∙ ap (λ b. outcome (if b then only answer.Disabled else asked_after sum.parts stream state now s s.asked)) (on_is s.status on)

pub early_comes : EarlyComes
unfolding told_of
early_comes rules sum call now until says =
    let s : Stream = says.own in
    let next : ℕ = next_time says.last s.conf.interval in
    let f : Fact = fact.Asked says.stream says.state now in
    of_call rules sum call (Verify says.client says.stream says.state) now (answer.Early until) says.asked
    (verified sum says.client says.stream says.state now s says.found says.on
    ∙ ap (λ o. outcome (asked_after sum.parts says.stream says.state now s o)) says.before
    ∙ ap (λ b. outcome (if b then only (answer.Early next) else making sum.parts (answer.Asked says.stream (s.made + 1)) f))
    (lt-ltb now next (subst (λ n. now < n) says.next says.early))
    ∙ ap (λ n. Ok (record { answer = answer.Early n; change = None })) (sym says.next))

-- ---- tokens that are too long

long_made : (sum : Sum) (given : Answer) (f : Fact) (size : ℕ) → (t : Made) → Contains (made_by sum.parts f) t → payload_bytes t ≡ size
    → All (λ (u : Made). payload_bytes u ≤ size) (made_by sum.parts f) → PAYLOAD_BYTES < size
    → outcome (making sum.parts given f) ≡ Ok (record { answer = answer.Long size; change = None })
long_made sum given f size t there bytes most long =
    let ts : List Made = made_by sum.parts f in
    let low : payload_bytes t ≤ largest ts = All-contains (λ (u : Made). payload_bytes u ≤ largest ts) ts t (none_larger ts) there in
    let (u, is, same) = largest_there ts (omega arith) in
    let high : payload_bytes u ≤ size = All-contains (λ (v : Made). payload_bytes v ≤ size) ts u most is in
    let equal : payload_bytes u ≡ largest ts = same in
    let size_is : largest ts ≡ size = omega arith in
    ap (λ b. outcome (if b then only (answer.Long (largest ts)) else record { answer = given; change = Some f; over = list_any is_past ts }))
    (lt-ltb PAYLOAD_BYTES (largest ts) (omega arith))
    ∙ ap (λ n. Ok (record { answer = answer.Long n; change = None })) size_is

-- where nothing else refuses a call, what it is told is what its fact makes
late_told : (sum : Sum) (stream : List ℕ) (state : Option (List ℕ)) (now : ℕ) (s : Stream) (o : Option ℕ) → s.asked ≡ o → IsLate s now
    → asked_after sum.parts stream state now s o ≡ making sum.parts (answer.Asked stream (s.made + 1)) (fact.Asked stream state now)
late_told sum stream state now s None never late = refl
late_told sum stream state now s (Some asked) last late =
    let next : ℕ = next_time asked s.conf.interval in
    let low : next ≤ now = late asked last in
    ap (λ b. if b then only (answer.Early next) else making sum.parts (answer.Asked stream (s.made + 1)) (fact.Asked stream state now))
    (false_from_ne_true (nat_lt now next) (λ early. let less : now < next = ltb-true now next early in omega arith))

making_told : (rules : Rules) (sum : Sum) (call : Call) (now : ℕ) (f : Fact) → IsFactOf sum call now f
    → (given : Answer) × (prepared_of rules sum call now ≡ outcome (making sum.parts given f))
unfolding told_of
making_told rules sum Metadata now f is = absurd is
making_told rules sum (Create client want) now f is = absurd is
making_told rules sum (ReadAll client) now f is = absurd is
making_told rules sum (Read client stream) now f is = absurd is
making_told rules sum (Patch client stream want) now f is = absurd is
making_told rules sum (Put client stream want) now f is = absurd is
making_told rules sum (Delete client stream) now f is = absurd is
making_told rules sum (GetStatus client stream) now f is = absurd is
making_told rules sum (SetStatus client stream new reason) now f is = absurd is
making_told rules sum (Add client stream subject) now f is = absurd is
making_told rules sum (Remove client stream subject) now f is = absurd is
making_told rules sum (Verify client stream state) now f is =
    let (s, found, on, late, same) = is in
    let given : Answer = answer.Asked stream (s.made + 1) in (
      given,
      verified sum client stream state now s found on ∙ ap outcome (late_told sum stream state now s s.asked refl late)
          ∙ ap (λ g. outcome (making sum.parts given g)) (sym same),
    )
making_told rules sum (Poll client stream ask) now f is = absurd is
making_told rules sum (Publish id n) now f is =
    let given : Answer = answer.Published sum.parts.store_id (map issued_of (made_by sum.parts (fact.Published id n now))) in
    (given, ap (λ o. outcome (published_after sum.parts id n now o)) is.0 ∙ ap (λ g. outcome (making sum.parts given g)) (sym is.1))
making_told rules sum (OperatorStatus stream new reason) now f is =
    let (s, found, other, same) = is in
    let given : Answer = answer.State stream new reason (Some (s.made + 1)) in (
      given,
      ap (λ o. outcome (told_by (operated sum.parts stream new reason now) o)) found
          ∙ ap (λ b. outcome (if b then only (state_of stream s) else making sum.parts given (fact.StatusSet stream new reason true now)))
          (false_from_ne_true (status_eq s.status new) (λ equal. other (status_same s.status new equal)))
          ∙ ap (λ g. outcome (making sum.parts given g)) (sym same),
    )
making_told rules sum (OperatorDelete stream) now f is = absurd is
making_told rules sum (Streams from) now f is = absurd is
making_told rules sum (Refused from) now f is = absurd is
making_told rules sum Figures now f is = absurd is
making_told rules sum (Deliver stream) now f is = absurd is
making_told rules sum (Hand streams) now f is = absurd is
making_told rules sum (Settle stream number said) now f is = absurd is

pub long_comes : LongComes
long_comes rules sum call now size says =
    let (given, told) = making_told rules sum call now says.fact says.is in
    told ∙ long_made sum given says.fact size says.token says.made says.bytes says.most says.long
