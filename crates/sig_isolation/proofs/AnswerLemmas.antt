-- What a client is told rests on its own part of a history.
use Rattle.std.proofs.Common.{◌≡◌, ◌∙◌, ap, sym, subst, ℕ, ◌+◌, List, [], ◌∷◌, ◌++◌, flat_map, filter, map, length, true, false, bytes_eq, Option, Some, None, if◌then◌else◌, refl}
use Rattle.std.specs.Prelude.{nat_le, nat_lt}
use Rattle.sig_json.specs.declared.limits.TheConstants.{LAST_NUMBER, STREAMS_PER_CLIENT}
use Rattle.sig_terms.specs.Deliveries.{is_push}
use Rattle.sig_terms.specs.declared.want.Want.{Want}
use Rattle.sig_terms.specs.declared.rules.Client.{Client}
use Rattle.sig_terms.specs.declared.rules.Rules.{Rules}
use Rattle.sig_terms.specs.declared.answer.Answer.TheVariants as answer
use Rattle.sig_terms.specs.declared.call.Call.{Call}
use Rattle.sig_terms.specs.declared.call.Call.TheVariants.{Create, ReadAll, Read, Patch, Put, Delete, GetStatus, SetStatus, Add, Remove, Verify, Poll}
use Rattle.sig_terms.specs.declared.call.PollAsk.{PollAsk}
use Rattle.sig_terms.specs.declared.fact.Fact.{Fact}
use Rattle.sig_terms.specs.declared.fact.Fact.TheVariants.{Asked, Created, Deleted}
use Rattle.sig_history.specs.Streams.{Made, Stream, client_in, created_by, is_disabled, stands, streams_of}
use Rattle.sig_history.specs.Facts.{made_by, token_by, token_for, verified_news}
use Rattle.sig_history.specs.Owed.{Sum, empty_sum, owed_by, owed_in, stream_named, sum_of}
use Rattle.sig_isolation.specs.Isolation.{AnswersAreIsolated, Part, PartsAreIsolated, concerns, is_call_of, is_of_client, part_of}
use Rattle.sig_calls.specs.Configuring.{patched, reading_all, reconfigured, replaced}
use Rattle.sig_calls.specs.Creating.{client_of, conf_of, created_for, creating}
use Rattle.sig_calls.specs.Found.{client_stream, told_by}
use Rattle.sig_calls.specs.Polling.{page_of, page_size, polled, polling, settled_items}
use Rattle.sig_calls.specs.Settling.{settled_fact}
use Rattle.sig_calls.specs.Statuses.{state_of, status_set}
use Rattle.sig_calls.specs.Subjects.{added_change, removed_change}
use Rattle.sig_calls.specs.Table.{told_of}
use Rattle.sig_calls.specs.Told.{Told, making_tokens, only, with_change}
use Rattle.sig_calls.specs.Verifying.{asked_after, asked_of, next_time, verifying}
use Rattle.sig_history.proofs.StreamLemmas.{same_text}
use Rattle.sig_calls.proofs.ChangedLemmas.{left_by, left_offered, offered_from}
use Rattle.sig_calls.proofs.CreatingLemmas.{client_named}
use Rattle.sig_calls.proofs.FoundLemmas.{named_stands}
use Rattle.sig_isolation.proofs.OrderLemmas.{own}
use Rattle.sig_isolation.proofs.OthersLemmas.{name_of_own, named_own, not_named, stands_own}
use Rattle.sig_isolation.proofs.PartLemmas.{AreNamed, found_of_part, named_after, owed_of_part, same_streams}

-- two histories with one part of a client, over stores where each stream is its client's by its name
record AreAlike (client : List ℕ) (a b : Sum) : Type 0 where
  first : AreNamed a.parts.streams
  second : AreNamed b.parts.streams
  part : part_of client a ≡ part_of client b

streams_alike : (client : List ℕ) (a b : Sum) → AreAlike client a b → own client a.parts.streams ≡ own client b.parts.streams
streams_alike client a b alike = ap (λ (p : Part). p.streams) alike.part

-- ---- calls on one of a client's streams

-- the same stream is found
found_alike : (client name : List ℕ) (a b : Sum) → AreAlike client a b
    → client_stream client name a.parts.streams ≡ client_stream client name b.parts.streams
found_alike client name a b alike =
    found_of_part client name a.parts.streams alike.first ∙ ap (stream_named name) (streams_alike client a b alike)
    ∙ sym (found_of_part client name b.parts.streams alike.second)

-- so the same is told of it by what rests on the stream alone
same_alike : (client name : List ℕ) (a b : Sum) (tell : Stream → Told) → AreAlike client a b
    → told_by tell (client_stream client name a.parts.streams) ≡ told_by tell (client_stream client name b.parts.streams)
same_alike client name a b tell alike = ap (told_by tell) (found_alike client name a b alike)

by_each : (client : List ℕ) (first second : Stream → Told) (o : Option Stream) → ((s : Stream) → o ≡ Some s → first s ≡ second s)
    → told_by first o ≡ told_by second o
by_each client first second None each = refl
by_each client first second (Some s) each = each s refl

-- and by what is the same of each stream of the client
told_alike : (client name : List ℕ) (a b : Sum) (first second : Stream → Told) → AreAlike client a b
    → ((s : Stream) → client_in name ≡ client → stands name b.parts.streams ≡ true → first s ≡ second s)
    → told_by first (client_stream client name a.parts.streams) ≡ told_by second (client_stream client name b.parts.streams)
told_alike client name a b first second alike each =
    let found : client_stream client name b.parts.streams ≡ stream_named name (own client b.parts.streams) =
    found_of_part client name b.parts.streams alike.second in
    same_alike client name a b first alike
    ∙ by_each client first second (client_stream client name b.parts.streams) (λ s is.
    let here : stands name (own client b.parts.streams) ≡ true = named_stands name (own client b.parts.streams) s (sym found ∙ is) in
    let of : client_in name ≡ client = name_of_own client name b.parts.streams here in
    each s of (stands_own client name b.parts.streams of ∙ here))

-- ---- all streams of a client

reading_all_alike : (client : List ℕ) (a b : Sum) → AreAlike client a b → reading_all a.parts client ≡ reading_all b.parts client
reading_all_alike client a b alike =
    ap (λ ss. only (answer.Confs (map (λ (s : Stream). s.conf) ss)))
    (same_streams client a.parts.streams alike.first ∙ streams_alike client a b alike ∙ sym (same_streams client b.parts.streams alike.second))

-- ---- a stream is made

-- what a client is told, by how many streams it ever made, and how many stand
abbrev told_made : Rules → Client → Want → ℕ → ℕ → ℕ → Told
told_made rules client want now created standing =
    if nat_le STREAMS_PER_CLIENT standing then only answer.TooMany
    else record {
      answer = answer.Made (conf_of rules client want (created + 1));
      change = Some (Created (conf_of rules client want (created + 1)) now);
      over = nat_le LAST_NUMBER created;
    }

created_alike : (rules : Rules) (client : List ℕ) (a b : Sum) (want : Want) (now : ℕ) (o : Option Client) → AreAlike client a b
    → ((c : Client) → o ≡ Some c → c.name ≡ client) → created_for rules a.parts want now o ≡ created_for rules b.parts want now o
created_alike rules client a b want now None alike named = refl
created_alike rules client a b want now (Some c) alike named =
    let same : c.name ≡ client = named c refl in
    let made : created_by client a.parts.created ≡ created_by client b.parts.created = ap (λ (p : Part). p.created) alike.part in
    let standing : streams_of client a.parts.streams ≡ streams_of client b.parts.streams =
    ap length (same_streams client a.parts.streams alike.first ∙ streams_alike client a b alike ∙ sym (same_streams client b.parts.streams alike.second)) in
    ap (λ n. told_made rules c want now (created_by n a.parts.created) (streams_of n a.parts.streams)) same
    ∙ ap (λ n. told_made rules c want now n (streams_of client a.parts.streams)) made
    ∙ ap (told_made rules c want now (created_by client b.parts.created)) standing
    ∙ ap (λ n. told_made rules c want now (created_by n b.parts.created) (streams_of n b.parts.streams)) (sym same)

creating_alike : (rules : Rules) (client : List ℕ) (a b : Sum) (want : Want) (now : ℕ) → AreAlike client a b
    → creating rules a.parts client want now ≡ creating rules b.parts client want now
creating_alike rules client a b want now alike =
    created_alike rules client a b want now (client_of client rules.clients) alike (λ c is. client_named client rules.clients c is)

-- ---- a verification

-- a verification makes a token for a stream of its client alone
asked_own : (client stream sid : List ℕ) (state : Option (List ℕ)) (now : ℕ) (ss : List Stream) → client_in stream ≡ client
    → flat_map (token_for sid (Asked stream state now)) ss ≡ flat_map (token_for sid (Asked stream state now)) (own client ss)
asked_own client stream sid state now [] of = refl
asked_own client stream sid state now (s ∷ ss) of =
    let f : Fact = Asked stream state now in
    elim (is_of_client client s) as (λ b. is_of_client client s ≡ b
    → token_for sid f s ++ flat_map (token_for sid f) ss ≡ flat_map (token_for sid f) (if b then s ∷ own client ss else own client ss)) [
      | true ↦ λ is. ap (λ l. token_for sid f s ++ l) (asked_own client stream sid state now ss of)
      | false ↦ λ other. ap (λ b. token_by sid now s (if b then Some (verified_news stream state) else None) ++ flat_map (token_for sid f) ss)
          (not_named client stream s of other)
          ∙ asked_own client stream sid state now ss of
    ] refl

made_alike : (client stream : List ℕ) (a b : Sum) (state : Option (List ℕ)) (now : ℕ) → AreAlike client a b → client_in stream ≡ client
    → made_by a.parts (Asked stream state now) ≡ made_by b.parts (Asked stream state now)
made_alike client stream a b state now alike of =
    let f : Fact = Asked stream state now in
    asked_own client stream a.parts.store_id state now a.parts.streams of
    ∙ ap (flat_map (token_for a.parts.store_id f)) (streams_alike client a b alike)
    ∙ ap (λ sid. flat_map (token_for sid f) (own client b.parts.streams)) (ap (λ (p : Part). p.store_id) alike.part)
    ∙ sym (asked_own client stream b.parts.store_id state now b.parts.streams of)

-- what it is told, by the tokens that it makes
abbrev asked_making : List ℕ → Option (List ℕ) → ℕ → Stream → Option ℕ → List Made → Told
asked_making stream state now s None tokens = making_tokens tokens (answer.Asked stream (s.made + 1)) (Asked stream state now)
asked_making stream state now s (Some asked) tokens =
    if nat_lt now (next_time asked s.conf.interval) then only (answer.Early (next_time asked s.conf.interval))
    else making_tokens tokens (answer.Asked stream (s.made + 1)) (Asked stream state now)

asked_is : (sum : Sum) (stream : List ℕ) (state : Option (List ℕ)) (now : ℕ) (s : Stream) (asked : Option ℕ)
    → asked_after sum.parts stream state now s asked ≡ asked_making stream state now s asked (made_by sum.parts (Asked stream state now))
asked_is sum stream state now s None = refl
asked_is sum stream state now s (Some asked) = refl

verifying_alike : (client stream : List ℕ) (a b : Sum) (state : Option (List ℕ)) (now : ℕ) → AreAlike client a b
    → verifying a.parts client stream state now ≡ verifying b.parts client stream state now
verifying_alike client stream a b state now alike =
    told_alike client stream a b (asked_of a.parts stream state now) (asked_of b.parts stream state now) alike (λ s of here.
    ap (λ t. if is_disabled s.status then only answer.Disabled else t)
    (asked_is a stream state now s s.asked
    ∙ ap (asked_making stream state now s s.asked) (made_alike client stream a b state now alike of)
    ∙ sym (asked_is b stream state now s s.asked)))

-- ---- a poll

-- what a poll of a stream is told, by what is there and what it owes
abbrev told_of_owed : List ℕ → PollAsk → Stream → Option Stream → List Made → Told
told_of_owed stream ask s o owed =
    let change : Option Fact = settled_fact stream (settled_items ask owed) in
    if is_push s.conf.delivery then only answer.NotFound
    else with_change (page_of s.conf.delivery (page_size ask) (offered_from o (left_by stream change owed))) change

polled_is : (sum : Sum) (stream : List ℕ) (ask : PollAsk) (s : Stream) → stands stream sum.parts.streams ≡ true
    → polled sum stream ask s ≡ told_of_owed stream ask s (stream_named stream sum.parts.streams) (owed_by sum stream)
polled_is sum stream ask s here =
    let change : Option Fact = settled_fact stream (settled_items ask (owed_by sum stream)) in
    ap (λ l. if is_push s.conf.delivery then only answer.NotFound else with_change (page_of s.conf.delivery (page_size ask) l) change)
    (left_offered sum stream (settled_items ask (owed_by sum stream)) here)

-- what a stream of a part owes
abbrev owed_in_part : List ℕ → Part → List Made
owed_in_part stream p = owed_in stream p.streams p.owed

polled_alike : (client stream : List ℕ) (a b : Sum) (ask : PollAsk) (s : Stream) → AreAlike client a b → client_in stream ≡ client
    → stands stream b.parts.streams ≡ true → polled a stream ask s ≡ polled b stream ask s
polled_alike client stream a b ask s alike of here =
    let there : stands stream (own client b.parts.streams) ≡ true = sym (stands_own client stream b.parts.streams of) ∙ here in
    let first : stands stream (own client a.parts.streams) ≡ true = ap (stands stream) (streams_alike client a b alike) ∙ there in
    let owed : owed_by a stream ≡ owed_by b stream =
    sym (owed_of_part client stream a first) ∙ ap (owed_in_part stream) alike.part ∙ owed_of_part client stream b there in
    let named : stream_named stream a.parts.streams ≡ stream_named stream b.parts.streams =
    named_own client stream a.parts.streams of ∙ ap (stream_named stream) (streams_alike client a b alike) ∙ sym (named_own client stream b.parts.streams of) in
    polled_is a stream ask s (stands_own client stream a.parts.streams of ∙ first)
    ∙ ap (λ o. told_of_owed stream ask s o (owed_by a stream)) named
    ∙ ap (told_of_owed stream ask s (stream_named stream b.parts.streams)) owed
    ∙ sym (polled_is b stream ask s here)

polling_alike : (client stream : List ℕ) (a b : Sum) (ask : PollAsk) → AreAlike client a b
    → polling a client stream ask ≡ polling b client stream ask
polling_alike client stream a b ask alike =
    told_alike client stream a b (polled a stream ask) (polled b stream ask) alike
    (λ s of here. polled_alike client stream a b ask s alike of here)

-- ---- the law

-- the client of the call is this one
mine : (client c : List ℕ) (a b : Sum) → AreAlike client a b → bytes_eq c client ≡ true → AreAlike c a b
mine client c a b alike own = subst (λ n. AreAlike n a b) (sym (same_text c client own)) alike

-- of histories that are alike for a client its calls are told the same: a line for each call
calls_alike : (rules : Rules) (client : List ℕ) (a b : Sum) (call : Call) (now : ℕ) → AreAlike client a b → is_call_of client call ≡ true
    → told_of rules a call now ≡ told_of rules b call now
unfolding told_of
calls_alike rules client a b (Create c want) now alike own = creating_alike rules c a b want now (mine client c a b alike own)
calls_alike rules client a b (ReadAll c) now alike own = reading_all_alike c a b (mine client c a b alike own)
calls_alike rules client a b (Read c stream) now alike own = same_alike c stream a b (λ (s : Stream). only (answer.Conf s.conf)) (mine client c a b alike own)
calls_alike rules client a b (Patch c stream want) now alike own = same_alike c stream a b (reconfigured stream (patched want)) (mine client c a b alike own)
calls_alike rules client a b (Put c stream want) now alike own = same_alike c stream a b (reconfigured stream (replaced want)) (mine client c a b alike own)
calls_alike rules client a b (Delete c stream) now alike own =
    same_alike c stream a b (λ (s : Stream). with_change answer.Gone (Some (Deleted stream))) (mine client c a b alike own)
calls_alike rules client a b (GetStatus c stream) now alike own = same_alike c stream a b (λ (s : Stream). only (state_of stream s)) (mine client c a b alike own)
calls_alike rules client a b (SetStatus c stream status reason) now alike own =
    same_alike c stream a b (status_set stream status reason now) (mine client c a b alike own)
calls_alike rules client a b (Add c stream subject) now alike own =
    same_alike c stream a b (λ (s : Stream). with_change answer.Added (added_change s.conf.defaults stream subject s)) (mine client c a b alike own)
calls_alike rules client a b (Remove c stream subject) now alike own =
    same_alike c stream a b (λ (s : Stream). with_change answer.Removed (removed_change s.conf.defaults stream subject s)) (mine client c a b alike own)
calls_alike rules client a b (Verify c stream state) now alike own = verifying_alike c stream a b state now (mine client c a b alike own)
calls_alike rules client a b (Poll c stream ask) now alike own = polling_alike c stream a b ask (mine client c a b alike own)
calls_alike rules client a b call now alike own = cc own

alike : PartsAreIsolated → (store client : List ℕ) (facts : List Fact)
    → AreAlike client (sum_of (empty_sum store) facts) (sum_of (empty_sum store) (filter (concerns client) facts))
alike parts store client facts = record {
  first = named_after (empty_sum store).parts facts tt;
  second = named_after (empty_sum store).parts (filter (concerns client) facts) tt;
  part = parts store client facts;
}

-- where histories are isolated, so are answers
pub answers_isolated : PartsAreIsolated → AnswersAreIsolated
answers_isolated parts rules store client facts call now own =
    calls_alike rules client (sum_of (empty_sum store) facts) (sum_of (empty_sum store) (filter (concerns client) facts)) call now
    (alike parts store client facts) own
