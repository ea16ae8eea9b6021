-- Each token that calls make is for the audience that the rules give to its stream's client.
use Rattle.std.proofs.Common.{◌≡◌, ◌∙◌, ap, sym, subst, ◌+◌, ℕ, List, [], ◌∷◌, ◌++◌, map, flat_map, Bool, true, false, not, Option, Some, None, IfSome, if◌then◌else◌, refl}
use Rattle.std.specs.Prelude.{All}
use Rattle.std.proofs.lemmas.List.Elements.{All-append, All-cons, All-filter, All-head, All-map, All-nil, All-tail, All-weaker}
use Rattle.sig_event.specs.declared.news.News.{News}
use Rattle.sig_terms.specs.declared.call.Call.{Call}
use Rattle.sig_terms.specs.declared.call.Call.TheVariants.{Metadata, Create, ReadAll, Read, Patch, Put, Delete, GetStatus, SetStatus, Add, Remove, Verify, Poll, Publish, OperatorStatus, OperatorDelete, Streams, Refused, Figures, Deliver, Hand, Settle}
use Rattle.sig_terms.specs.declared.fact.Fact.{Fact}
use Rattle.sig_terms.specs.declared.rules.Client.{Client}
use Rattle.sig_terms.specs.declared.rules.Rules.{Rules}
use Rattle.sig_terms.specs.declared.want.Want.{Want}
use Rattle.sig_history.specs.Facts.{brought_by, made_by, parts_after, placed, removed_by, stream_after, tells, time_of, token_by, token_for, tokens_of, without}
use Rattle.sig_history.specs.Owed.{Sum, empty_sum, sum_of}
use Rattle.sig_history.specs.Streams.{Stream, client_in, created_by, is_before, is_named, put_in_order}
use Rattle.sig_history.proofs.StreamLemmas.{IsSameStream, after_same}
use Rattle.sig_calls.specs.Creating.{client_of}
use Rattle.sig_calls.specs.Proper.{IsProperRules}
use Rattle.sig_calls.specs.Table.{told_of}
use Rattle.sig_calls.specs.Told.{Told, outcome}
use Rattle.sig_call_laws.specs.Audience.{IsForClient, Timed, TokensAreForTheClient, facts_in, facts_of}
use Rattle.sig_call_laws.proofs.AuthorityLemmas.{client_name}
use Rattle.sig_call_laws.proofs.ChangeLemmas.{FactOf, change_is}

-- ---- streams

-- a stream with the rules' issuer, and the audience of the client that begins its name
record IsRight (rules : Rules) (s : Stream) : Type 0 where
  client : Client
  is : client_of (client_in s.conf.stream) rules.clients ≡ Some client
  aud : s.conf.aud ≡ client.aud
  iss : s.conf.iss ≡ rules.issuer

right_after : (rules : Rules) (f : Fact) (s : Stream) → IsRight rules s → IsRight rules (stream_after f s)
right_after rules f s right =
    let same : IsSameStream s (stream_after f s) = after_same f s in
    record {
      client = right.client;
      is = ap (λ n. client_of (client_in n) rules.clients) same.name ∙ right.is;
      aud = same.aud ∙ right.aud;
      iss = same.iss ∙ right.iss;
    }

right_put : (rules : Rules) (n : Stream) (ss : List Stream) → IsRight rules n → All (IsRight rules) ss → All (IsRight rules) (put_in_order n ss)
right_put rules n [] new all = All-cons (IsRight rules) n [] new all
right_put rules n (s ∷ ss) new all =
    elim (is_before s n) as (λ b. All (IsRight rules) (if b then s ∷ put_in_order n ss else n ∷ s ∷ ss)) [
      | true ↦ All-cons (IsRight rules) s (put_in_order n ss) (All-head (IsRight rules) s ss all) (right_put rules n ss new (All-tail (IsRight rules) s ss all))
      | false ↦ All-cons (IsRight rules) n (s ∷ ss) new all
    ]

right_placed : (rules : Rules) (o : Option Stream) (ss : List Stream) → IfSome o (IsRight rules) → All (IsRight rules) ss → All (IsRight rules) (placed o ss)
right_placed rules None ss new all = all
right_placed rules (Some n) ss new all = right_put rules n ss new all

right_without : (rules : Rules) (o : Option (List ℕ)) (ss : List Stream) → All (IsRight rules) ss → All (IsRight rules) (without o ss)
right_without rules None ss all = all
right_without rules (Some name) ss all = All-filter (λ s. not (is_named name s)) (IsRight rules) ss all

-- a fact that brings such a stream, if any
abbrev BringsRight : Rules → Sum → Fact → Type 0
BringsRight rules sum f = IfSome (brought_by sum.parts f) (IsRight rules)

streams_right : (rules : Rules) (sum : Sum) (f : Fact) → BringsRight rules sum f → All (IsRight rules) sum.parts.streams
    → All (IsRight rules) (parts_after sum.parts f).streams
streams_right rules sum f brings all =
    let after : List Stream = map (stream_after f) sum.parts.streams in
    right_placed rules (brought_by sum.parts f) (without (removed_by f) after) brings
    (right_without rules (removed_by f) after
    (All-map (IsRight rules) (stream_after f) sum.parts.streams
    (All-weaker (IsRight rules) (λ s. IsRight rules (stream_after f s)) (right_after rules f) sum.parts.streams all)))

-- ---- the fact of a call

none_brought : (rules : Rules) (sum : Sum) (f : Fact) → brought_by sum.parts f ≡ None → BringsRight rules sum f
none_brought rules sum f none = subst (λ o. IfSome o (IsRight rules)) (sym none) tt

new_right : (rules : Rules) (sum : Sum) (called : List ℕ) (want : Want) (now : ℕ) (f : Fact) → IsProperRules rules
    → FactOf rules sum (Create called want) now f → BringsRight rules sum f
new_right rules sum called want now f proper of =
    let (c, is, made) = of in
    subst (BringsRight rules sum) made (record {
      client = c;
      is = ap (λ n. client_of n rules.clients) (client_name rules called c (created_by c.name sum.parts.created + 1) proper is) ∙ is;
      aud = refl;
      iss = refl;
    })

fact_right : (rules : Rules) (sum : Sum) (call : Call) (now : ℕ) (f : Fact) → IsProperRules rules → FactOf rules sum call now f → BringsRight rules sum f
fact_right rules sum Metadata now f proper of = absurd of
fact_right rules sum (Create c want) now f proper of = new_right rules sum c want now f proper of
fact_right rules sum (ReadAll c) now f proper of = absurd of
fact_right rules sum (Read c stream) now f proper of = absurd of
fact_right rules sum (Patch c stream want) now f proper of = none_brought rules sum f of.on.brings
fact_right rules sum (Put c stream want) now f proper of = none_brought rules sum f of.on.brings
fact_right rules sum (Delete c stream) now f proper of = none_brought rules sum f of.on.brings
fact_right rules sum (GetStatus c stream) now f proper of = absurd of
fact_right rules sum (SetStatus c stream status reason) now f proper of = none_brought rules sum f of.on.brings
fact_right rules sum (Add c stream subject) now f proper of = none_brought rules sum f of.on.brings
fact_right rules sum (Remove c stream subject) now f proper of = none_brought rules sum f of.on.brings
fact_right rules sum (Verify c stream state) now f proper of = none_brought rules sum f of.on.brings
fact_right rules sum (Poll c stream ask) now f proper of = none_brought rules sum f of.on.brings
fact_right rules sum (Publish id news) now f proper of = subst (BringsRight rules sum) of tt
fact_right rules sum (OperatorStatus stream status reason) now f proper of = none_brought rules sum f of.brings
fact_right rules sum (OperatorDelete stream) now f proper of = none_brought rules sum f of.brings
fact_right rules sum (Streams from) now f proper of = absurd of
fact_right rules sum (Refused from) now f proper of = absurd of
fact_right rules sum Figures now f proper of = absurd of
fact_right rules sum (Deliver stream) now f proper of = absurd of
fact_right rules sum (Hand streams) now f proper of = absurd of
fact_right rules sum (Settle stream number outcome) now f proper of = none_brought rules sum f of.brings

-- ---- tokens

token_right : (rules : Rules) (sid : List ℕ) (time : ℕ) (s : Stream) (o : Option News) → IsRight rules s → All (IsForClient rules) (token_by sid time s o)
token_right rules sid time s None right = All-nil (IsForClient rules)
token_right rules sid time s (Some n) right =
    All-cons (IsForClient rules) _ [] (record { client = right.client; is = right.is; aud = right.aud; iss = right.iss }) (All-nil (IsForClient rules))

made_right : (rules : Rules) (sid : List ℕ) (f : Fact) (ss : List Stream) → All (IsRight rules) ss → All (IsForClient rules) (flat_map (token_for sid f) ss)
made_right rules sid f [] all = All-nil (IsForClient rules)
made_right rules sid f (s ∷ ss) all =
    All-append (IsForClient rules) (token_for sid f s) (flat_map (token_for sid f) ss)
    (token_right rules sid (time_of f) s (tells f s) (All-head (IsRight rules) s ss all)) (made_right rules sid f ss (All-tail (IsRight rules) s ss all))

-- ---- histories of calls

-- what holds of the tokens of later calls, over what any call came to, holds with that call too
call_right : (rules : Rules) (sum : Sum) (cs : List Timed) (t : Told) → IfSome t.change (BringsRight rules sum) → All (IsRight rules) sum.parts.streams
    → ((next : Sum) → All (IsRight rules) next.parts.streams → All (IsForClient rules) (tokens_of next.parts (facts_of rules next cs)))
    → All (IsForClient rules) (tokens_of sum.parts (facts_in (outcome t) ++ facts_of rules (sum_of sum (facts_in (outcome t))) cs))
call_right rules sum cs t brings all later = by t.over t.change brings
  where
    by : (over : Bool) (change : Option Fact) → IfSome change (BringsRight rules sum)
        → All (IsForClient rules) (tokens_of sum.parts (facts_in (outcome (record { answer = t.answer; change = change; over = over }))
        ++ facts_of rules (sum_of sum (facts_in (outcome (record { answer = t.answer; change = change; over = over })))) cs))
    by true change right = later (sum_of sum []) all
    by false None right = later (sum_of sum []) all
    by false (Some f) right =
        All-append (IsForClient rules) (made_by sum.parts f) (tokens_of (parts_after sum.parts f) (facts_of rules (sum_of sum (f ∷ [])) cs))
        (made_right rules sum.parts.store_id f sum.parts.streams all)
        (later (sum_of sum (f ∷ [])) (streams_right rules sum f right all))

change_right : (rules : Rules) (sum : Sum) (call : Call) (now : ℕ) (o : Option Fact) → IsProperRules rules → IfSome o (FactOf rules sum call now) → IfSome o (BringsRight rules sum)
change_right rules sum call now None proper of = tt
change_right rules sum call now (Some f) proper of = fact_right rules sum call now f proper of

calls_right : (rules : Rules) (sum : Sum) (cs : List Timed) → IsProperRules rules → All (IsRight rules) sum.parts.streams
    → All (IsForClient rules) (tokens_of sum.parts (facts_of rules sum cs))
calls_right rules sum [] proper all = All-nil (IsForClient rules)
calls_right rules sum (c ∷ cs) proper all =
    call_right rules sum cs (told_of rules sum c.call c.now)
    (change_right rules sum c.call c.now (told_of rules sum c.call c.now).change proper (change_is rules sum c.call c.now)) all
    (λ next right. calls_right rules next cs proper right)

pub tokens_for_client : TokensAreForTheClient
tokens_for_client rules store_id calls proper = calls_right rules (empty_sum store_id) calls proper (All-nil (IsRight rules))
