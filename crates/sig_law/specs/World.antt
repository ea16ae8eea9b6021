-- A transmitter and a receiver, the messages between them, and what a schedule makes of them.
use Rattle.std.specs.Option.{option_to_list}
use Rattle.std.specs.Prelude.{ℕ, List, [], ◌∷◌, ◌++◌, Bool, true, false, ◌&&◌, Option, Some, None, bytes_eq, nat_le, if◌then◌else◌}
use Rattle.std.specs.List.{list_any, list_all, slice_get}
use Rattle.sig_json.specs.declared.limits.TheConstants.{LAST_NUMBER}
use Rattle.sig_receiver.specs.declared.heard.Heard.{Heard}
use Rattle.sig_receiver.specs.declared.heard.Heard.TheVariants.{Accepted, Seen, NotTaken}
use Rattle.sig_set.specs.declared.trust.Trust.{Trust}
use Rattle.sig_set.specs.Spelled.{code_text}
use Rattle.sig_receiver.specs.Journal.{answer_to, journal_by}
use Rattle.sig_set.specs.Written.{token_text}
use Rattle.sig_terms.specs.declared.rules.Rules.{Rules}
use Rattle.sig_terms.specs.declared.token.Token.{Token}
use Rattle.sig_terms.specs.declared.call.Call.{Call}
use Rattle.sig_terms.specs.declared.call.Call.TheVariants.{Metadata, Create, ReadAll, Read, Patch, Put, Delete, GetStatus, SetStatus, Add, Remove, Verify, Poll, Publish, OperatorStatus, OperatorDelete, Streams, Refused, Figures, Deliver, Hand, Settle}
use Rattle.sig_terms.specs.declared.call.Outcome.{Outcome}
use Rattle.sig_terms.specs.declared.call.Outcome.TheVariants as outcome
use Rattle.sig_terms.specs.declared.call.PollAsk.{PollAsk}
use Rattle.sig_terms.specs.declared.call.Reported.{Reported}
use Rattle.sig_terms.specs.declared.fact.Fact.{Fact}
use Rattle.sig_history.specs.Owed.{Sum, empty_sum, sum_of}
use Rattle.sig_calls.specs.Table.{answer_of, change_of, over_top}
use Rattle.sig_calls.specs.Regular.{handed_by}
use Rattle.sig_calls.specs.Settling.{keeps}

-- what stays the same: the transmitter's rules and store, and whom the receiver trusts
pub record Ends : Type 0 where
  pub rules : Rules
  pub store_id : List ℕ
  pub trust : Trust

-- the receiver's answer to a message
pub record Reply : Type 0 where
  pub message : Token
  pub heard : Heard

-- the transmitter's facts, the receiver's journal, the messages ever handed out, the answers to them, and the time
pub record World : Type 0 where
  pub facts : List Fact
  pub journal : List (List ℕ)
  pub messages : List Token
  pub replies : List Reply
  pub time : ℕ

-- before anything happens
abbrev pub new_world : World
new_world = record { facts = []; journal = []; messages = []; replies = []; time = 0 }

-- what one end does: a call at the transmitter; a message that reaches the receiver; an answer that reaches the transmitter.
-- Messages and answers are named by their places, from 0
pub data Act : Type 0 where
  Called : Call → Act
  Delivered : ℕ → Act
  Answered : ℕ → Act

-- what happens: an end acts, and its answer is told; an end crashes while it acts, before anything is told, and what it was
-- about to keep stands in its store afterwards (`true`) or doesn't; or it is another time
pub data Event : Type 0 where
  Acts : Act → Event
  Crashed : Act → Bool → Event
  Elapsed : ℕ → Event

-- the receiver has the token
abbrev pub is_taken : Heard → Bool
is_taken Accepted = true
is_taken Seen = true
is_taken (NotTaken code spot) = false

-- the receiver refused the token with this code
abbrev pub is_refused_as : List ℕ → Heard → Bool
is_refused_as code Accepted = false
is_refused_as code Seen = false
is_refused_as code (NotTaken c spot) = bytes_eq (code_text c) code

-- a message of this identifier was answered so
abbrev pub was_answered : (Heard → Bool) → List ℕ → List Reply → Bool
was_answered test jti replies = list_any (λ (r : Reply). bytes_eq r.message.claims.jti jti && test r.heard) replies

-- a poll tells only what the receiver answered
abbrev pub tells_answers : List Reply → PollAsk → Bool
tells_answers replies ask =
    list_all (λ jti. was_answered is_taken jti replies) ask.acks
    && list_all (λ (e : Reported). was_answered (is_refused_as e.code) e.jti replies) ask.errors

-- a call that may come: no answer but by a poll that tells only what the receiver answered
abbrev pub may_come : List Reply → Call → Bool
may_come replies Metadata = true
may_come replies (Create client want) = true
may_come replies (ReadAll client) = true
may_come replies (Read client stream) = true
may_come replies (Patch client stream want) = true
may_come replies (Put client stream want) = true
may_come replies (Delete client stream) = true
may_come replies (GetStatus client stream) = true
may_come replies (SetStatus client stream status reason) = true
may_come replies (Add client stream subject) = true
may_come replies (Remove client stream subject) = true
may_come replies (Verify client stream state) = true
may_come replies (Poll client stream ask) = tells_answers replies ask
may_come replies (Publish id news) = true
may_come replies (OperatorStatus stream status reason) = true
may_come replies (OperatorDelete stream) = true
may_come replies (Streams from) = true
may_come replies (Refused from) = true
may_come replies Figures = true
may_come replies (Deliver stream) = true
may_come replies (Hand streams) = true
may_come replies (Settle stream number outcome) = false

-- what the facts come to over the transmitter's new store
abbrev pub sum_in : Ends → World → Sum
sum_in ends world = sum_of (empty_sum ends.store_id) world.facts

-- the receiver's answer to a message: its signed text comes with its issuer as principal, and under no name
abbrev pub heard_of : Ends → World → Token → Heard
heard_of ends world m =
    answer_to ends.trust [] (Some m.claims.iss) None world.journal (token_text m.claims ends.rules.key)

-- what an answer says of its token: a refusal of the bearer settles nothing (own)
abbrev pub refusal_outcome : List ℕ → Outcome
refusal_outcome code = if keeps code then outcome.Keep else outcome.Reported code

abbrev pub outcome_of : Heard → Outcome
outcome_of Accepted = outcome.Accepted
outcome_of Seen = outcome.Accepted
outcome_of (NotTaken code spot) = refusal_outcome (code_text code)

-- the call that brings an answer to the transmitter
abbrev pub settle_call : Reply → Call
settle_call r = Settle r.message.stream r.message.number (outcome_of r.heard)

-- ---- what is kept of an act, and what is told

abbrev pub with_facts : World → List Fact → World
with_facts world facts = record {
  facts = facts;
  journal = world.journal;
  messages = world.messages;
  replies = world.replies;
  time = world.time;
}

abbrev pub with_journal : World → List (List ℕ) → World
with_journal world journal = record {
  facts = world.facts;
  journal = journal;
  messages = world.messages;
  replies = world.replies;
  time = world.time;
}

abbrev pub with_messages : World → List Token → World
with_messages world messages = record {
  facts = world.facts;
  journal = world.journal;
  messages = messages;
  replies = world.replies;
  time = world.time;
}

abbrev pub with_replies : World → List Reply → World
with_replies world replies = record {
  facts = world.facts;
  journal = world.journal;
  messages = world.messages;
  replies = replies;
  time = world.time;
}

-- a call keeps its fact; one for which there is no number left changes nothing
abbrev pub call_recorded : Ends → Call → World → World
call_recorded ends call world =
    if over_top ends.rules (sum_in ends world) call world.time then world
    else with_facts world (world.facts ++ option_to_list (change_of ends.rules (sum_in ends world) call world.time))

-- and its answer hands out messages, by the world before it
abbrev pub call_told : Ends → Call → World → World → World
call_told ends call before after =
    if over_top ends.rules (sum_in ends before) call before.time then after
    else with_messages after (after.messages ++ handed_by (answer_of ends.rules (sum_in ends before) call before.time))

-- a message that reaches the receiver is kept where it is accepted
abbrev pub delivery_recorded : Ends → Option Token → World → World
delivery_recorded ends None world = world
delivery_recorded ends (Some m) world =
    with_journal world (journal_by (heard_of ends world m) world.journal (token_text m.claims ends.rules.key))

-- and is answered, by the world before it
abbrev pub delivery_told : Ends → Option Token → World → World → World
delivery_told ends None before after = after
delivery_told ends (Some m) before after =
    with_replies after (after.replies ++ record { message = m; heard = heard_of ends before m } ∷ [])

abbrev pub answer_recorded : Ends → Option Reply → World → World
answer_recorded ends None world = world
answer_recorded ends (Some r) world = call_recorded ends (settle_call r) world

abbrev pub answer_told : Ends → Option Reply → World → World → World
answer_told ends None before after = after
answer_told ends (Some r) before after = call_told ends (settle_call r) before after

-- what an act keeps: history or journal alone. A call that can't come leaves the world as it is
abbrev pub recorded : Ends → Act → World → World
recorded ends (Called call) world = if may_come world.replies call then call_recorded ends call world else world
recorded ends (Delivered place) world = delivery_recorded ends (slice_get world.messages place) world
recorded ends (Answered place) world = answer_recorded ends (slice_get world.replies place) world

-- what it tells, by the world before it: messages and answers alone
abbrev pub told : Ends → Act → World → World → World
told ends (Called call) before after = if may_come before.replies call then call_told ends call before after else after
told ends (Delivered place) before after = delivery_told ends (slice_get before.messages place) before after
told ends (Answered place) before after = answer_told ends (slice_get before.replies place) before after

-- another time
abbrev pub at_time : World → ℕ → World
at_time world time = record {
  facts = world.facts;
  journal = world.journal;
  messages = world.messages;
  replies = world.replies;
  time = time;
}

-- what an event makes of the world
abbrev pub happens : Ends → World → Event → World
happens ends world (Acts act) = told ends act world (recorded ends act world)
happens ends world (Crashed act true) = recorded ends act world
happens ends world (Crashed act false) = world
happens ends world (Elapsed time) = if nat_le time LAST_NUMBER then at_time world time else world

-- what a schedule makes of it, event by event
abbrev pub run : Ends → World → List Event → World
run ends world [] = world
run ends world (e ∷ es) = run ends (happens ends world e) es
