-- What a script prints: both ends run under its lines, one after another, over new stores; the time is 0 at first.
use Rattle.std.specs.Prelude.{ℕ, zero, suc, List, [], ◌∷◌, ◌++◌, ◌+◌, Bool, true, false, Option, Some, None, is_none, codes, decimal, length, map, option_map, unwrap_or, if◌then◌else◌}
use Rattle.std.specs.List.{slice_get}
use Rattle.sig_json.specs.declared.limits.TheConstants.{LAST_NUMBER}
use Rattle.sig_jws.specs.declared.key.Key.{Key}
use Rattle.sig_subject.specs.declared.subject.Subject.{Subject}
use Rattle.sig_event.specs.Status.{status_text}
use Rattle.sig_sessions.specs.declared.row.Row.{Row}
use Rattle.sig_sessions.specs.Verdicts.{verdict_of}
use Rattle.sig_receiver.specs.declared.heard.Heard.{Heard}
use Rattle.sig_receiver.specs.declared.heard.Heard.TheVariants.{Accepted, Seen, NotTaken}
use Rattle.sig_set.specs.declared.trust.Trust.{Trust}
use Rattle.sig_receiver.specs.Journal.{distinct}
use Rattle.sig_receiver.specs.Printed.{table_text, yes_or_no}
use Rattle.sig_set.specs.Spelled.{code_text, spot_text}
use Rattle.sig_receiver.specs.Rows.{fold_rows}
use Rattle.sig_terms.specs.declared.want.Defaults.TheVariants as defaults
use Rattle.sig_terms.specs.declared.rules.Client.{Client}
use Rattle.sig_terms.specs.declared.rules.Rules.{Rules}
use Rattle.sig_terms.specs.declared.token.Token.{Token}
use Rattle.sig_terms.specs.declared.token.Issued.{Issued}
use Rattle.sig_terms.specs.declared.call.Call.{Call}
use Rattle.sig_terms.specs.declared.answer.Answer.{Answer}
use Rattle.sig_terms.specs.declared.answer.Answer.TheVariants as answer
use Rattle.sig_terms.specs.declared.fact.Fact.{Fact}
use Rattle.sig_history.specs.Streams.{Stream}
use Rattle.sig_history.specs.Owed.{Sum, owed_count, sum_of}
use Rattle.sig_calls.specs.Table.{answer_of, change_of, over_top}
use Rattle.sig_entry.specs.Facts.{spelling_of}
use Rattle.sig_entry.specs.Tokens.{token_spelling}
use Rattle.sig_journal.specs.Added.{rests_with_it}
use Rattle.sig_receiver.specs.Receiver.{is_accepted}
use Rattle.sig_set.specs.Written.{token_text}
use Rattle.sig_still.specs.Stores.{end_at, past_end}
use Rattle.sig_command.specs.declared.stop.Stop.{Stop}
use Rattle.sig_command.specs.declared.stop.Stop.TheVariants as stop
use Rattle.sig_command.specs.Telling.{Telling}
use Rattle.sig_law.specs.World.{Ends, World, Reply, new_world, at_time, call_recorded, call_told, delivery_recorded, delivery_told, sum_in, heard_of, settle_call}
use Rattle.sig_script.specs.Script.{script_line_of}
use Rattle.sig_script.specs.declared.script.ScriptAct.{ScriptAct}
use Rattle.sig_script.specs.declared.script.ScriptAct.TheVariants as act
use Rattle.sig_script.specs.declared.script.ScriptLine.{ScriptLine}
use Rattle.sig_script.specs.declared.script.ScriptLine.TheVariants as line
use Rattle.sig_script.specs.declared.script_node.ScriptNode.{ScriptNode}
use Rattle.sig_script.specs.declared.script_node.ScriptNode.TheVariants as node

-- ---- both ends

-- a client of this name, whose tokens are for the receiver
abbrev pub client_named : List ℕ → Client
client_named name = record { name = name; bearer = name; aud = codes "https://rp.example" ∷ [] }

-- the transmitter's key
abbrev pub replay_key : Key
replay_key = record { kid = Some (codes "k1"); bytes = codes "0123456789abcdef0123456789abcdef" }

abbrev pub replay_clients : List Client
replay_clients = client_named (codes "acme") ∷ client_named (codes "zeta") ∷ []

-- its rules
abbrev pub replay_rules : Rules
replay_rules = record {
  issuer = codes "https://idp.example";
  base = codes "http://tx.example";
  defaults = defaults.All;
  interval = 60;
  gateway = None;
  operator = codes "operator";
  clients = replay_clients;
  key = replay_key;
}

-- whom the receiver trusts
abbrev pub replay_trust : Trust
replay_trust = record {
  audience = codes "https://rp.example";
  issuers = record { iss = codes "https://idp.example"; keys = replay_key ∷ []; public_keys = [] } ∷ [];
}

-- the transmitter's store: 6ba7b810-9dad-11d1-80b4-00c04fd430c8
abbrev pub replay_store : List ℕ
replay_store =
    0x6b ∷ 0xa7 ∷ 0xb8 ∷ 0x10 ∷ 0x9d ∷ 0xad ∷ 0x11 ∷ 0xd1 ∷ 0x80 ∷ 0xb4 ∷ 0x00 ∷ 0xc0 ∷ 0x4f ∷ 0xd4 ∷ 0x30 ∷ 0xc8 ∷ []

-- the receiver's: 6ba7b811-9dad-11d1-80b4-00c04fd430c8
abbrev pub receiver_store : List ℕ
receiver_store =
    0x6b ∷ 0xa7 ∷ 0xb8 ∷ 0x11 ∷ 0x9d ∷ 0xad ∷ 0x11 ∷ 0xd1 ∷ 0x80 ∷ 0xb4 ∷ 0x00 ∷ 0xc0 ∷ 0x4f ∷ 0xd4 ∷ 0x30 ∷ 0xc8 ∷ []

abbrev pub replay_ends : Ends
replay_ends = record { rules = replay_rules; store_id = replay_store; trust = replay_trust }

-- ---- what lines find

-- what stands at a place that is counted from 1
abbrev pub counted_at : {T : Type 0} → ℕ → List T → Option T
counted_at zero xs = None
counted_at (suc place) xs = slice_get xs place

-- what a history comes to with one more fact, where there is one
abbrev pub sum_after : Sum → Option Fact → Sum
sum_after sum None = sum
sum_after sum (Some f) = sum_of sum (f ∷ [])

-- ---- what is printed

-- a line that begins with the number of the script's line
abbrev pub numbered : ℕ → List ℕ → List ℕ
numbered number text = decimal number ++ codes " " ++ text ++ codes "\n"

-- a token by its stream and number
abbrev pub token_name : List ℕ → ℕ → List ℕ
token_name stream number = stream ++ codes "." ++ decimal number

-- the tokens that a publication made
abbrev pub issued_text : ℕ → List Issued → List ℕ
issued_text number [] = []
issued_text number (i ∷ more) = numbered number (codes "token " ++ token_name i.stream i.number) ++ issued_text number more

-- messages, counted from here on
abbrev pub messages_text : ℕ → ℕ → List Token → List ℕ
messages_text number place [] = []
messages_text number place (t ∷ more) =
    numbered number (codes "m" ++ decimal place ++ codes " " ++ token_name t.stream t.number)
    ++ messages_text number (place + 1) more

-- a notice that the operator's status made, where it made one
abbrev pub notice_text : Option ℕ → List ℕ
notice_text None = []
notice_text (Some number) = codes " token " ++ decimal number

-- a page of tokens for a poll, whose first message has this place
abbrev pub sets_text : ℕ → ℕ → List Token → Bool → List ℕ
sets_text number place tokens more =
    numbered number (codes "sets " ++ decimal (length tokens) ++ codes " more " ++ yes_or_no more) ++ messages_text number place tokens

-- tokens for a round of pushes, whose first message has this place
abbrev pub handed_text : ℕ → ℕ → List Token → List ℕ
handed_text number place tokens = numbered number (codes "handed " ++ decimal (length tokens)) ++ messages_text number place tokens

-- the transmitter's answer, after so many messages; no line makes a call that is answered by nothing printed
abbrev pub call_text : ℕ → ℕ → Answer → List ℕ
call_text number before answer.Meta = []
call_text number before (answer.Made conf) = numbered number (codes "made " ++ conf.stream)
call_text number before (answer.Conf conf) = numbered number (codes "conf " ++ conf.stream)
call_text number before (answer.Confs confs) = []
call_text number before answer.Gone = numbered number (codes "gone")
call_text number before (answer.State stream status reason token) =
    numbered number (codes "state " ++ stream ++ codes " " ++ status_text status ++ notice_text token)
call_text number before answer.Added = numbered number (codes "added")
call_text number before answer.Removed = numbered number (codes "removed")
call_text number before (answer.Asked stream made) = numbered number (codes "asked " ++ token_name stream made)
call_text number before (answer.Sets tokens more) = sets_text number (before + 1) tokens more
call_text number before (answer.Published store_id tokens) =
    numbered number (codes "published " ++ decimal (length tokens)) ++ issued_text number tokens
call_text number before (answer.Standings next standings) = []
call_text number before (answer.Refused next tokens) = []
call_text number before (answer.Figures publications standings) = []
call_text number before (answer.Delivering stream) = []
call_text number before (answer.Handed tokens) = handed_text number (before + 1) tokens
call_text number before (answer.Settled count) = numbered number (codes "settled " ++ decimal count)
call_text number before answer.NotFound = numbered number (codes "not-found")
call_text number before answer.TooMany = numbered number (codes "too-many")
call_text number before answer.Conflict = numbered number (codes "conflict")
call_text number before answer.Disabled = numbered number (codes "disabled")
call_text number before (answer.Early until) = numbered number (codes "early " ++ decimal until)
call_text number before (answer.Long size) = numbered number (codes "long " ++ decimal size)

-- the receiver's answer
abbrev pub heard_word : Heard → List ℕ
heard_word Accepted = codes "accepted"
heard_word Seen = codes "seen"
heard_word (NotTaken code spot) = codes "refused " ++ code_text code ++ codes " " ++ spot_text spot

-- the receiver's answer, after so many answers
abbrev pub heard_text : ℕ → ℕ → Heard → List ℕ
heard_text number before heard = numbered number (heard_word heard ++ codes " a" ++ decimal (before + 1))

-- what the session table says of a subject: whether it may go on
abbrev pub verdict_word : Bool → List ℕ
verdict_word true = codes "allow"
verdict_word false = codes "deny"

-- ---- a line

-- the session table
abbrev pub rows_in : World → List Row
rows_in world = fold_rows [] (distinct [] world.journal)

-- what a line does: it may stop the script; else it prints, and the world goes on
pub record Played : Type 0 where
  pub stop : Option Stop
  pub text : List ℕ
  pub world : World

-- the line is refused, and nothing happens
abbrev pub refused : ℕ → World → Played
refused number world = record { stop = Some (stop.Line number); text = []; world = world }

-- what a call at the transmitter makes of the world: its fact is recorded, and what its answer hands out is told
abbrev pub called : World → Call → World
called world c = call_told replay_ends c world (call_recorded replay_ends c world)

-- what a message that reaches the receiver makes of it
abbrev pub delivered : World → Token → World
delivered world m = delivery_told replay_ends (Some m) world (delivery_recorded replay_ends (Some m) world)

-- the fact that a call makes
abbrev pub fact_of : World → Call → Option Fact
fact_of world c = change_of replay_ends.rules (sum_in replay_ends world) c world.time

-- the number above LAST_NUMBER that a call would need: of a stream or a token, or the place where the transmitter's journal would end
abbrev pub call_need : World → Call → Option ℕ
call_need world c =
    if over_top replay_ends.rules (sum_in replay_ends world) c world.time then Some (LAST_NUMBER + 1)
    else past_end (end_at replay_store (map spelling_of world.facts)) (option_map spelling_of (fact_of world c))

-- the record of a text that is accepted
abbrev pub record_if : Bool → List ℕ → Option (List ℕ)
record_if accepted text = if accepted then Some (token_spelling text) else None

-- the place above LAST_NUMBER where the receiver's journal would end with a message
abbrev pub delivery_need : World → Token → Option ℕ
delivery_need world m =
    past_end (end_at receiver_store (map token_spelling world.journal)) (record_if (is_accepted (heard_of replay_ends world m)) (token_text m.claims replay_ends.rules.key))

-- a line goes on, unless a number would be too great: that stops the script
abbrev pub unless_full : Option ℕ → World → Played → Played
unless_full None world goes = goes
unless_full (Some n) world goes = record { stop = Some (stop.Full n); text = []; world = world }

-- a call at the transmitter
abbrev pub answered_call : ℕ → World → Call → Played
answered_call number world c = record {
  stop = None;
  text = call_text number (length world.messages) (answer_of replay_ends.rules (sum_in replay_ends world) c world.time);
  world = called world c;
}

abbrev pub played_call : ℕ → World → Call → Played
played_call number world c = unless_full (call_need world c) world (answered_call number world c)

-- a message reaches the receiver, where there is one
abbrev pub heard_delivery : ℕ → World → Token → Played
heard_delivery number world m = record {
  stop = None;
  text = heard_text number (length world.replies) (heard_of replay_ends world m);
  world = delivered world m;
}

abbrev pub played_delivery : ℕ → World → Option Token → Played
played_delivery number world None = refused number world
played_delivery number world (Some m) = unless_full (delivery_need world m) world (heard_delivery number world m)

-- an answer reaches the transmitter, where there is one
abbrev pub played_answer : ℕ → World → Option Reply → Played
played_answer number world None = refused number world
played_answer number world (Some r) = played_call number world (settle_call r)

-- an end acts
abbrev pub played_act : ℕ → World → ScriptAct → Played
played_act number world (act.Call c) = played_call number world c
played_act number world (act.Deliver place) = played_delivery number world (counted_at place world.messages)
played_act number world (act.Answer place) = played_answer number world (counted_at place world.replies)

-- it is another time
abbrev pub played_time : ℕ → World → ℕ → Played
played_time number world time = record {
  stop = None;
  text = numbered number (codes "time " ++ decimal time);
  world = at_time world time;
}

-- the receiver is asked about a subject
abbrev pub played_check : ℕ → World → Subject → Played
played_check number world s = record {
  stop = None;
  text = numbered number (verdict_word (verdict_of (rows_in world) s).allow);
  world = world;
}

-- ---- crashes

-- a node is loaded again
abbrev pub played_crash : ℕ → World → Played
played_crash number world = record { stop = None; text = numbered number (codes "loaded"); world = world }

-- whether what an end was about to keep stands in its store
abbrev pub kept_word : Bool → List ℕ
kept_word true = codes "kept"
kept_word false = codes "lost"

-- an end keeps something, or nothing, and tells nothing
abbrev pub crashed : ℕ → Bool → World → World → Played
crashed number kept world recorded = record { stop = None; text = numbered number (kept_word kept); world = if kept then recorded else world }

-- a call at the transmitter while its disk stands still: one that makes no fact makes no call of the disk
abbrev pub stopped_fact : ℕ → World → Call → Bool → Option Fact → Played
stopped_fact number world c kept None = played_call number world c
stopped_fact number world c kept (Some f) = unless_full (call_need world c) world (crashed number kept world (call_recorded replay_ends c world))

abbrev pub stopped_call : ℕ → World → Call → Bool → Played
stopped_call number world c kept = stopped_fact number world c kept (fact_of world c)

-- a message reaches the receiver while its disk stands still: one that isn't accepted makes no call of the disk
abbrev pub stopped_message : ℕ → World → Token → Bool → Bool → Played
stopped_message number world m kept accepted =
    if accepted then unless_full (delivery_need world m) world (crashed number kept world (delivery_recorded replay_ends (Some m) world))
    else played_delivery number world (Some m)

abbrev pub stopped_delivery : ℕ → World → Option Token → Bool → Played
stopped_delivery number world None kept = refused number world
stopped_delivery number world (Some m) kept = stopped_message number world m kept (is_accepted (heard_of replay_ends world m))

abbrev pub stopped_answer : ℕ → World → Option Reply → Bool → Played
stopped_answer number world None kept = refused number world
stopped_answer number world (Some r) kept = stopped_call number world (settle_call r) kept

-- an end acts while the disk of a node stands still; whether what is to be kept there is kept. Of the other node nothing is known
abbrev pub stopped_act : ℕ → World → ScriptNode → Bool → ScriptAct → Played
stopped_act number world node.Tx kept (act.Call c) = stopped_call number world c kept
stopped_act number world node.Tx kept (act.Deliver place) = played_delivery number world (counted_at place world.messages)
stopped_act number world node.Tx kept (act.Answer place) = stopped_answer number world (counted_at place world.replies) kept
stopped_act number world node.Rx kept (act.Call c) = played_call number world c
stopped_act number world node.Rx kept (act.Deliver place) = stopped_delivery number world (counted_at place world.messages) kept
stopped_act number world node.Rx kept (act.Answer place) = played_answer number world (counted_at place world.replies)

-- ---- a line of this number

abbrev pub played_line : ℕ → World → ScriptLine → Played
played_line number world line.Skipped = record { stop = None; text = []; world = world }
played_line number world (line.Time time) = played_time number world time
played_line number world (line.Act a) = played_act number world a
played_line number world (line.Check s) = played_check number world s
played_line number world (line.Stop node calls fill a) = stopped_act number world node (rests_with_it calls fill) a
played_line number world (line.Crash node) = played_crash number world

abbrev pub played_found : ℕ → World → Option ScriptLine → Played
played_found number world None = refused number world
played_found number world (Some l) = played_line number world l

-- the line that bytes are
abbrev pub played : ℕ → World → List ℕ → Played
played number world bytes = played_found number world (script_line_of bytes)

-- ---- lines

-- what lines print, numbered from here on, up to the first that stops the script
abbrev pub script_text : ℕ → World → List (List ℕ) → List ℕ
script_text number world [] = []
script_text number world (l ∷ ls) =
    if is_none (played number world l).stop
    then (played number world l).text ++ script_text (number + 1) (played number world l).world ls
    else []

-- why the first that stops the script does
abbrev pub script_stop : ℕ → World → List (List ℕ) → Option Stop
script_stop number world [] = None
script_stop number world (l ∷ ls) =
    if is_none (played number world l).stop then script_stop (number + 1) (played number world l).world ls
    else (played number world l).stop

-- the world after lines, or where they stop
abbrev pub script_world : ℕ → World → List (List ℕ) → World
script_world number world [] = world
script_world number world (l ∷ ls) =
    if is_none (played number world l).stop then script_world (number + 1) (played number world l).world ls
    else world

-- what a stream owes; one that doesn't stand owes nothing
abbrev pub owed_line : Sum → List ℕ → List ℕ
owed_line sum name = codes "owed " ++ name ++ codes " " ++ decimal (unwrap_or (owed_count sum name) 0) ++ codes "\n"

-- what each stream owes, in order of client name and number
abbrev pub owed_text : Sum → List Stream → List ℕ
owed_text sum [] = []
owed_text sum (s ∷ ss) = owed_line sum s.conf.stream ++ owed_text sum ss

-- what is printed at the end: the session table, and what is owed
abbrev pub end_text : World → List ℕ
end_text world =
    table_text (rows_in world) (length (distinct [] world.journal))
    ++ owed_text (sum_in replay_ends world) (sum_in replay_ends world).parts.streams

-- the script as a command over its lines
abbrev pub replay_telling : Telling
replay_telling = record {
  text = script_text 1 new_world;
  stop = script_stop 1 new_world;
  last = λ given. end_text (script_world 1 new_world given);
}
