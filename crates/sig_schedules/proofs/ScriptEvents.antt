-- The world of a script is what a schedule of its lines makes.
use Rattle.std.proofs.Common.{◌≡◌, ◌∙◌, ap, sym, ℕ, zero, suc, ◌+◌, List, [], ◌∷◌, ◌++◌, Bool, true, false, Option, Some, None, refl}
use Rattle.std.specs.Prelude.{◌≤◌, ◌&&◌, IfSome, is_none, is_some, if◌then◌else◌}
use Rattle.std.specs.List.{list_all, slice_get}
use Rattle.std.proofs.lemmas.Bool.{le-leb}
use Rattle.sig_json.specs.declared.limits.TheConstants.{LAST_NUMBER}
use Rattle.sig_terms.specs.declared.call.Call.{Call}
use Rattle.sig_terms.specs.declared.call.Call.TheVariants as call
use Rattle.sig_terms.specs.declared.call.PollAsk.{PollAsk}
use Rattle.sig_terms.specs.declared.call.Reported.{Reported}
use Rattle.sig_terms.specs.declared.fact.Fact.{Fact}
use Rattle.sig_terms.specs.declared.token.Token.{Token}
use Rattle.sig_journal.specs.Added.{rests_with_it}
use Rattle.sig_receiver.specs.Receiver.{is_accepted}
use Rattle.sig_command.specs.declared.stop.Stop.{Stop}
use Rattle.sig_command.specs.declared.stop.Stop.TheVariants.{Line, Full}
use Rattle.sig_law.specs.World.{Ends, World, Reply, Act, Event, Acts, Crashed, Called, Delivered, Answered, Elapsed, answer_recorded, answer_told, at_time, call_recorded, call_told, delivery_recorded, delivery_told, happens, heard_of, is_refused_as, is_taken, may_come, new_world, recorded, run, settle_call, tells_answers, was_answered}
use Rattle.sig_script.specs.Laws.{IsProperLine, IsProperScriptAct, LinesAreProper, TellsNothing}
use Rattle.sig_script.specs.Script.{script_line_of}
use Rattle.sig_script.specs.declared.script.ScriptAct.{ScriptAct}
use Rattle.sig_script.specs.declared.script.ScriptAct.TheVariants as act
use Rattle.sig_script.specs.declared.script.ScriptLine.{ScriptLine}
use Rattle.sig_script.specs.declared.script.ScriptLine.TheVariants as line
use Rattle.sig_script.specs.declared.script_node.ScriptNode.{ScriptNode}
use Rattle.sig_script.specs.declared.script_node.ScriptNode.TheVariants as node
use Rattle.sig_schedules.specs.Replay.{Played, answered_call, call_need, called, counted_at, crashed, delivery_need, fact_of, heard_delivery, played, played_act, played_answer, played_call, played_delivery, played_found, played_line, replay_ends, script_world, stopped_act, stopped_answer, stopped_delivery, stopped_fact, stopped_message, unless_full}
use Rattle.sig_schedules.specs.ReplayLaws.{world-goes, world-stops}
use Rattle.sig_schedules.specs.Schedules.{ScriptsAreSchedules, acting, crashing, events_found, events_of, keeps_answer, keeps_at, keeps_message, schedule_from}

-- ---- schedules

run_join : (ends : Ends) (w : World) (first second : List Event) → run ends w (first ++ second) ≡ run ends (run ends w first) second
run_join ends w [] second = refl
run_join ends w (e ∷ first) second = run_join ends (happens ends w e) first second

-- ---- a line that doesn't stop the script

none_some : {P : Type 0} (s : Stop) → (let o : Option Stop = Some s in o ≡ None) → P
none_some s h = cc h

-- a line that only a number stops
unless_world : (o : Option ℕ) (w : World) (goes : Played) → (unless_full o w goes).stop ≡ None → (unless_full o w goes).world ≡ goes.world
unless_world None w goes h = refl
unless_world (Some n) w goes h = none_some (Full n) h

-- a call that may come, or that an answer brings
call_world : (number : ℕ) (w : World) (c : Call) → (played_call number w c).stop ≡ None → (played_call number w c).world ≡ called w c
call_world number w c h = unless_world (call_need w c) w (answered_call number w c) h

-- it may come: it tells the transmitter no answer
may_poll : (replies : List Reply) (ask : PollAsk) → ask.acks ≡ [] → ask.errors ≡ [] → tells_answers replies ask ≡ true
may_poll replies ask acks errors =
    ap (λ names. list_all (λ jti. was_answered is_taken jti replies) names && list_all (λ (e : Reported). was_answered (is_refused_as e.code) e.jti replies) ask.errors) acks
    ∙ ap (λ reports. true && list_all (λ (e : Reported). was_answered (is_refused_as e.code) e.jti replies) reports) errors

may_tell_nothing : (replies : List Reply) (c : Call) → TellsNothing c → may_come replies c ≡ true
may_tell_nothing replies call.Metadata tells = refl
may_tell_nothing replies (call.Create client want) tells = refl
may_tell_nothing replies (call.ReadAll client) tells = refl
may_tell_nothing replies (call.Read client stream) tells = refl
may_tell_nothing replies (call.Patch client stream want) tells = refl
may_tell_nothing replies (call.Put client stream want) tells = refl
may_tell_nothing replies (call.Delete client stream) tells = refl
may_tell_nothing replies (call.GetStatus client stream) tells = refl
may_tell_nothing replies (call.SetStatus client stream status reason) tells = refl
may_tell_nothing replies (call.Add client stream subject) tells = refl
may_tell_nothing replies (call.Remove client stream subject) tells = refl
may_tell_nothing replies (call.Verify client stream state) tells = refl
may_tell_nothing replies (call.Poll client stream ask) tells = may_poll replies ask tells.0 tells.1
may_tell_nothing replies (call.Publish id news) tells = refl
may_tell_nothing replies (call.OperatorStatus stream status reason) tells = refl
may_tell_nothing replies (call.OperatorDelete stream) tells = refl
may_tell_nothing replies (call.Streams from) tells = refl
may_tell_nothing replies (call.Refused from) tells = refl
may_tell_nothing replies call.Figures tells = refl
may_tell_nothing replies (call.Deliver stream) tells = refl
may_tell_nothing replies (call.Hand streams) tells = refl
may_tell_nothing replies (call.Settle stream number outcome) tells = absurd tells

-- a call, where it may come
abbrev recorded_where : Bool → World → Call → World
recorded_where may w c = if may then call_recorded replay_ends c w else w

abbrev called_where : Bool → World → Call → World
called_where may w c = if may then call_told replay_ends c w (recorded_where may w c) else recorded_where may w c

call_happens : (w : World) (c : Call) → TellsNothing c → called w c ≡ happens replay_ends w (Acts (Called c))
call_happens w c tells = sym (ap (λ may. called_where may w c) (may_tell_nothing w.replies c tells))

-- a time that there may be
time_happens : (w : World) (time : ℕ) → time ≤ LAST_NUMBER → at_time w time ≡ happens replay_ends w (Elapsed time)
time_happens w time within = sym (ap (λ b. if b then at_time w time else w) (le-leb time LAST_NUMBER within))

delivery_world : (number : ℕ) (w : World) (place : ℕ) → (played_delivery number w (counted_at place w.messages)).stop ≡ None
    → (played_delivery number w (counted_at place w.messages)).world ≡ run replay_ends w (acting (act.Deliver place))
delivery_world number w zero h = none_some (Line number) h
delivery_world number w (suc place) h = at (slice_get w.messages place) refl h
  where
    at : (o : Option Token) → slice_get w.messages place ≡ o → (played_delivery number w o).stop ≡ None
        → (played_delivery number w o).world ≡ happens replay_ends w (Acts (Delivered place))
    at None is h = none_some (Line number) h
    at (Some m) is h =
        unless_world (delivery_need w m) w (heard_delivery number w m) h
        ∙ sym (ap (λ o. delivery_told replay_ends o w (delivery_recorded replay_ends o w)) is)

answer_world : (number : ℕ) (w : World) (place : ℕ) → (played_answer number w (counted_at place w.replies)).stop ≡ None
    → (played_answer number w (counted_at place w.replies)).world ≡ run replay_ends w (acting (act.Answer place))
answer_world number w zero h = none_some (Line number) h
answer_world number w (suc place) h = at (slice_get w.replies place) refl h
  where
    at : (o : Option Reply) → slice_get w.replies place ≡ o → (played_answer number w o).stop ≡ None
        → (played_answer number w o).world ≡ happens replay_ends w (Acts (Answered place))
    at None is h = none_some (Line number) h
    at (Some r) is h = call_world number w (settle_call r) h ∙ sym (ap (λ o. answer_told replay_ends o w (answer_recorded replay_ends o w)) is)

act_world : (number : ℕ) (w : World) (a : ScriptAct) → IsProperScriptAct a → (played_act number w a).stop ≡ None
    → (played_act number w a).world ≡ run replay_ends w (acting a)
act_world number w (act.Call c) proper h = call_world number w c h ∙ call_happens w c proper.1
act_world number w (act.Deliver place) proper h = delivery_world number w place h
act_world number w (act.Answer place) proper h = answer_world number w place h

-- ---- a crash while an end acts

crash_if : (kept : Bool) (w : World) (x : Act) (recorded_by : World) → recorded replay_ends x w ≡ recorded_by
    → (if kept then recorded_by else w) ≡ happens replay_ends w (Crashed x kept)
crash_if true w x recorded_by is = sym is
crash_if false w x recorded_by is = refl

call_records : (w : World) (c : Call) → TellsNothing c → recorded replay_ends (Called c) w ≡ call_recorded replay_ends c w
call_records w c tells = ap (λ may. recorded_where may w c) (may_tell_nothing w.replies c tells)

stopped_call_world : (number : ℕ) (w : World) (c : Call) (kept : Bool) (o : Option Fact) → TellsNothing c → (stopped_fact number w c kept o).stop ≡ None
    → (stopped_fact number w c kept o).world ≡ run replay_ends w (if is_some o then crashing kept (act.Call c) else acting (act.Call c))
stopped_call_world number w c kept None tells h = call_world number w c h ∙ call_happens w c tells
stopped_call_world number w c kept (Some f) tells h =
    unless_world (call_need w c) w (crashed number kept w (call_recorded replay_ends c w)) h
    ∙ crash_if kept w (Called c) (call_recorded replay_ends c w) (call_records w c tells)

stopped_answer_world : (number : ℕ) (w : World) (place : ℕ) (kept : Bool) → (stopped_answer number w (counted_at place w.replies) kept).stop ≡ None
    → (stopped_answer number w (counted_at place w.replies) kept).world
    ≡ run replay_ends w (if keeps_answer w (counted_at place w.replies) then crashing kept (act.Answer place) else acting (act.Answer place))
stopped_answer_world number w zero kept h = none_some (Line number) h
stopped_answer_world number w (suc place) kept h = at (slice_get w.replies place) refl h
  where
    by_fact : (r : Reply) (o : Option Fact) → slice_get w.replies place ≡ Some r → (stopped_fact number w (settle_call r) kept o).stop ≡ None
        → (stopped_fact number w (settle_call r) kept o).world
        ≡ run replay_ends w (if is_some o then crashing kept (act.Answer (suc place)) else acting (act.Answer (suc place)))
    by_fact r None is h = call_world number w (settle_call r) h ∙ sym (ap (λ o. answer_told replay_ends o w (answer_recorded replay_ends o w)) is)
    by_fact r (Some f) is h =
        unless_world (call_need w (settle_call r)) w (crashed number kept w (call_recorded replay_ends (settle_call r) w)) h
        ∙ crash_if kept w (Answered place) (call_recorded replay_ends (settle_call r) w) (ap (λ o. answer_recorded replay_ends o w) is)

    at : (o : Option Reply) → slice_get w.replies place ≡ o → (stopped_answer number w o kept).stop ≡ None
        → (stopped_answer number w o kept).world
        ≡ run replay_ends w (if keeps_answer w o then crashing kept (act.Answer (suc place)) else acting (act.Answer (suc place)))
    at None is h = none_some (Line number) h
    at (Some r) is h = by_fact r (fact_of w (settle_call r)) is h

stopped_delivery_world : (number : ℕ) (w : World) (place : ℕ) (kept : Bool) → (stopped_delivery number w (counted_at place w.messages) kept).stop ≡ None
    → (stopped_delivery number w (counted_at place w.messages) kept).world
    ≡ run replay_ends w (if keeps_message w (counted_at place w.messages) then crashing kept (act.Deliver place) else acting (act.Deliver place))
stopped_delivery_world number w zero kept h = none_some (Line number) h
stopped_delivery_world number w (suc place) kept h = at (slice_get w.messages place) refl h
  where
    by_test : (m : Token) (t : Bool) → slice_get w.messages place ≡ Some m → (stopped_message number w m kept t).stop ≡ None
        → (stopped_message number w m kept t).world
        ≡ run replay_ends w (if t then crashing kept (act.Deliver (suc place)) else acting (act.Deliver (suc place)))
    by_test m true is h =
        unless_world (delivery_need w m) w (crashed number kept w (delivery_recorded replay_ends (Some m) w)) h
        ∙ crash_if kept w (Delivered place) (delivery_recorded replay_ends (Some m) w) (ap (λ o. delivery_recorded replay_ends o w) is)
    by_test m false is h =
        unless_world (delivery_need w m) w (heard_delivery number w m) h
        ∙ sym (ap (λ o. delivery_told replay_ends o w (delivery_recorded replay_ends o w)) is)

    at : (o : Option Token) → slice_get w.messages place ≡ o → (stopped_delivery number w o kept).stop ≡ None
        → (stopped_delivery number w o kept).world
        ≡ run replay_ends w (if keeps_message w o then crashing kept (act.Deliver (suc place)) else acting (act.Deliver (suc place)))
    at None is h = none_some (Line number) h
    at (Some m) is h = by_test m (is_accepted (heard_of replay_ends w m)) is h

stopped_world : (number : ℕ) (w : World) (end : ScriptNode) (kept : Bool) (a : ScriptAct) → IsProperScriptAct a → (stopped_act number w end kept a).stop ≡ None
    → (stopped_act number w end kept a).world ≡ run replay_ends w (if keeps_at end w a then crashing kept a else acting a)
stopped_world number w node.Tx kept (act.Call c) proper h = stopped_call_world number w c kept (fact_of w c) proper.1 h
stopped_world number w node.Tx kept (act.Deliver place) proper h = delivery_world number w place h
stopped_world number w node.Tx kept (act.Answer place) proper h = stopped_answer_world number w place kept h
stopped_world number w node.Rx kept (act.Call c) proper h = act_world number w (act.Call c) proper h
stopped_world number w node.Rx kept (act.Deliver place) proper h = stopped_delivery_world number w place kept h
stopped_world number w node.Rx kept (act.Answer place) proper h = answer_world number w place h

line_world : (number : ℕ) (w : World) (l : ScriptLine) → IsProperLine l → (played_line number w l).stop ≡ None
    → (played_line number w l).world ≡ run replay_ends w (events_of w l)
line_world number w line.Skipped proper h = refl
line_world number w (line.Time time) proper h = time_happens w time proper
line_world number w (line.Act a) proper h = act_world number w a proper h
line_world number w (line.Check subject) proper h = refl
line_world number w (line.Stop end calls fill a) proper h = stopped_world number w end (rests_with_it calls fill) a proper.1 h
line_world number w (line.Crash end) proper h = refl

found_world : (number : ℕ) (w : World) (o : Option ScriptLine) → IfSome o IsProperLine → (played_found number w o).stop ≡ None
    → (played_found number w o).world ≡ run replay_ends w (events_found w o)
found_world number w None proper h = none_some (Line number) h
found_world number w (Some l) proper h = line_world number w l proper h

-- ---- lines

pub schedule_goes : (n : ℕ) (w : World) (l : List ℕ) (ls : List (List ℕ)) → (played n w l).stop ≡ None
    → schedule_from n w (l ∷ ls) ≡ events_found w (script_line_of l) ++ schedule_from (n + 1) (played n w l).world ls
schedule_goes n w l ls e =
    ap (λ (o : Option Stop). if is_none o then events_found w (script_line_of l) ++ schedule_from (n + 1) (played n w l).world ls else []) e

pub schedule_stops : (n : ℕ) (w : World) (l : List ℕ) (ls : List (List ℕ)) (s : Stop) → (played n w l).stop ≡ Some s → schedule_from n w (l ∷ ls) ≡ []
schedule_stops n w l ls s e =
    ap (λ (o : Option Stop). if is_none o then events_found w (script_line_of l) ++ schedule_from (n + 1) (played n w l).world ls else []) e

from_line : LinesAreProper → (n : ℕ) (w : World) (ls : List (List ℕ)) → script_world n w ls ≡ run replay_ends w (schedule_from n w ls)
from_line proper n w [] = refl
from_line proper n w (l ∷ ls) = by_stop (played n w l).stop refl (from_line proper (n + 1) (played n w l).world ls)
  where
    by_stop : (o : Option Stop) → (played n w l).stop ≡ o
        → script_world (n + 1) (played n w l).world ls ≡ run replay_ends (played n w l).world (schedule_from (n + 1) (played n w l).world ls)
        → script_world n w (l ∷ ls) ≡ run replay_ends w (schedule_from n w (l ∷ ls))
    by_stop None e later =
        world-goes n w l ls e ∙ later
        ∙ ap (λ v. run replay_ends v (schedule_from (n + 1) (played n w l).world ls)) (found_world n w (script_line_of l) (proper l) e)
        ∙ sym (run_join replay_ends w (events_found w (script_line_of l)) (schedule_from (n + 1) (played n w l).world ls))
        ∙ ap (run replay_ends w) (sym (schedule_goes n w l ls e))
    by_stop (Some s) e later = world-stops n w l ls s e ∙ ap (run replay_ends w) (sym (schedule_stops n w l ls s e))

pub scripts_are_schedules : LinesAreProper → ScriptsAreSchedules
scripts_are_schedules proper lines = from_line proper 1 new_world lines
