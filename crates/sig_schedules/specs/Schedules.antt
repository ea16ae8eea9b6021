-- Scripts as schedules: what the lines of a script let happen, one event a line or none.
use Rattle.std.specs.Prelude.{◌≡◌, ℕ, zero, suc, List, [], ◌∷◌, ◌++◌, ◌+◌, map, Bool, false, Option, Some, None, is_none, is_some, if◌then◌else◌}
use Rattle.sig_terms.specs.declared.token.Token.{Token}
use Rattle.sig_receiver.specs.Receiver.{is_accepted}
use Rattle.sig_journal.specs.Added.{rests_with_it}
use Rattle.sig_law.specs.World.{World, Reply, Act, Event, Acts, Crashed, Elapsed, Called, Delivered, Answered, heard_of, new_world, run, settle_call}
use Rattle.sig_law.specs.Law.{IsLawful}
use Rattle.sig_script.specs.Script.{script_line_of}
use Rattle.sig_script.specs.declared.script.ScriptAct.{ScriptAct}
use Rattle.sig_script.specs.declared.script.ScriptAct.TheVariants as act
use Rattle.sig_script.specs.declared.script.ScriptLine.{ScriptLine}
use Rattle.sig_script.specs.declared.script.ScriptLine.TheVariants as line
use Rattle.sig_script.specs.declared.script_node.ScriptNode.{ScriptNode}
use Rattle.sig_script.specs.declared.script_node.ScriptNode.TheVariants as node
use Rattle.sig_schedules.specs.Replay.{counted_at, fact_of, played, replay_ends, script_world}

-- what an end does by a line; messages and answers are counted from 1
abbrev pub deliveries : ℕ → List Act
deliveries zero = []
deliveries (suc place) = Delivered place ∷ []

abbrev pub answers : ℕ → List Act
answers zero = []
answers (suc place) = Answered place ∷ []

abbrev pub acts_of : ScriptAct → List Act
acts_of (act.Call c) = Called c ∷ []
acts_of (act.Deliver place) = deliveries place
acts_of (act.Answer place) = answers place

-- it acts and tells; or it crashes meanwhile, and what it was to keep stands in its store or doesn't
abbrev pub acting : ScriptAct → List Event
acting a = map Acts (acts_of a)

abbrev pub crashing : Bool → ScriptAct → List Event
crashing kept a = map (λ x. Crashed x kept) (acts_of a)

-- whether an end that acts keeps something at a node
abbrev pub keeps_message : World → Option Token → Bool
keeps_message world None = false
keeps_message world (Some m) = is_accepted (heard_of replay_ends world m)

abbrev pub keeps_answer : World → Option Reply → Bool
keeps_answer world None = false
keeps_answer world (Some r) = is_some (fact_of world (settle_call r))

abbrev pub keeps_at : ScriptNode → World → ScriptAct → Bool
keeps_at node.Tx world (act.Call c) = is_some (fact_of world c)
keeps_at node.Tx world (act.Deliver place) = false
keeps_at node.Tx world (act.Answer place) = keeps_answer world (counted_at place world.replies)
keeps_at node.Rx world (act.Call c) = false
keeps_at node.Rx world (act.Deliver place) = keeps_message world (counted_at place world.messages)
keeps_at node.Rx world (act.Answer place) = false

-- what a line lets happen in a world
abbrev pub events_of : World → ScriptLine → List Event
events_of world line.Skipped = []
events_of world (line.Time time) = Elapsed time ∷ []
events_of world (line.Act a) = acting a
events_of world (line.Check subject) = []
events_of world (line.Stop node calls fill a) = if keeps_at node world a then crashing (rests_with_it calls fill) a else acting a
events_of world (line.Crash node) = []

abbrev pub events_found : World → Option ScriptLine → List Event
events_found world None = []
events_found world (Some l) = events_of world l

-- what lines let happen in a world, numbered from here on, up to the first that stops the script
abbrev pub schedule_from : ℕ → World → List (List ℕ) → List Event
schedule_from number world [] = []
schedule_from number world (l ∷ ls) =
    if is_none (played number world l).stop
    then events_found world (script_line_of l) ++ schedule_from (number + 1) (played number world l).world ls
    else []

-- the schedule that a script is
abbrev pub schedule_of : List (List ℕ) → List Event
schedule_of lines = schedule_from 1 new_world lines

-- the world of a script is what its schedule makes of a new one
abbrev pub ScriptsAreSchedules : Type 0
ScriptsAreSchedules = (lines : List (List ℕ)) → script_world 1 new_world lines ≡ run replay_ends new_world (schedule_of lines)

-- so it is as lawful as that of every schedule
abbrev pub EveryScriptIsLawful : Type 0
EveryScriptIsLawful = (lines : List (List ℕ)) → IsLawful replay_ends (script_world 1 new_world lines)
