-- The calls of a script's lines are proper, so what holds over every schedule holds of every script's world.
use Rattle.std.proofs.Common.{◌≡◌, sym, subst, ℕ, zero, suc, ◌+◌, List, [], ◌∷◌, Option, Some, None, refl}
use Rattle.std.specs.Prelude.{All, Bool, true, false, IfSome, IsUtf8, codes, if◌then◌else◌}
use Rattle.std.proofs.lemmas.List.Elements.{All-append, All-cons, All-nil}
use Rattle.sig_set.proofs.ProperClaims.{ascii}
use Rattle.sig_command.specs.declared.stop.Stop.{Stop}
use Rattle.sig_law.specs.World.{World, Event as Happening, new_world}
use Rattle.sig_law.specs.Law.{AreProper, HoldsOnEverySchedule, IsLawful, IsProperEvent}
use Rattle.sig_journal.specs.Added.{rests_with_it}
use Rattle.sig_script.specs.Laws.{IsProperLine, IsProperScriptAct, LinesAreProper}
use Rattle.sig_script.specs.Script.{script_line_of}
use Rattle.sig_script.specs.declared.script.ScriptAct.{ScriptAct}
use Rattle.sig_script.specs.declared.script.ScriptAct.TheVariants as act
use Rattle.sig_script.specs.declared.script.ScriptLine.{ScriptLine}
use Rattle.sig_script.specs.declared.script.ScriptLine.TheVariants as line
use Rattle.sig_schedules.specs.Replay.{played, replay_ends}
use Rattle.sig_schedules.specs.Schedules.{EveryScriptIsLawful, acting, crashing, events_found, events_of, keeps_at, schedule_from}
use Rattle.sig_schedules.proofs.ReplayRules.{proper}
use Rattle.sig_schedules.proofs.ScriptEvents.{schedule_goes, schedule_stops, scripts_are_schedules}

-- ---- the events of lines

one_event : (e : Happening) → IsProperEvent e → All IsProperEvent (e ∷ [])
one_event e h = All-cons IsProperEvent e [] h (All-nil IsProperEvent)

proper_acting : (a : ScriptAct) → IsProperScriptAct a → All IsProperEvent (acting a)
proper_acting (act.Call c) is = one_event _ is.0
proper_acting (act.Deliver zero) is = All-nil IsProperEvent
proper_acting (act.Deliver (suc place)) is = one_event _ tt
proper_acting (act.Answer zero) is = All-nil IsProperEvent
proper_acting (act.Answer (suc place)) is = one_event _ tt

proper_crashing : (kept : Bool) (a : ScriptAct) → IsProperScriptAct a → All IsProperEvent (crashing kept a)
proper_crashing kept (act.Call c) is = one_event _ is.0
proper_crashing kept (act.Deliver zero) is = All-nil IsProperEvent
proper_crashing kept (act.Deliver (suc place)) is = one_event _ tt
proper_crashing kept (act.Answer zero) is = All-nil IsProperEvent
proper_crashing kept (act.Answer (suc place)) is = one_event _ tt

proper_if : (t kept : Bool) (a : ScriptAct) → IsProperScriptAct a → All IsProperEvent (if t then crashing kept a else acting a)
proper_if true kept a is = proper_crashing kept a is
proper_if false kept a is = proper_acting a is

proper_line : (w : World) (l : ScriptLine) → IsProperLine l → All IsProperEvent (events_of w l)
proper_line w line.Skipped is = All-nil IsProperEvent
proper_line w (line.Time time) is = one_event _ tt
proper_line w (line.Act a) is = proper_acting a is
proper_line w (line.Check subject) is = All-nil IsProperEvent
proper_line w (line.Stop end calls fill a) is = proper_if (keeps_at end w a) (rests_with_it calls fill) a is.1
proper_line w (line.Crash end) is = All-nil IsProperEvent

proper_found : (w : World) (o : Option ScriptLine) → IfSome o IsProperLine → All IsProperEvent (events_found w o)
proper_found w None is = All-nil IsProperEvent
proper_found w (Some l) is = proper_line w l is

proper_schedule : LinesAreProper → (n : ℕ) (w : World) (ls : List (List ℕ)) → All IsProperEvent (schedule_from n w ls)
proper_schedule lines n w [] = All-nil IsProperEvent
proper_schedule lines n w (l ∷ ls) = by_stop (played n w l).stop refl (proper_schedule lines (n + 1) (played n w l).world ls)
  where
    by_stop : (o : Option Stop) → (played n w l).stop ≡ o → All IsProperEvent (schedule_from (n + 1) (played n w l).world ls)
        → All IsProperEvent (schedule_from n w (l ∷ ls))
    by_stop None e later = subst (All IsProperEvent) (sym (schedule_goes n w l ls e))
        (All-append IsProperEvent (events_found w (script_line_of l)) (schedule_from (n + 1) (played n w l).world ls)
        (proper_found w (script_line_of l) (lines l)) later)
    by_stop (Some s) e later = subst (All IsProperEvent) (sym (schedule_stops n w l ls s e)) (All-nil IsProperEvent)

-- ---- the law

some_same : (a b : List ℕ) → (let o : Option (List ℕ) = Some a in o ≡ Some b) → a ≡ b
some_same a b h = cc h

proper_ends : AreProper replay_ends
proper_ends = record {
  rules = proper;
  kid = λ name is. subst IsUtf8 (some_same (codes "k1") name is) (ascii (codes "k1") refl);
}

pub every_script_is_lawful : HoldsOnEverySchedule → LinesAreProper → EveryScriptIsLawful
every_script_is_lawful holds are_proper lines = subst (IsLawful replay_ends) (sym (scripts_are_schedules are_proper lines))
    (holds replay_ends proper_ends (schedule_from 1 new_world lines) (proper_schedule are_proper 1 new_world lines))
