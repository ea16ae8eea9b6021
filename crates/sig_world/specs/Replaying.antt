-- Where a replay stands between two lines.
use Rattle.std.specs.Prelude.{◌≡◌, ◌≤◌, ℕ, List, ◌++◌, Some, None}
use Rattle.sig_json.specs.declared.limits.TheConstants.{LAST_NUMBER}
use Rattle.sig_world.specs.declared.replayer.Replayer.{Replayer}
use Rattle.sig_command.specs.declared.stop.TellFault.{TellFault}
use Rattle.sig_command.specs.declared.stop.TellFault.TheVariants as faults
use Rattle.sig_law.specs.World.{World, new_world}
use Rattle.sig_schedules.specs.Replay.{Played, replay_rules, script_world}
use Rattle.sig_world.specs.Ends.{RxIn, TxIn}

-- the nodes that are there hold what the world comes to, and so does what is beside them
pub record IsAt (r : Replayer) (world : World) : Type 0 where
  pub rules : r.rules ≡ replay_rules
  pub sent : TxIn r.tx world.facts
  pub received : RxIn r.rx world.journal
  pub messages : r.messages.items ≡ world.messages
  pub replies : r.replies.items ≡ world.replies
  pub time : r.time ≡ world.time
  pub within : world.time ≤ LAST_NUMBER

-- it has taken just these lines
abbrev pub StandsAt : Replayer → List (List ℕ) → Type 0
StandsAt r given = IsAt r (script_world 1 new_world given)

-- a line was played: it doesn't stop the script, and its text was added
pub record Goes (p : Played) (r : Replayer) (text text' : List ℕ) : Type 0 where
  pub going : p.stop ≡ None
  pub added : text' ≡ text ++ p.text
  pub on : IsAt r p.world

-- a line wasn't played: it stops the script, or memory ended
abbrev pub GoesNot : Played → TellFault → Type 0
GoesNot p (faults.Stopped s) = p.stop ≡ Some s
GoesNot p faults.Memory = Unit {0}
