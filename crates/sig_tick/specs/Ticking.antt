-- A tick: the time is read once, the streams of the clients are listed, and those that are due are tried (RFC 8935, section 2).
use Rattle.std.specs.Prelude.{◌≡◌, ◌⊎◌, ℕ, List, [], ◌++◌, Option, Result, Err, IfOk, ⊤}
use Rattle.sig_courier.specs.Schedule.{IsLogged, Kept}
use Rattle.sig_courier.specs.declared.attempt.Attempt.{Attempt}
use Rattle.sig_journal.specs.declared.node_fault.NodeFault.{NodeFault}
use Rattle.sig_journal.specs.declared.node_fault.NodeFault.TheVariants.{Memory}
use Rattle.sig_json.specs.Answers.{result_map}
use Rattle.sig_links.specs.Told.{GivesTime}
use Rattle.sig_links.specs.Views.{SideView}
use Rattle.sig_round.specs.Turns.{Adds, Asker, Grew}
use Rattle.sig_terms.specs.declared.rules.Rules.{Rules}
use Rattle.sig_txnode.specs.Told.{TakerTold}
use Rattle.sig_txnode.specs.declared.turn.Turn.{Turn}
use Rattle.sig_tick.specs.Listing.{After, AreAsked, AreNamesInOrder, pushes_listed}
use Rattle.sig_tick.specs.Trying.{AreTried}

-- the clients of these rules were asked for their streams, in order of name; or memory ran out before the first
abbrev pub Lists : Rules → Asker → List Turn → Result ⊤ NodeFault → Type 0
Lists rules by turns end = ((turns ≡ []) × (end ≡ Err Memory)) ⊎ ((names : List (List ℕ)) × AreNamesInOrder rules.clients names × AreAsked by names turns end)

-- and these turns stand in the log and are told by the taker
pub record Listed (rules : Rules) (by : Asker) (turns turns' : List Turn) (told told' : Option TakerTold) (end : Result ⊤ NodeFault) : Type 0 where
  pub more : List Turn
  pub adds : Adds more turns turns' told told'
  pub lists : Lists rules by more end

-- a tick by these rules, at that time and by that log of the attempts before it, made these turns and these attempts, did so to
-- the side, and ended so: first the clients were asked for their streams, and then their push streams were tried
pub record IsTick (rules : Rules) (by : Asker) (log : List Attempt) (before after : SideView) (turns : List Turn) (made : List Attempt) (end : Result ⊤ NodeFault) : Type 0 where
  pub reads : List Turn
  pub others : List Turn
  pub parts : turns ≡ reads ++ others
  pub listing : Result ⊤ NodeFault
  pub lists : Lists rules by reads listing
  pub tries : After listing (AreTried rules by log (pushes_listed reads) before after others made end)
      ((others ≡ []) × (made ≡ []) × (after ≡ before) × (end ≡ listing))

-- a side was asked for the time, and told this
pub record TellsTime (before after : SideView) (now : ℕ) : Type 0 where
  pub time : GivesTime before.times after.times now
  pub ahead : after.ahead ≡ before.ahead
  pub sent : after.sent ≡ before.sent
  pub faults : after.faults ≡ before.faults

-- who asks in a tick
abbrev pub ticking : ℕ → Asker
ticking now = record { link = 0; now = now }

-- a tick over a taker: the attempts are noted, by any log that the schedule stands for, and at Ok they are the answer
pub record Ticks (rules : Rules) (before after : SideView) (told told' : Option TakerTold) (kept kept' : Kept) (result : Result (List Attempt) NodeFault) : Type 0 where
  pub now : ℕ
  pub began : SideView
  pub time : TellsTime before began now
  pub turns : List Turn
  pub grew : Grew told told' turns
  pub made : List Attempt
  pub given : IfOk result (λ attempts. attempts ≡ made)
  pub notes : (log : List Attempt) → IsLogged kept log → IsLogged kept' (log ++ made)
  pub tick : (log : List Attempt) → IsLogged kept log → IsTick rules (ticking now) log began after turns made (result_map (λ attempts. tt) result)
