-- The ticks of a run, one after another, over one schedule that begins empty.
use Rattle.std.specs.Prelude.{◌≡◌, ℕ, List, [], ◌∷◌, ◌++◌, All, Bool, IsOk, Result, Err, ⊤, flat_map}
use Rattle.sig_courier.specs.declared.attempt.Attempt.{Attempt}
use Rattle.sig_history.specs.Owed.{Sum, sum_of}
use Rattle.sig_journal.specs.declared.node_fault.NodeFault.{NodeFault}
use Rattle.sig_links.specs.Views.{SideView}
use Rattle.sig_terms.specs.declared.fact.Fact.{Fact}
use Rattle.sig_terms.specs.declared.rules.Rules.{Rules}
use Rattle.sig_tick.specs.Ticking.{IsTick, TellsTime, ticking}
use Rattle.sig_txnode.specs.Node.{NodeView, files_told}
use Rattle.sig_txnode.specs.Turns.{AreTrue, changes_of}
use Rattle.sig_txnode.specs.declared.turn.Turn.{Turn}

-- what a run has between two ticks: the state, whether the two files of the store are told, the side, and all attempts so far
pub record Between : Type 0 where
  pub state : Sum
  pub files : Bool × Bool
  pub side : SideView
  pub log : List Attempt

abbrev pub between : Sum → Bool × Bool → SideView → List Attempt → Between
between state files side log = record { state = state; files = files; side = side; log = log }

-- of a node
abbrev pub with_node : {D : Type 0} → (D → Bool) → NodeView D → SideView → List Attempt → Between
with_node told node side log = between node.state (files_told told node) side log

-- a tick: its time, its turns in order, the facts that these made, its attempts, and how it ended
pub record Tick : Type 0 where
  pub now : ℕ
  pub turns : List Turn
  pub facts : List Fact
  pub attempts : List Attempt
  pub end : Result ⊤ NodeFault

-- it asked for the time once, and was a tick by these rules and by the log of all attempts before it. Each of its turns was
-- answered as the table says, from the state before and over a journal that ended at `first`; the facts are those of these
-- turns, by which the state goes on; and its attempts are last in the log
pub record IsTickOf (rules : Rules) (tick : Tick) (old new : Between) : Type 0 where
  pub began : SideView
  pub time : TellsTime old.side began tick.now
  pub tries : IsTick rules (ticking tick.now) old.log began new.side tick.turns tick.attempts tick.end
  pub first : ℕ
  pub answers : AreTrue rules old.state first tick.turns
  pub facts : tick.facts ≡ changes_of rules old.state tick.turns
  pub state : new.state ≡ sum_of old.state tick.facts
  pub files : new.files ≡ old.files
  pub log : new.log ≡ old.log ++ tick.attempts

-- the facts of all of them, in order
abbrev pub facts_of : List Tick → List Fact
facts_of ticks = flat_map (λ (tick : Tick). tick.facts) ticks

-- each of them went on
abbrev pub GoOn : List Tick → Type 0
GoOn ticks = All (λ (tick : Tick). IsOk tick.end) ticks

-- each but the last, which ended with this fault
pub record StopWith (fault : NodeFault) (ticks : List Tick) : Type 0 where
  pub before : List Tick
  pub last : Tick
  pub parts : ticks ≡ before ++ last ∷ []
  pub on : GoOn before
  pub stops : last.end ≡ Err fault
