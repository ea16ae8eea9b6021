-- The turns of a node: calls with their answers, and what they come to.
use Rattle.std.specs.Prelude.{◌≡◌, ◌+◌, ◌≤◌, ℕ, Bool, true, false, List, [], ◌∷◌, ◌++◌, All, length, Option, Some, None, Result, Ok, Err}
use Rattle.std.specs.Option.{option_to_list}
use Rattle.sig_terms.specs.declared.answer.Answer.{Answer}
use Rattle.sig_terms.specs.declared.call.Call.{Call}
use Rattle.sig_terms.specs.declared.fact.Fact.{Fact}
use Rattle.sig_terms.specs.declared.rules.Rules.{Rules}
use Rattle.sig_history.specs.Owed.{Sum, sum_of}
use Rattle.sig_history.specs.Whole.{IsWhole}
use Rattle.sig_calls.specs.Table.{change_of}
use Rattle.sig_journal.specs.declared.node_fault.NodeFault.{NodeFault}
use Rattle.sig_journal.specs.declared.node_fault.NodeFault.TheVariants.{Store, Full, Memory}
use Rattle.sig_txnode.specs.declared.turn.Turn.{Turn}
use Rattle.sig_txnode.specs.Answering.{answer_at, end_with, sum_after, when_ok}

-- the change of a turn, where it was answered and makes one
abbrev pub change_in : Rules → Sum → Turn → Option Fact
change_in rules sum t = when_ok t.result (change_of rules sum t.call t.now)

-- the state after a turn
abbrev pub after_turn : Rules → Sum → Turn → Sum
after_turn rules sum t = sum_after sum (change_in rules sum t)

-- the state after turns, one after another
abbrev pub after_turns : Rules → Sum → List Turn → Sum
after_turns rules sum [] = sum
after_turns rules sum (t ∷ turns) = after_turns rules (after_turn rules sum t) turns

-- the changes of the turns that were answered, in order
abbrev pub changes_of : Rules → Sum → List Turn → List Fact
changes_of rules sum [] = []
changes_of rules sum (t ∷ turns) =
    option_to_list (change_in rules sum t) ++ changes_of rules (after_turn rules sum t) turns

-- where the journal ends after a change, where there is one, and after changes, in order
abbrev pub end_after : ℕ → Option Fact → ℕ
end_after end None = end
end_after end (Some f) = end_with end f

abbrev pub ends_after : ℕ → List Fact → ℕ
ends_after end [] = end
ends_after end (f ∷ facts) = ends_after (end_with end f) facts

-- a turn's result over a journal that ends here is what the call is told, unless the disk failed; a turn that was refused
-- memory isn't kept
abbrev pub IsTrueResult : Rules → Sum → ℕ → Call → ℕ → Result Answer NodeFault → Type 0
IsTrueResult rules sum end call now (Ok answer) = answer_at rules sum end call now ≡ Ok answer
IsTrueResult rules sum end call now (Err Store) = Unit {0}
IsTrueResult rules sum end call now (Err (Full n)) = answer_at rules sum end call now ≡ Err (Full n)
IsTrueResult rules sum end call now (Err Memory) = ⊥

-- each turn's result is
abbrev pub AreTrue : Rules → Sum → ℕ → List Turn → Type 0
AreTrue rules sum end [] = Unit {0}
AreTrue rules sum end (t ∷ turns) =
    IsTrueResult rules sum end t.call t.now t.result × AreTrue rules (after_turn rules sum t) (end_after end (change_in rules sum t)) turns

-- a turn that was told that the store failed
abbrev pub fails : Result Answer NodeFault → Bool
fails (Ok answer) = false
fails (Err Store) = true
fails (Err (Full n)) = false
fails (Err Memory) = false

abbrev pub AreHeld : List Turn → Type 0
AreHeld turns = All (λ (t : Turn). fails t.result ≡ false) turns

abbrev pub AreFailed : List Turn → Type 0
AreFailed turns = All (λ (t : Turn). fails t.result ≡ true) turns

-- the store failed in the turn of this number: none before it was told so, and each from it on was
pub record BrokeIn (turn : ℕ) (turns : List Turn) : Type 0 where
  pub before : List Turn
  pub after : List Turn
  pub parts : turns ≡ before ++ after
  pub number : turn ≡ length before + 1
  pub some : 1 ≤ length after
  pub held : AreHeld before
  pub failed : AreFailed after

-- it failed in that turn, where there is one, and otherwise in none
abbrev pub BrokeAt : Option ℕ → List Turn → Type 0
BrokeAt None turns = AreHeld turns
BrokeAt (Some turn) turns = BrokeIn turn turns

-- the turns with one more, unless it was refused memory
abbrev pub with_turn : List Turn → ℕ → Call → ℕ → Result Answer NodeFault → List Turn
with_turn turns link call now (Ok answer) = turns ++ record { link = link; call = call; now = now; result = Ok answer } ∷ []
with_turn turns link call now (Err Store) = turns ++ record { link = link; call = call; now = now; result = Err Store } ∷ []
with_turn turns link call now (Err (Full n)) = turns ++ record { link = link; call = call; now = now; result = Err (Full n) } ∷ []
with_turn turns link call now (Err Memory) = turns

-- whatever the turns are, the state after them is what the base comes to with their changes
abbrev pub TurnsAreAHistory : Type 0
TurnsAreAHistory = (rules : Rules) (base : Sum) (turns : List Turn) → IsWhole base
    → after_turns rules base turns ≡ sum_of base (changes_of rules base turns)
