-- The turns of a node: calls with their answers, and what they come to.
use Rattle.std.specs.Prelude.{◌≡◌, ◌+◌, ◌≤◌, ℕ, Bool, true, false, List, [], ◌∷◌, ◌++◌, All, length, nat_lt, Option, Some, None, Result, Ok, Err, if◌then◌else◌}
use Rattle.sig_json.specs.declared.limits.TheConstants.{LAST_NUMBER}
use Rattle.sig_entry.specs.Tokens.{token_spelling}
use Rattle.sig_receiver.specs.Receiver.{Received, received_of}
use Rattle.sig_set.specs.declared.trust.Trust.{Trust}
use Rattle.sig_journal.specs.declared.node_fault.NodeFault.{NodeFault}
use Rattle.sig_journal.specs.declared.node_fault.NodeFault.TheVariants.{Store, Full, Memory}
use Rattle.sig_rxnode.specs.declared.answer.RxAnswer.{RxAnswer}
use Rattle.sig_rxnode.specs.declared.call.RxCall.{RxCall}
use Rattle.sig_rxnode.specs.declared.turn.RxTurn.{RxTurn}
use Rattle.sig_rxnode.specs.Answers.{answer_of, change_of}

-- where the journal ends once a text's record was added, and once those of several were, in order
abbrev pub end_after : ℕ → List ℕ → ℕ
end_after end text = end + 5 + length (token_spelling text)

abbrev pub ends_after : ℕ → List (List ℕ) → ℕ
ends_after end [] = end
ends_after end (text ∷ texts) = ends_after (end_after end text) texts

-- the answer, unless the record of the text that is added would end past LAST_NUMBER
abbrev pub where_room : ℕ → RxAnswer → List (List ℕ) → Result RxAnswer NodeFault
where_room end answer [] = Ok answer
where_room end answer (text ∷ texts) = if nat_lt LAST_NUMBER (end_after end text) then Err (Full (end_after end text)) else Ok answer

-- how a call is answered over a journal that ends here, unless a disk fails
abbrev pub answer_at : Trust → Received → ℕ → RxCall → Result RxAnswer NodeFault
answer_at trust state end call = where_room end (answer_of trust state call) (change_of trust state call)

-- the texts that a call adds, where it was answered so
abbrev pub when_ok : {T : Type 0} → Result T NodeFault → List (List ℕ) → List (List ℕ)
when_ok (Ok x) texts = texts
when_ok (Err fault) texts = []

-- the texts of a turn, where it was answered and adds one
abbrev pub change_in : Trust → Received → RxTurn → List (List ℕ)
change_in trust state t = when_ok t.result (change_of trust state t.call)

-- what is kept after a turn
abbrev pub after_turn : Trust → Received → RxTurn → Received
after_turn trust state t = received_of state (change_in trust state t)

-- what is kept after turns, one after another
abbrev pub after_turns : Trust → Received → List RxTurn → Received
after_turns trust state [] = state
after_turns trust state (t ∷ turns) = after_turns trust (after_turn trust state t) turns

-- the texts of the turns that were answered, in order
abbrev pub changes_of : Trust → Received → List RxTurn → List (List ℕ)
changes_of trust state [] = []
changes_of trust state (t ∷ turns) = change_in trust state t ++ changes_of trust (after_turn trust state t) turns

-- a turn's result over a journal that ends here is how the call is answered, unless the disk failed; a turn that was refused
-- memory isn't kept
abbrev pub IsTrueResult : Trust → Received → ℕ → RxCall → Result RxAnswer NodeFault → Type 0
IsTrueResult trust state end call (Ok answer) = answer_at trust state end call ≡ Ok answer
IsTrueResult trust state end call (Err Store) = Unit {0}
IsTrueResult trust state end call (Err (Full n)) = answer_at trust state end call ≡ Err (Full n)
IsTrueResult trust state end call (Err Memory) = ⊥

-- each turn's result is
abbrev pub AreTrue : Trust → Received → ℕ → List RxTurn → Type 0
AreTrue trust state end [] = Unit {0}
AreTrue trust state end (t ∷ turns) =
    IsTrueResult trust state end t.call t.result × AreTrue trust (after_turn trust state t) (ends_after end (change_in trust state t)) turns

-- a turn that was told that the store failed
abbrev pub fails : Result RxAnswer NodeFault → Bool
fails (Ok answer) = false
fails (Err Store) = true
fails (Err (Full n)) = false
fails (Err Memory) = false

abbrev pub AreHeld : List RxTurn → Type 0
AreHeld turns = All (λ (t : RxTurn). fails t.result ≡ false) turns

abbrev pub AreFailed : List RxTurn → Type 0
AreFailed turns = All (λ (t : RxTurn). fails t.result ≡ true) turns

-- the store failed in the turn of this number: none before it was told so, and each from it on was
pub record BrokeIn (turn : ℕ) (turns : List RxTurn) : Type 0 where
  pub before : List RxTurn
  pub after : List RxTurn
  pub parts : turns ≡ before ++ after
  pub number : turn ≡ length before + 1
  pub some : 1 ≤ length after
  pub held : AreHeld before
  pub failed : AreFailed after

-- it failed in that turn, where there is one, and otherwise in none
abbrev pub BrokeAt : Option ℕ → List RxTurn → Type 0
BrokeAt None turns = AreHeld turns
BrokeAt (Some turn) turns = BrokeIn turn turns

-- the turns with one more, unless it was refused memory
abbrev pub with_turn : List RxTurn → ℕ → RxCall → Result RxAnswer NodeFault → List RxTurn
with_turn turns link call (Ok answer) = turns ++ record { link = link; call = call; result = Ok answer } ∷ []
with_turn turns link call (Err Store) = turns ++ record { link = link; call = call; result = Err Store } ∷ []
with_turn turns link call (Err (Full n)) = turns ++ record { link = link; call = call; result = Err (Full n) } ∷ []
with_turn turns link call (Err Memory) = turns
