-- How a transmitter's node answers a call, and what the call makes.
use Rattle.std.specs.Prelude.{◌≡◌, ◌⊎◌, ◌+◌, ℕ, [], ◌∷◌, length, min, nat_lt, Option, Some, None, Result, Ok, Err, IsOk, if◌then◌else◌}
use Rattle.sig_json.specs.declared.limits.TheConstants.{LAST_NUMBER}
use Rattle.sig_terms.specs.declared.answer.Answer.{Answer}
use Rattle.sig_terms.specs.declared.call.Call.{Call}
use Rattle.sig_terms.specs.declared.fact.Fact.{Fact}
use Rattle.sig_terms.specs.declared.fault.PrepareFault.{PrepareFault}
use Rattle.sig_terms.specs.declared.fault.PrepareFault.TheVariants as prepare
use Rattle.sig_terms.specs.declared.rules.Rules.{Rules}
use Rattle.sig_terms.specs.Reply.{Reply}
use Rattle.sig_history.specs.Owed.{Sum, sum_of}
use Rattle.sig_calls.specs.Table.{prepared_of}
use Rattle.sig_entry.specs.Facts.{spelling_of}
use Rattle.sig_journal.specs.declared.node_fault.NodeFault.{NodeFault}
use Rattle.sig_journal.specs.declared.node_fault.NodeFault.TheVariants.{Store, Full, Memory}

-- a clock's value, where one above LAST_NUMBER counts as that
abbrev pub time_used : ℕ → ℕ
time_used now = min now LAST_NUMBER

-- where the journal ends once a fact's record was added
abbrev pub end_with : ℕ → Fact → ℕ
end_with end f = end + 5 + length (spelling_of f)

-- the answer, unless the record of the fact would end past LAST_NUMBER
abbrev pub where_room : ℕ → Answer → Option Fact → Result Answer NodeFault
where_room end answer None = Ok answer
where_room end answer (Some f) = if nat_lt LAST_NUMBER (end_with end f) then Err (Full (end_with end f)) else Ok answer

-- the answer to a call that was prepared, unless a number would pass LAST_NUMBER
abbrev pub answer_with : ℕ → Result Reply PrepareFault → Result Answer NodeFault
answer_with end (Ok reply) = where_room end reply.answer reply.change
answer_with end (Err (prepare.Number n)) = Err (Full n)
answer_with end (Err prepare.Memory) = Err Memory

-- how a call is answered over a journal that ends here, unless a disk fails
abbrev pub answer_at : Rules → Sum → ℕ → Call → ℕ → Result Answer NodeFault
answer_at rules sum end call now = answer_with end (prepared_of rules sum call now)

-- an answer that the table gives to this call at this time, by some rules and at some state
abbrev pub IsAnswerTo : Call → ℕ → Answer → Type 0
IsAnswerTo call now answer = (rules : Rules) × (sum : Sum) × (end : ℕ) × (answer_at rules sum end call now ≡ Ok answer)

-- a call's answer: want of memory comes whenever it likes; a node that is broken answers that its store failed; and any other
-- answers so where it is told an answer, or as it is told
abbrev pub IsAnswered : Option ℕ → Result Answer NodeFault → Result Answer NodeFault → Type 0
IsAnswered (Some turn) told result = (result ≡ Err Memory) ⊎ (result ≡ Err Store)
IsAnswered None told result = (result ≡ Err Memory) ⊎ ((result ≡ Err Store) × IsOk told) ⊎ (result ≡ told)

-- what is changed by a call that makes this change, where it was answered so
abbrev pub when_ok : {T : Type 0} → Result T NodeFault → Option Fact → Option Fact
when_ok (Ok x) change = change
when_ok (Err fault) change = None

-- the state after a fact, where there is one
abbrev pub sum_after : Sum → Option Fact → Sum
sum_after sum None = sum
sum_after sum (Some f) = sum_of sum (f ∷ [])

-- of a call that is told this and would make this change: the answer, and the state that it leaves
pub record Answered (told : Result Answer NodeFault) (change : Option Fact) (broken_at : Option ℕ) (before after : Sum) (result : Result Answer NodeFault) : Type 0 where
  pub answer : IsAnswered broken_at told result
  pub state : after ≡ sum_after before (when_ok result change)
