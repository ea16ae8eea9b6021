-- A step that answers by the table, and for whose fact there is room, is ready.
use Rattle.std.proofs.Common.{◌≡◌, ℕ, Option, None, Some, Result, Ok, Err, IfOk, subst, sym}
use Rattle.std.specs.Prelude.{IfSome, option_map}
use Rattle.sig_json.specs.Answers.{Answers, result_map}
use Rattle.sig_terms.specs.declared.call.Call.{Call}
use Rattle.sig_terms.specs.declared.fact.Fact.{Fact}
use Rattle.sig_terms.specs.declared.fault.PrepareFault.{PrepareFault}
use Rattle.sig_terms.specs.declared.fault.PrepareFault.TheVariants.{Memory}
use Rattle.sig_terms.specs.declared.rules.Rules.{Rules}
use Rattle.sig_history.specs.Owed.{Sum}
use Rattle.sig_history.specs.Sound.{Fits}
use Rattle.sig_history.specs.Whole.{IsWhole}
use Rattle.sig_calls.specs.Proper.{IsProperCall, IsProperRules}
use Rattle.sig_calls.specs.Table.{prepared_of}
use Rattle.sig_calls.proofs.ReplyLemmas.{reply_fits}
use Rattle.sig_ledger.specs.declared.step.Step.{Step}
use Rattle.sig_ledger.specs.Books.{AreKept, Books, sum_in}
use Rattle.sig_ledger.specs.Room.{HasRoom, Ready, Rooms}
use Rattle.sig_ledger.specs.Steps.{reply_in}
use Rattle.sig_outbox.specs.State.{IsReady}

ready_where : (sum : Sum) (room : Rooms) (o : Option Ready) → IfSome (option_map (λ (r : Ready). r.fact) o) (Fits sum) → IfSome o (HasRoom sum room)
    → IsReady (record { sum = sum; room = room }) o
ready_where sum room None fits space = tt
ready_where sum room (Some r) fits space = (fits, space)

pub ready_from : (rules : Rules) (sum : Sum) (room : Rooms) (call : Call) (now : ℕ) (result : Result Step PrepareFault) → IsWhole sum
    → Answers Memory (result_map reply_in result) (prepared_of rules sum call now)
    → IfOk result (λ (step : Step). IfSome step.change (HasRoom sum room))
    → IfOk result (λ (step : Step). IsProperRules rules → IsProperCall call → IsReady (record { sum = sum; room = room }) step.change)
ready_from rules sum room call now (Err e) whole answers space = tt
ready_from rules sum room call now (Ok step) whole answers space = λ proper called.
    ready_where sum room step.change (reply_fits rules sum call now (reply_in step) proper called whole answers) space

-- and over books that stay as they were
pub ready_over : (rules : Rules) (old new : Books) (room : Rooms) (call : Call) (now : ℕ) (result : Result Step PrepareFault) → new ≡ old → AreKept old
    → Answers Memory (result_map reply_in result) (prepared_of rules (sum_in old) call now)
    → IfOk result (λ (step : Step). IfSome step.change (HasRoom (sum_in new) room))
    → IfOk result (λ (step : Step). IsProperRules rules → IsProperCall call → IsReady (record { sum = sum_in new; room = room }) step.change)
ready_over rules old new room call now result same kept answers space =
    ready_from rules (sum_in new) room call now result (subst (λ (b : Books). IsWhole (sum_in b)) (sym same) kept.whole)
    (subst (λ (b : Books). Answers Memory (result_map reply_in result) (prepared_of rules (sum_in b) call now)) (sym same) answers) space
