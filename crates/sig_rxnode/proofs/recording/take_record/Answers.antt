use Rattle.std.proofs.Common.{◌∙◌, ap, sym, ℕ, List, Result, Ok}
use Rattle.sig_receiver.specs.Receiver.{received}
use Rattle.sig_rxnode.specs.declared.recording.RecordFault.{RecordFault}
use Rattle.sig_rxnode.proofs.TakingUp.{record_refused, record_taken, was_refused}
use Rattle.sig_rxnode.proofs.recording.take_record.Goals as goal

pub returns-in-Err-Bad-clause-bad : goal.returns-in-Err-Bad-clause-bad
returns-in-Err-Bad-clause-bad c = λ bad.
    let make : List ℕ → Result (List ℕ) RecordFault = λ t. Ok t in
    record_refused (received c.args.receiver.now) c.args.payload.now c.as_slice.result.now c.in-Err-Bad.field-0 (c.in_ok-text.ensures ∙ ap make (sym c.as_slice.ensures))
    (was_refused _ c.in-Err-Bad.field-0 _ c.in-Err-Bad.field-0-is c.in-Err-Bad.ensures.fault)

pub returns-clause-taken : goal.returns-clause-taken
returns-clause-taken c =
    let make : List ℕ → Result (List ℕ) RecordFault = λ t. Ok t in
    record_taken (received c.args.receiver.now) (received c.take_up.new.self) c.args.payload.now c.as_slice.result.now (c.in_ok-text.ensures ∙ ap make (sym c.as_slice.ensures)) c.in-Ok.ensures.fault c.in-Ok.ensures.taken
