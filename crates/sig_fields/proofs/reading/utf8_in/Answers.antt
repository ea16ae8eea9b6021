use Rattle.std.proofs.Common.{Some, ap, sym, ◌∙◌}
use Rattle.sig_fields.proofs.TextLemmas.{utf8_is, utf8_isnt}
use Rattle.sig_fields.proofs.reading.utf8_in.Goals as goal

pub returns-in-Ok : goal.returns-in-Ok
returns-in-Ok c = ap Some c.in-Ok.ensures.cases.0 ∙ sym (utf8_is c.args.bytes.now c.in-Ok.ensures.cases.1)

pub returns-in-Err : goal.returns-in-Err
returns-in-Err c = sym (utf8_isnt c.args.bytes.now c.in-Err.ensures.cases.0)
