use Rattle.std.proofs.Common.{◌∙◌, ap}
use Rattle.sig_script.specs.Script.{text_line}
use Rattle.sig_script.proofs.TextLemmas.{line_of_utf8, line_of_none, if_ok_then}
use Rattle.sig_script.proofs.script.utf8_line.Goals as goal

pub returns-in-Ok : goal.returns-in-Ok
returns-in-Ok c =
    if_ok_then c.text_line.result
    (λ found is. is ∙ ap text_line c.in-Ok.ensures.cases.0 ∙ line_of_utf8 c.args.line.now c.in-Ok.ensures.cases.1)
    c.text_line.ensures

pub returns-in-Err : goal.returns-in-Err
returns-in-Err c = line_of_none c.args.line.now c.in-Err.ensures.cases.0
