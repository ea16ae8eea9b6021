use Rattle.sig_json.specs.declared.limits.TheConstants.{SCRIPT_LINE_BYTES}
use Rattle.sig_lines.proofs.Nothing.{nothing_left}
use Rattle.sig_lines.proofs.running.next_line.Goals as goal

pub returns-in-Ok-End-clause-end : goal.returns-in-Ok-End-clause-end
returns-in-Ok-End-clause-end g c = λ _. nothing_left SCRIPT_LINE_BYTES c.in-Ok-End.field-0 c.args.reader.now c.next.new.self
    (g.I.Source.left c.args.input.now) (g.I.Source.left c.next.new.source) c.in-Ok-End.field-0-is c.in-Ok-End.ensures.line
