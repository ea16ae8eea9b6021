use Rattle.std.proofs.Common.{◌∙◌}
use Rattle.sig_command.specs.Moment.{output_state}
use Rattle.sig_service.proofs.LastLineLemmas.{line_of_a, line_of_b, put_damaged}
use Rattle.sig_service.proofs.last_line.put_damaged.Goals as goal

pub returns-then-file-eq0 : goal.returns-then-file-eq0
returns-then-file-eq0 g c =
    let before = output_state (g.O.Sink.written c.args.output.now) (g.O.Sink.faults c.args.output.now) (g.O.Sink.stalls c.args.output.now) in
    let after = output_state (g.O.Sink.written c.put_last.new.output) (g.O.Sink.faults c.put_last.new.output) (g.O.Sink.stalls c.put_last.new.output) in
    put_damaged c.args.file c.args.at c.as_str.result.now before after c.put_last.result
    (c.as_str.ensures.value ∙ c.numbered.ensures ∙ line_of_a c.args.file c.args.at c.if-file-eq0.true) c.put_last.ensures

pub returns-else-file-eq0 : goal.returns-else-file-eq0
returns-else-file-eq0 g c =
    let before = output_state (g.O.Sink.written c.args.output.now) (g.O.Sink.faults c.args.output.now) (g.O.Sink.stalls c.args.output.now) in
    let after = output_state (g.O.Sink.written c.put_last-else-file-eq0.new.output) (g.O.Sink.faults c.put_last-else-file-eq0.new.output) (g.O.Sink.stalls c.put_last-else-file-eq0.new.output) in
    put_damaged c.args.file c.args.at c.as_str-else-file-eq0.result.now before after c.put_last-else-file-eq0.result
    (c.as_str-else-file-eq0.ensures.value ∙ c.numbered-else-file-eq0.ensures ∙ line_of_b c.args.file c.args.at c.if-file-eq0.false) c.put_last-else-file-eq0.ensures
