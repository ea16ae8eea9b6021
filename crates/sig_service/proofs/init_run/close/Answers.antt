use Rattle.std.proofs.Common.{◌∙◌}
use Rattle.sig_command.specs.Moment.{output_state}
use Rattle.sig_service.proofs.LastLineLemmas.{put_init}
use Rattle.sig_service.proofs.init_run.close.Goals as goal

pub returns-in-NotEmpty : goal.returns-in-NotEmpty
returns-in-NotEmpty g c =
    let before = output_state (g.O.Sink.written c.args.output.now) (g.O.Sink.faults c.args.output.now) (g.O.Sink.stalls c.args.output.now) in
    let after = output_state (g.O.Sink.written c.put_last.new.output) (g.O.Sink.faults c.put_last.new.output) (g.O.Sink.stalls c.put_last.new.output) in
    put_init c.args.made _ c.as_str.result.now before after c.put_last.result c.in-NotEmpty.is (c.as_str.ensures.value ∙ c.numbered.ensures) c.put_last.ensures
