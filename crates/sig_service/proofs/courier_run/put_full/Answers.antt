use Rattle.std.proofs.Common.{◌∙◌}
use Rattle.sig_command.specs.Moment.{output_state}
use Rattle.sig_service.specs.CourierRuns.{full_line}
use Rattle.sig_service.proofs.CourierEndLemmas.{put_same}
use Rattle.sig_service.proofs.courier_run.put_full.Goals as goal

pub returns : goal.returns
returns g c =
    let before = output_state (g.O.Sink.written c.args.output.now) (g.O.Sink.faults c.args.output.now) (g.O.Sink.stalls c.args.output.now) in
    let after = output_state (g.O.Sink.written c.put_last.new.output) (g.O.Sink.faults c.put_last.new.output) (g.O.Sink.stalls c.put_last.new.output) in
    put_same 11 c.as_str.result.now (full_line c.args.number) before after c.put_last.result (c.as_str.ensures.value ∙ c.numbered.ensures) c.put_last.ensures
