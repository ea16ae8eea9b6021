use Rattle.std.proofs.Common.{◌∙◌, ◌++◌, ap, sym, refl, [], arith}
use Rattle.sig_command.specs.Moment.{moment}
use Rattle.sig_outside.specs.Reading.{Reading}
use Rattle.sig_ticking.specs.Ticks.{with_node}
use Rattle.sig_ticking.proofs.LineLemmas.{goes_first}
use Rattle.sig_ticking.proofs.lines.tick_lines.Goals as goal

pub loop-line-init : goal.loop-line-init
loop-line-init g c = record {
  whole = c.requires.whole;
  rules = c.requires.rules;
  rules_same = refl;
  files = refl;
  stays = ap (λ (r : Reading). r.mode) c.new-reader.ensures;
  counted = ap (λ (r : Reading). r.number) c.new-reader.ensures;
  bound = omega (arith, ap (λ (r : Reading). r.number) c.new-reader.ensures);
  made = (
    [],
    c.new-schedule.ensures,
    goes_first c.args.rules.now (with_node g.D.Disk.told c.args.node.now (g.S.Side.view c.args.side.now) []) c.new-reader.result
        (moment (g.I.Source.left c.args.input.now) (g.I.Source.faults c.args.input.now) (g.O.Sink.written c.args.output.now) (g.O.Sink.faults c.args.output.now) (g.O.Sink.stalls c.args.output.now))
        (ap (λ (r : Reading). r.kept) c.new-reader.ensures) (ap (λ (r : Reading). r.taken) c.new-reader.ensures),
  );
}

pub returns-in-Err-clause-made : goal.returns-in-Err-clause-made
returns-in-Err-clause-made g c =
    let so_far = c.loop-line.invariant.made in
    let stops = c.in-Err.ensures.stops so_far.0 (with_node g.D.Disk.told c.args.node.now (g.S.Side.view c.args.side.now) [])
    (moment (g.I.Source.left c.args.input.now) (g.I.Source.faults c.args.input.now) (g.O.Sink.written c.args.output.now) (g.O.Sink.faults c.args.output.now) (g.O.Sink.stalls c.args.output.now)) so_far.1 so_far.2 in
    (so_far.0 ++ stops.0, stops.1)

pub loop-line-preserved : goal.loop-line-preserved
loop-line-preserved g c =
    let so_far = c.loop-line.invariant.made in
    let goes = c.in-Ok.ensures.goes so_far.0 (with_node g.D.Disk.told c.args.node.now (g.S.Side.view c.args.side.now) [])
    (moment (g.I.Source.left c.args.input.now) (g.I.Source.faults c.args.input.now) (g.O.Sink.written c.args.output.now) (g.O.Sink.faults c.args.output.now) (g.O.Sink.stalls c.args.output.now)) so_far.1 so_far.2 in
    record {
      whole = c.in-Ok.ensures.whole;
      rules = c.loop-line.invariant.rules ∙ sym c.in-Ok.ensures.rules_same;
      rules_same = c.in-Ok.ensures.rules_same ∙ c.loop-line.invariant.rules_same;
      files = c.in-Ok.ensures.files ∙ c.loop-line.invariant.files;
      stays = c.in-Ok.ensures.stays;
      counted = c.in-Ok.ensures.number;
      bound = c.in-Ok.ensures.bound;
      made = (so_far.0 ++ goes.0, goes.1, goes.2);
    }
