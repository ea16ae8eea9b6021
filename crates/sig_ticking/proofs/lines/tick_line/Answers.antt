use Rattle.std.proofs.Common.{◌∙◌, ◌++◌, ◌+◌, ap, sym, subst, List, [], Err, Result}
use Rattle.std.specs.Prelude.{⊤}
use Rattle.sig_command.proofs.ProgressLemmas.{failed_now}
use Rattle.sig_command.specs.Moment.{moment, output_state}
use Rattle.sig_courier.specs.declared.attempt.Attempt.{Attempt}
use Rattle.sig_ticking.specs.Lines.{MakesTicks, PutsTick}
use Rattle.sig_ticking.specs.Ticks.{with_node}
use Rattle.sig_ticking.specs.declared.ending.CourierEnd.{CourierEnd}
use Rattle.sig_ticking.specs.declared.ending.CourierEnd.TheVariants.{Done}
use Rattle.sig_ticking.proofs.LineLemmas.{goes_more, last_is, made_last, made_stopped, made_whole, none_more, not_last}
use Rattle.sig_ticking.proofs.TickLemmas.{if_err, on_ok}
use Rattle.sig_ticking.proofs.lines.tick_line.Goals as goal

pub returns-in-Ok-clause-stops : goal.returns-in-Ok-clause-stops
returns-in-Ok-clause-stops g c = λ log old start logged goes. (
  [],
  subst (λ (l : List Attempt). MakesTicks c.args.rules.now Done old (with_node g.D.Disk.told c.args.node.now (g.S.Side.view c.args.side.now) l) start
      (moment (g.I.Source.left c.next.new.source) (g.I.Source.faults c.next.new.source) (g.O.Sink.written c.args.output.now) (g.O.Sink.faults c.args.output.now) (g.O.Sink.stalls c.args.output.now)))
      (sym (none_more log))
      (made_whole c.args.rules.now c.args.before _ old (with_node g.D.Disk.told c.args.node.now (g.S.Side.view c.args.side.now) log) c.args.reader.now c.next.new.self start
      (g.I.Source.left c.args.input.now) (g.I.Source.left c.next.new.source) (g.I.Source.faults c.args.input.now) (g.I.Source.faults c.next.new.source)
      (output_state (g.O.Sink.written c.args.output.now) (g.O.Sink.faults c.args.output.now) (g.O.Sink.stalls c.args.output.now)) c.in-Ok.line
      (c.in-Ok.ensures.steady (λ failed. cc)) (last_is c.in-Ok.line (sym c.is_end.ensures ∙ c.if-is_end.true)) c.in-Ok.ensures.line goes),
)

pub returns-in-Ok-2-clause-goes : goal.returns-in-Ok-2-clause-goes
returns-in-Ok-2-clause-goes g c = on_ok c.tick_once.result _ (λ u is log old start logged goes.
    let made = c.tick_once.ensures.made log logged in (
      made.0.attempts,
      made.1,
      goes_more c.args.rules.now c.args.before _ old (with_node g.D.Disk.told c.args.node.now (g.S.Side.view c.args.side.now) log)
          (with_node g.D.Disk.told c.tick_once.new.node (g.S.Side.view c.tick_once.new.side) (log ++ made.0.attempts)) c.args.reader.now c.next.new.self start
          (g.I.Source.left c.args.input.now) (g.I.Source.left c.next.new.source) (g.I.Source.faults c.args.input.now) (g.I.Source.faults c.next.new.source)
          (output_state (g.O.Sink.written c.args.output.now) (g.O.Sink.faults c.args.output.now) (g.O.Sink.stalls c.args.output.now)) (output_state (g.O.Sink.written c.tick_once.new.output) (g.O.Sink.faults c.tick_once.new.output) (g.O.Sink.stalls c.tick_once.new.output)) c.in-Ok.line made.0 u
          (c.in-Ok.ensures.steady (λ failed. cc)) (not_last c.in-Ok.line (sym c.is_end.ensures ∙ c.if-is_end.false)) c.in-Ok.ensures.line made.2
          (subst (λ (r : Result ⊤ CourierEnd). PutsTick (c.args.before + 1) made.0.attempts made.0.end r (output_state (g.O.Sink.written c.args.output.now) (g.O.Sink.faults c.args.output.now) (g.O.Sink.stalls c.args.output.now)) (output_state (g.O.Sink.written c.tick_once.new.output) (g.O.Sink.faults c.tick_once.new.output) (g.O.Sink.stalls c.tick_once.new.output))) is made.3) goes,
    ))

pub returns-in-Ok-2-clause-stops : goal.returns-in-Ok-2-clause-stops
returns-in-Ok-2-clause-stops g c = if_err c.tick_once.result _ (λ end is log old start logged goes.
    let made = c.tick_once.ensures.made log logged in (
      made.0.attempts,
      made_last c.args.rules.now c.args.before _ old (with_node g.D.Disk.told c.args.node.now (g.S.Side.view c.args.side.now) log)
          (with_node g.D.Disk.told c.tick_once.new.node (g.S.Side.view c.tick_once.new.side) (log ++ made.0.attempts)) c.args.reader.now c.next.new.self start
          (g.I.Source.left c.args.input.now) (g.I.Source.left c.next.new.source) (g.I.Source.faults c.args.input.now) (g.I.Source.faults c.next.new.source)
          (output_state (g.O.Sink.written c.args.output.now) (g.O.Sink.faults c.args.output.now) (g.O.Sink.stalls c.args.output.now)) (output_state (g.O.Sink.written c.tick_once.new.output) (g.O.Sink.faults c.tick_once.new.output) (g.O.Sink.stalls c.tick_once.new.output)) c.in-Ok.line made.0 end
          (c.in-Ok.ensures.steady (λ failed. cc)) (not_last c.in-Ok.line (sym c.is_end.ensures ∙ c.if-is_end.false)) c.in-Ok.ensures.line made.2
          (subst (λ (r : Result ⊤ CourierEnd). PutsTick (c.args.before + 1) made.0.attempts made.0.end r (output_state (g.O.Sink.written c.args.output.now) (g.O.Sink.faults c.args.output.now) (g.O.Sink.stalls c.args.output.now)) (output_state (g.O.Sink.written c.tick_once.new.output) (g.O.Sink.faults c.tick_once.new.output) (g.O.Sink.stalls c.tick_once.new.output))) is made.3) goes,
    ))

pub returns-in-Err-clause-stops : goal.returns-in-Err-clause-stops
returns-in-Err-clause-stops g c = λ log old start logged goes. (
  [],
  subst (λ (l : List Attempt). MakesTicks c.args.rules.now c.of_line.result old (with_node g.D.Disk.told c.args.node.now (g.S.Side.view c.args.side.now) l) start
      (moment (g.I.Source.left c.next.new.source) (g.I.Source.faults c.next.new.source) (g.O.Sink.written c.args.output.now) (g.O.Sink.faults c.args.output.now) (g.O.Sink.stalls c.args.output.now)))
      (sym (none_more log))
      (subst (λ (e : CourierEnd). MakesTicks c.args.rules.now e old (with_node g.D.Disk.told c.args.node.now (g.S.Side.view c.args.side.now) log) start
      (moment (g.I.Source.left c.next.new.source) (g.I.Source.faults c.next.new.source) (g.O.Sink.written c.args.output.now) (g.O.Sink.faults c.args.output.now) (g.O.Sink.stalls c.args.output.now)))
      (sym c.of_line.ensures)
      (made_stopped c.args.rules.now c.args.before old (with_node g.D.Disk.told c.args.node.now (g.S.Side.view c.args.side.now) log) c.args.reader.now c.next.new.self start
      (g.I.Source.left c.args.input.now) (g.I.Source.left c.next.new.source) (g.I.Source.faults c.args.input.now) (g.I.Source.faults c.next.new.source)
      (output_state (g.O.Sink.written c.args.output.now) (g.O.Sink.faults c.args.output.now) (g.O.Sink.stalls c.args.output.now)) c.in-Err.fault
      (λ is. failed_now c.args.reader.now c.requires.open (c.in-Err.ensures.failed (ap Err is)))
      (λ other. c.in-Err.ensures.steady (λ failed. other (cc)))
      (λ is. c.in-Err.ensures.stopped (ap Err is) c.requires.open)
      (λ n is. (c.in-Err.ensures.endless_stopped n (ap Err is), (c.in-Err.ensures.endless n (ap Err is)).0, (c.in-Err.ensures.endless n (ap Err is)).1))
      goes)),
)
