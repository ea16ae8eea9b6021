use Rattle.std.proofs.Common.{subst}
use Rattle.std.specs.Str.Lines.{lines}
use Rattle.sig_command.specs.Moment.{output_state}
use Rattle.sig_command.specs.Progress.{LinesEnded}
use Rattle.sig_command.specs.Telling.{WhyEnded}
use Rattle.sig_command.proofs.CountLemmas.{at, last-why}
use Rattle.sig_command.proofs.EndLemmas.{last-wrote, nothing-follows}
use Rattle.sig_command.proofs.telling.close.Goals as goal

pub returns-in-Done-clause-cause : goal.returns-in-Done-clause-cause
returns-in-Done-clause-cause g c = λ before input h.
    let old = output_state (g.O.Sink.written c.args.output.now) (g.O.Sink.faults c.args.output.now) (g.O.Sink.stalls c.args.output.now) in
    let new = output_state (g.O.Sink.written c.close.new.output) (g.O.Sink.faults c.close.new.output) (g.O.Sink.stalls c.close.new.output) in
    last-why (g.T.Teller.told c.args.teller.now) before input old new c.close.result
    (subst (WhyEnded (g.T.Teller.told c.args.teller.now) before (at input old)) c.in-Done.is h) c.close.ensures.cause

pub returns-in-Done-clause-text : goal.returns-in-Done-clause-text
returns-in-Done-clause-text g c = λ told before input h.
    let new = output_state (g.O.Sink.written c.close.new.output) (g.O.Sink.faults c.close.new.output) (g.O.Sink.stalls c.close.new.output) in
    let all = subst (LinesEnded (g.T.Teller.told c.args.teller.now) (g.T.Teller.stands c.args.teller.now) told input.left c.args.gathered.now before.output.written (g.O.Sink.written c.args.output.now)) c.in-Done.is h in
    last-wrote (g.T.Teller.told c.args.teller.now) (g.T.Teller.stands c.args.teller.now) told c.args.gathered.now before (at input new) (g.O.Sink.written c.args.output.now) c.close.result
    all (c.close.ensures.text (lines told) all.stood)

pub returns-in-Output-clause-text : goal.returns-in-Output-clause-text
returns-in-Output-clause-text g c = λ told before input h.
    let old = output_state (g.O.Sink.written c.args.output.now) (g.O.Sink.faults c.args.output.now) (g.O.Sink.stalls c.args.output.now) in
    nothing-follows (g.T.Teller.told c.args.teller.now) (g.T.Teller.stands c.args.teller.now) told c.args.gathered.now before (at input old) c.args.ending c.in-Output.is h
