use Rattle.std.proofs.Common.{subst, sym}
use Rattle.sig_command.specs.Moment.{moment}
use Rattle.sig_command.specs.Telling.{WhyEnded, Wrote}
use Rattle.sig_command.specs.Progress.{LinesEnded}
use Rattle.sig_command.proofs.EndLemmas.{some-map}
use Rattle.sig_command.proofs.telling.tell_all.Goals as goal

pub returns-clause-cause : goal.returns-clause-cause
returns-clause-cause g c =
    let before = moment (g.I.Source.left c.args.input.now) (g.I.Source.faults c.args.input.now) (g.O.Sink.written c.args.output.now) (g.O.Sink.faults c.args.output.now) (g.O.Sink.stalls c.args.output.now) in
    let mid = moment (g.I.Source.left c.tell_lines-ending.new.input) (g.I.Source.faults c.tell_lines-ending.new.input) (g.O.Sink.written c.tell_lines-ending.new.output) (g.O.Sink.faults c.tell_lines-ending.new.output) (g.O.Sink.stalls c.tell_lines-ending.new.output) in
    let after = moment (g.I.Source.left c.tell_lines-ending.new.input) (g.I.Source.faults c.tell_lines-ending.new.input) (g.O.Sink.written c.close.new.output) (g.O.Sink.faults c.close.new.output) (g.O.Sink.stalls c.close.new.output) in
    subst (λ t. WhyEnded t before after c.close.result) c.tell_lines-ending.ensures.told
    (c.close.ensures.cause before mid.input
    (subst (λ t. WhyEnded t before mid c.tell_lines-ending.result) (sym c.tell_lines-ending.ensures.told) c.tell_lines-ending.ensures.cause))

pub returns-clause-text : goal.returns-clause-text
returns-clause-text g c =
    let before = moment (g.I.Source.left c.args.input.now) (g.I.Source.faults c.args.input.now) (g.O.Sink.written c.args.output.now) (g.O.Sink.faults c.args.output.now) (g.O.Sink.stalls c.args.output.now) in
    let after = moment (g.I.Source.left c.tell_lines-ending.new.input) (g.I.Source.faults c.tell_lines-ending.new.input) (g.O.Sink.written c.close.new.output) (g.O.Sink.faults c.close.new.output) (g.O.Sink.stalls c.close.new.output) in
    some-map (g.I.Source.left c.args.input.now)
    (λ told h.
    subst (λ t. Wrote t told before after c.close.result) c.tell_lines-ending.ensures.told
    (c.close.ensures.text told before after.input
    (subst (λ t. LinesEnded t (g.T.Teller.stands c.tell_lines-ending.new.teller) told (g.I.Source.left c.tell_lines-ending.new.input) c.tell_lines-ending.new.gathered (g.O.Sink.written c.args.output.now) (g.O.Sink.written c.tell_lines-ending.new.output) c.tell_lines-ending.result) (sym c.tell_lines-ending.ensures.told) h)))
    c.tell_lines-ending.ensures.ends
