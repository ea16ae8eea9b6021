use Rattle.std.proofs.Common.{refl, inl}
use Rattle.std.proofs.lemmas.Result.{IfErr-weaker}
use Rattle.sig_command.specs.Moment.{moment}
use Rattle.sig_command.proofs.CountLemmas.{why_since}
use Rattle.sig_command.proofs.ProgressLemmas.{standing-put, standing-put_failed, on_ok_map}
use Rattle.sig_command.proofs.telling.tell_line.Goals as goal

pub returns-in-Ok-clause-cause : goal.returns-in-Ok-clause-cause
returns-in-Ok-clause-cause g c =
    let before = moment (g.I.Source.left c.args.input.now) (g.I.Source.faults c.args.input.now) (g.O.Sink.written c.args.output.now) (g.O.Sink.faults c.args.output.now) (g.O.Sink.stalls c.args.output.now) in
    let mid = moment (g.I.Source.left c.args.input.now) (g.I.Source.faults c.args.input.now) (g.O.Sink.written c.put_if.new.output) (g.O.Sink.faults c.put_if.new.output) (g.O.Sink.stalls c.put_if.new.output) in
    let after = moment (g.I.Source.left c.tell_next.new.input) (g.I.Source.faults c.tell_next.new.input) (g.O.Sink.written c.put_if.new.output) (g.O.Sink.faults c.put_if.new.output) (g.O.Sink.stalls c.put_if.new.output) in
    IfErr-weaker c.tell_next.result _ _
    (λ e why. why_since (g.T.Teller.told c.args.teller.now) before mid after e (refl, c.in-Ok.ensures.calm) (why mid.output))
    c.tell_next.ensures.cause

pub returns-in-Ok-clause-stands : goal.returns-in-Ok-clause-stands
returns-in-Ok-clause-stands g c =
    on_ok_map c.tell_next.result
    (λ stands told earlier s.
    stands told earlier (g.O.Sink.written c.put_if.new.output)
    (standing-put (g.T.Teller.told c.args.teller.now) (g.T.Teller.stands c.args.teller.now) told c.args.reader.now (g.I.Source.left c.args.input.now) c.args.gathered.now c.put_if.new.gathered
    c.in-Ok.ensures.all.0 earlier (g.O.Sink.written c.args.output.now) (g.O.Sink.written c.put_if.new.output) c.in-Ok.ensures.all.1 c.in-Ok.ensures.all.2 s))
    c.tell_next.ensures.stands

pub returns-in-Ok-clause-ends : goal.returns-in-Ok-clause-ends
returns-in-Ok-clause-ends g c =
    IfErr-weaker c.tell_next.result _ _
    (λ e ends told earlier s.
    ends told earlier (g.O.Sink.written c.put_if.new.output)
    (standing-put (g.T.Teller.told c.args.teller.now) (g.T.Teller.stands c.args.teller.now) told c.args.reader.now (g.I.Source.left c.args.input.now) c.args.gathered.now c.put_if.new.gathered
    c.in-Ok.ensures.all.0 earlier (g.O.Sink.written c.args.output.now) (g.O.Sink.written c.put_if.new.output) c.in-Ok.ensures.all.1 c.in-Ok.ensures.all.2 s))
    c.tell_next.ensures.ends

pub returns-in-Err-clause-cause : goal.returns-in-Err-clause-cause
returns-in-Err-clause-cause g c = (inl refl, c.in-Err.ensures.stopped)

pub returns-in-Err-clause-ends : goal.returns-in-Err-clause-ends
returns-in-Err-clause-ends g c = λ told earlier s.
    standing-put_failed (g.T.Teller.told c.args.teller.now) (g.T.Teller.stands c.args.teller.now) told c.args.reader.now (g.I.Source.left c.args.input.now) c.args.gathered.now
    earlier (g.O.Sink.written c.args.output.now) (g.O.Sink.written c.put_if.new.output) (g.met.T.Teller.grows c.args.teller.now) c.in-Err.ensures.prefix s
