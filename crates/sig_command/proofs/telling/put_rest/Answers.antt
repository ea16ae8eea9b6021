use Rattle.sig_command.specs.Moment.{output_state}
use Rattle.sig_command.proofs.CountLemmas.{at, rest-why, rest_failed-why}
use Rattle.sig_command.proofs.EndLemmas.{stopped-put, stopped-failed}
use Rattle.sig_command.proofs.telling.put_rest.Goals as goal

pub returns-in-Ok-clause-cause : goal.returns-in-Ok-clause-cause
returns-in-Ok-clause-cause g c = λ before input h.
    rest-why (g.T.Teller.told c.args._teller.now) before input
    (output_state (g.O.Sink.written c.args.output.now) (g.O.Sink.faults c.args.output.now) (g.O.Sink.stalls c.args.output.now))
    (output_state (g.O.Sink.written c.put_gathered.new.output) (g.O.Sink.faults c.put_gathered.new.output) (g.O.Sink.stalls c.put_gathered.new.output))
    c.args.ending c.requires c.in-Ok.ensures.calm h

pub returns-in-Ok-clause-text : goal.returns-in-Ok-clause-text
returns-in-Ok-clause-text g c = λ told before input h.
    let new = output_state (g.O.Sink.written c.put_gathered.new.output) (g.O.Sink.faults c.put_gathered.new.output) (g.O.Sink.stalls c.put_gathered.new.output) in
    stopped-put (g.T.Teller.told c.args._teller.now) (g.T.Teller.stands c.args._teller.now) told c.args.gathered.now before (at input new) (g.O.Sink.written c.args.output.now) c.args.ending c.requires h c.in-Ok.ensures.all

pub returns-in-Err-clause-cause : goal.returns-in-Err-clause-cause
returns-in-Err-clause-cause g c = λ before input h.
    rest_failed-why (g.T.Teller.told c.args._teller.now) before input
    (output_state (g.O.Sink.written c.args.output.now) (g.O.Sink.faults c.args.output.now) (g.O.Sink.stalls c.args.output.now))
    (output_state (g.O.Sink.written c.put_gathered.new.output) (g.O.Sink.faults c.put_gathered.new.output) (g.O.Sink.stalls c.put_gathered.new.output))
    c.args.ending c.requires c.in-Err.ensures.stopped h

pub returns-in-Err-clause-text : goal.returns-in-Err-clause-text
returns-in-Err-clause-text g c = λ told before input h.
    let new = output_state (g.O.Sink.written c.put_gathered.new.output) (g.O.Sink.faults c.put_gathered.new.output) (g.O.Sink.stalls c.put_gathered.new.output) in
    stopped-failed (g.T.Teller.told c.args._teller.now) (g.T.Teller.stands c.args._teller.now) told c.args.gathered.now before (at input new) (g.O.Sink.written c.args.output.now) c.args.ending c.requires h c.in-Err.ensures.prefix
