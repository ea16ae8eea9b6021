use Rattle.std.proofs.Common.{◌∙◌, ◌+◌, ap, refl, subst, sym, Err}
use Rattle.std.specs.Prelude.{IfSome}
use Rattle.std.proofs.lemmas.Result.{IfErr-weaker}
use Rattle.sig_outside.specs.Lines.{Gives, Stops}
use Rattle.sig_command.specs.Progress.{LinesEnded}
use Rattle.sig_command.specs.Telling.{WhyEnded}
use Rattle.sig_command.proofs.CountLemmas.{at}
use Rattle.sig_command.proofs.ProgressLemmas.{failed_now, fault-why, standing-told, stood-more, untold-ends, untold-why, stopped-ends, number-more, on_ok_two}
use Rattle.sig_command.proofs.telling.tell_next.Goals as goal

pub returns-in-Ok-clause-stood : goal.returns-in-Ok-clause-stood
returns-in-Ok-clause-stood g c =
    on_ok_two c.take_line.result
    (λ some telt. stood-more (g.T.Teller.told c.args.teller.now) (g.T.Teller.stands c.args.teller.now) (g.T.Teller.stands c.take_line.new.teller) g.T.Teller.room c.args.before c.args.gathered.now c.take_line.new.gathered c.in-Ok.line c.requires.stood some telt)
    c.take_line.ensures.some c.take_line.ensures.takes

pub returns-in-Ok-clause-cause : goal.returns-in-Ok-clause-cause
returns-in-Ok-clause-cause g c =
    IfErr-weaker c.take_line.result _ _
    (λ e u out. untold-why (g.T.Teller.told c.args.teller.now) (g.T.Teller.stands c.args.teller.now) (g.T.Teller.stands c.take_line.new.teller) g.T.Teller.room c.args.before
    (at (record { left = g.I.Source.left c.args.input.now; faults = g.I.Source.faults c.args.input.now }) out) (at (record { left = g.I.Source.left c.next.new.source; faults = g.I.Source.faults c.next.new.source }) out)
    c.args.gathered.now c.take_line.new.gathered c.in-Ok.line e c.requires.stood (c.in-Ok.ensures.steady (λ failed. cc), (refl, refl)) u)
    c.take_line.ensures.ends

pub returns-in-Ok-clause-stands : goal.returns-in-Ok-clause-stands
returns-in-Ok-clause-stands g c =
    on_ok_two c.take_line.result
    (λ some telt told earlier now s.
    standing-told (g.T.Teller.told c.args.teller.now) (g.T.Teller.stands c.args.teller.now) (g.T.Teller.stands c.take_line.new.teller) g.T.Teller.room c.args.before told c.args.reader.now c.next.new.self (g.I.Source.left c.args.input.now) (g.I.Source.left c.next.new.source)
    c.args.gathered.now c.take_line.new.gathered earlier now c.in-Ok.line s
    (subst (λ r. Gives r c.in-Ok.line c.args.reader.now c.next.new.self s.rest (g.I.Source.left c.next.new.source)) c.room.ensures
    (subst (λ o. IfSome o (λ left. Gives c.room.result c.in-Ok.line c.args.reader.now c.next.new.self left (g.I.Source.left c.next.new.source))) s.told c.in-Ok.ensures.line))
    some c.requires.counted (c.in-Ok.ensures.numbers.0 ∙ number-more c.in-Ok.line c.args.reader.now.number some ∙ ap (λ n. n + 1) c.requires.counted) telt)
    c.take_line.ensures.some c.take_line.ensures.takes

pub returns-in-Ok-clause-ends : goal.returns-in-Ok-clause-ends
returns-in-Ok-clause-ends g c =
    IfErr-weaker c.take_line.result _ _
    (λ e u told earlier now s.
    untold-ends (g.T.Teller.told c.args.teller.now) (g.T.Teller.stands c.args.teller.now) (g.T.Teller.stands c.take_line.new.teller) g.T.Teller.room c.args.before told c.args.reader.now c.next.new.self (g.I.Source.left c.args.input.now) (g.I.Source.left c.next.new.source)
    c.args.gathered.now c.take_line.new.gathered earlier now c.in-Ok.line e (g.met.T.Teller.grows c.args.teller.now) (g.met.T.Teller.stays c.args.teller.now) s
    (subst (λ r. Gives r c.in-Ok.line c.args.reader.now c.next.new.self s.rest (g.I.Source.left c.next.new.source)) c.room.ensures
    (subst (λ o. IfSome o (λ left. Gives c.room.result c.in-Ok.line c.args.reader.now c.next.new.self left (g.I.Source.left c.next.new.source))) s.told c.in-Ok.ensures.line))
    c.requires.counted u)
    c.take_line.ensures.ends

pub returns-in-Err-clause-cause : goal.returns-in-Err-clause-cause
returns-in-Err-clause-cause g c = λ out.
    let old = at (record { left = g.I.Source.left c.args.input.now; faults = g.I.Source.faults c.args.input.now }) out in
    let new = at (record { left = g.I.Source.left c.next.new.source; faults = g.I.Source.faults c.next.new.source }) out in
    subst (WhyEnded (g.T.Teller.told c.args.teller.now) old new) (sym c.ending_of.ensures)
    (fault-why (g.T.Teller.told c.args.teller.now) old new c.in-Err.fault
    (λ is. failed_now c.args.reader.now c.requires.open (c.in-Err.ensures.failed (ap Err is)))
    (λ other. c.in-Err.ensures.steady (λ failed. other (cc)))
    (λ n is. (c.in-Err.ensures.endless n (ap Err is)).0) (refl, refl))

pub returns-in-Err-clause-ends : goal.returns-in-Err-clause-ends
returns-in-Err-clause-ends g c = λ told earlier now s.
    subst (λ e. LinesEnded (g.T.Teller.told c.args.teller.now) (g.T.Teller.stands c.args.teller.now) told (g.I.Source.left c.next.new.source) c.args.gathered.now earlier now e)
    (sym c.ending_of.ensures)
    (stopped-ends (g.T.Teller.told c.args.teller.now) (g.T.Teller.stands c.args.teller.now) told c.args.reader.now c.next.new.self (g.I.Source.left c.args.input.now) (g.I.Source.left c.next.new.source)
    c.args.gathered.now earlier now c.in-Err.fault (g.met.T.Teller.grows c.args.teller.now) s
    (λ e. subst (λ o. IfSome o (λ left. Stops c.args.reader.now c.next.new.self left (g.I.Source.left c.next.new.source))) s.told (c.in-Err.ensures.stopped (ap Err e) c.requires.open))
    (λ n e. (
      subst (λ o. IfSome o (λ left. Stops c.args.reader.now c.next.new.self left (g.I.Source.left c.next.new.source))) s.told (c.in-Err.ensures.endless_stopped n (ap Err e)),
      (c.in-Err.ensures.endless n (ap Err e)).0 ∙ sym (c.in-Err.ensures.endless n (ap Err e)).1,
    )))
