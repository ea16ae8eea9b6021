use Rattle.std.proofs.Common.{subst}
use Rattle.std.specs.Io.KnownBytes.{Appends}
use Rattle.sig_outside.specs.Causes.{AppendsPrefix}
use Rattle.sig_service.proofs.LastLineLemmas.{cut_first, cut_last, cut_second, on_err, on_err-then}
use Rattle.sig_service.proofs.last_line.put_parts.Goals as goal

pub returns-in_err-put_all-clause-prefix : goal.returns-in_err-put_all-clause-prefix
returns-in_err-put_all-clause-prefix g c =
    let old = g.O.Sink.written c.args.output.now in
    let new = g.O.Sink.written c.put_all.new.sink in
    on_err c.from_residual.result _
    (cut_first old new c.args.front.now c.args.middle.now c.args.back.now (subst (AppendsPrefix old new) c.as_bytes.ensures.value c.in_err-put_all.ensures.prefix))

pub returns-in_err-put_all-2-clause-prefix : goal.returns-in_err-put_all-2-clause-prefix
returns-in_err-put_all-2-clause-prefix g c =
    let old = g.O.Sink.written c.args.output.now in
    let first = g.O.Sink.written c.put_all.new.sink in
    let new = g.O.Sink.written c.put_all-2.new.sink in
    on_err c.from_residual-in_err-put_all-2.result _
    (cut_second old first new c.args.front.now c.args.middle.now c.args.back.now (subst (Appends old first) c.as_bytes.ensures.value c.in_ok-put_all.ensures.all)
    (subst (AppendsPrefix first new) c.as_bytes-2.ensures.value c.in_err-put_all-2.ensures.prefix))

pub returns-clause-prefix : goal.returns-clause-prefix
returns-clause-prefix g c =
    let old = g.O.Sink.written c.args.output.now in
    let first = g.O.Sink.written c.put_all.new.sink in
    let second = g.O.Sink.written c.put_all-2.new.sink in
    let new = g.O.Sink.written c.put_all-3.new.sink in
    on_err-then c.put_all-3.result (AppendsPrefix second new c.as_bytes-3.result.now) _
    (λ cut. cut_last old first second new c.args.front.now c.args.middle.now c.args.back.now (subst (Appends old first) c.as_bytes.ensures.value c.in_ok-put_all.ensures.all)
    (subst (Appends first second) c.as_bytes-2.ensures.value c.in_ok-put_all-2.ensures.all) (subst (AppendsPrefix second new) c.as_bytes-3.ensures.value cut))
    c.put_all-3.ensures.prefix
