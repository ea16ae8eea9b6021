use Rattle.std.proofs.Common.{◌++◌, take, ◌∙◌, ap, sym, append_assoc, take-append-drop}
use Rattle.std.proofs.KnownBytes.{Appends-trans}
use Rattle.sig_outside.proofs.CauseLemmas.{stalls_moved}
use Rattle.sig_outside.proofs.sink.put_all.Goals as goal

pub loop-rest-preserved : goal.loop-rest-preserved
loop-rest-preserved g c =
    let before = c.loop-rest.invariant in
    let taken = take c.in-Ok.count c.loop-rest.rest.now in
    let whole = before.so_far.1 ∙ ap (λ l. before.so_far.0 ++ l) (sym (take-append-drop c.in-Ok.count c.loop-rest.rest.now) ∙ ap (λ l. taken ++ l) (sym c.split_at.ensures.back)) ∙ sym (append_assoc before.so_far.0 taken c.split_at.result.1.now) in
    record {
      so_far = (before.so_far.0 ++ taken, whole, Appends-trans _ _ _ _ _ before.so_far.2 c.in-Ok.ensures.bytes);
      beside = c.in-Ok.ensures.beside ∙ before.beside;
      steady = c.in-Ok.ensures.cause.stays ∙ before.steady;
      flows = stalls_moved _ _ c.in-Ok.count c.loop-rest.rest.now c.in-Ok.ensures.stalls c.in-Ok.count-test.1 ∙ before.flows;
    }
