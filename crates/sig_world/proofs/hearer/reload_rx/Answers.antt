use Rattle.std.proofs.Common.{◌∙◌, subst, sym}
use Rattle.sig_nodes.specs.Receiving.{RxAt}
use Rattle.sig_schedules.specs.Replay.{receiver_store}
use Rattle.sig_world.specs.Ends.{RxIn}
use Rattle.sig_world.proofs.EndsLemmas.{held}
use Rattle.sig_world.proofs.hearer.reload_rx.Goals as goal

pub returns-in_ok-again-in-Some : goal.returns-in_ok-again-in-Some
returns-in_ok-again-in-Some c = λ texts at.
    subst (λ o. RxIn o texts) (sym c.put_rx.ensures)
    (subst (λ rules. RxAt rules receiver_store c.in_ok-again-in-Some.again texts) c.in_ok-rules.ensures
    (c.in_ok-again-in-Some.ensures receiver_store texts
    (subst (λ rules. RxAt rules receiver_store c.in-Some.node texts) (sym c.in_ok-rules.ensures) (held _ c.args.rx.now c.in-Some.node (sym c.take.ensures.value ∙ c.in-Some.is) at))))
