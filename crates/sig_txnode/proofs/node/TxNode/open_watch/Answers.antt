use Rattle.std.proofs.Common.{◌≡◌, ◌∙◌, ap, None}
use Rattle.sig_txnode.specs.Node.{NodeView}
use Rattle.sig_txnode.proofs.NodeLemmas.{new_node}
use Rattle.sig_txnode.proofs.node.TxNode.open_watch.Goals as goal

pub invariant_of-self : goal.invariant_of-self
invariant_of-self g c =
    let D = g.D.Disk in
    let old = c.self.inside in
    let unbroken : old.held.store.broken_at ≡ None = ap (λ (k : NodeView g.row.D.Denot). k.store.broken_at) c.self.view_is ∙ c.requires in
    new_node D.told D.seen D.may_leave old.held.store old.rules old.held.outbox.sum c.of.result.value.sum c.new.result.items c.new-2.result.items
    c.self.invariant.proper c.self.invariant.whole_now (ap (λ o. o.sum) c.of.ensures) c.new.ensures c.new-2.ensures unbroken c.self.invariant.kind c.self.invariant.stands
