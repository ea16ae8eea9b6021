use Rattle.std.proofs.Common.{rules, ◌≡◌, ◌∙◌, ap, length, None}
use Rattle.sig_rxnode.specs.Node.{NodeView}
use Rattle.sig_rxnode.specs.Parts.{holding_of}
use Rattle.sig_rxnode.proofs.HistoryLemmas.{fresh}
use Rattle.sig_rxnode.proofs.node.RxNode.open_watch.Goals as goal

pub invariant_of-self : goal.invariant_of-self
invariant_of-self g c =
    let D = g.D.Disk in
    let node : NodeView g.row.D.Denot = record { kept = holding_of c.self.inside.kept; rules = c.self.inside.rules; turns = c.new.result.items; opened = c.len-self-inside.result } in
    let opened : c.len-self-inside.result ≡ length c.self.inside.kept.entries.items = search rules in
    let whole : c.self.inside.kept.store.broken_at ≡ None = ap (λ (v : NodeView g.row.D.Denot). v.kept.store.broken_at) c.self.view_is ∙ c.requires in
    record {
      holds = c.self.invariant.holds;
      trusts = c.self.invariant.trusts;
      history = fresh D.told D.seen D.may_leave node c.self.invariant.holds opened c.new.ensures whole c.self.invariant.history.kind;
    }
