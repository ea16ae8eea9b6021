use Rattle.std.proofs.Common.{rules, ◌≡◌, length}
use Rattle.sig_rxnode.specs.Node.{NodeView}
use Rattle.sig_rxnode.specs.Parts.{holding_of}
use Rattle.sig_rxnode.proofs.HistoryLemmas.{fresh}
use Rattle.sig_rxnode.proofs.node.node_of.Goals as goal

pub invariant_of-result : goal.invariant_of-result
invariant_of-result g c =
    let D = g.D.Disk in
    let node : NodeView g.row.D.Denot = record { kept = holding_of c.args.kept; rules = c.args.rules; turns = c.new.result.items; opened = c.len-opened.result } in
    let opened : c.len-opened.result ≡ length c.args.kept.entries.items = search rules in
    record {
      holds = c.requires.holds;
      trusts = c.in-Ok.ensures;
      history = fresh D.told D.seen D.may_leave node c.requires.holds opened c.new.ensures c.requires.fresh.0 c.requires.fresh.1;
    }
