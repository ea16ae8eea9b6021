use Rattle.std.proofs.Common.{◌≡◌, None}
use Rattle.sig_opening.proofs.WatchLemmas.{Ran}
use Rattle.sig_serve.specs.Door.{with_door}
use Rattle.sig_serve.specs.Watches.{IsWatch, tells_of}
use Rattle.sig_serve.proofs.watches.run_watches.Given as goal

abbrev pub invariant-loop : goal.invariant-loop
invariant-loop g l = record {
  ran : Ran (IsWatch l.fn.node.rules) tells_of l.counter
      (with_door g.D.Disk.told l.fn.node (g.A.Door.view l.fn.door))
      (with_door g.D.Disk.told l.node (g.A.Door.view l.door));
  rules : l.node.rules ≡ l.fn.node.rules;
  whole : l.node.store.broken_at ≡ None;
}
