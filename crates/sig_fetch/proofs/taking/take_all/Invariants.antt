use Rattle.std.proofs.Common.{Ok, drop}
use Rattle.std.specs.Prelude.{⊤}
use Rattle.sig_fetch.specs.Turns.{Halts}
use Rattle.sig_fetch.proofs.TakenLemmas.{GoesOn}
use Rattle.sig_fetch.proofs.taking.take_all.Given as goal

abbrev pub invariant-loop-token : goal.invariant-loop-token
invariant-loop-token g l = record {
  goes_on : GoesOn l.peer l.tokens (drop l.token-index l.tokens) l.fn.turns.items l.turns.items l.fn.node l.node;
  halts : Halts {T = ⊤} g.D.Disk.told g.D.Disk.faults l.fn.node l.node (Ok tt);
}
