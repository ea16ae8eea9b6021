use Rattle.std.proofs.Common.{◌≡◌, ◌-◌, Ok}
use Rattle.std.specs.Prelude.{⊤}
use Rattle.sig_fetch.specs.Turns.{Halts}
use Rattle.sig_fetch.proofs.MoreRounds.{GoesOn}
use Rattle.sig_fetch.proofs.Tallying.{Tallied}
use Rattle.sig_fetch.proofs.fetching.all_rounds.Given as goal

abbrev pub invariant-loop-made : goal.invariant-loop-made
invariant-loop-made g l = record {
  goes_on : GoesOn l.peer l.rounds (l.rounds - l.made) l.made l.turns.items (g.S.Side.view l.fn.side).ahead (g.S.Side.view l.side).ahead (g.S.Side.view l.fn.side).sent (g.S.Side.view l.side).sent l.fn.node l.node;
  number : l.fetched.rounds ≡ l.made;
  tallied : Tallied l.fn.node l.node l.fetched;
  halts : Halts {T = ⊤} g.D.Disk.told g.D.Disk.faults l.fn.node l.node (Ok tt);
  times : (g.S.Side.view l.side).times ≡ (g.S.Side.view l.fn.side).times;
  counts : (g.S.Side.view l.side).faults ≡ (g.S.Side.view l.fn.side).faults;
}
