use Rattle.std.proofs.Common.{◌≡◌, ◌++◌, take, drop}
use Rattle.sig_memory_links.specs.Named.{but_named, first_named}
use Rattle.sig_memory_links.proofs.named.place_of.Given as goal

abbrev pub invariant-loop-at : goal.invariant-loop-at
invariant-loop-at g l = record {
  value : first_named g.T.Named.name l.name l.list ≡ first_named g.T.Named.name l.name (drop l.at l.list);
  others : but_named g.T.Named.name l.name l.list ≡ take l.at l.list ++ but_named g.T.Named.name l.name (drop l.at l.list);
}
