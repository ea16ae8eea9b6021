use Rattle.std.proofs.Common.{◌≡◌, ◌++◌, take}
use Rattle.sig_tick.specs.Listing.{pushes_of}
use Rattle.sig_tick.proofs.listing.add_all.Given as goal

abbrev pub invariant-loop-conf : goal.invariant-loop-conf
invariant-loop-conf l = l.names.items ≡ l.fn.names.items ++ pushes_of (take l.conf-index l.confs)
