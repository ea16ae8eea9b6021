use Rattle.std.proofs.Common.{◌≡◌, take}
use Rattle.sig_tick.specs.Listing.{names_of}
use Rattle.sig_tick.proofs.listing.names_of.Given as goal

abbrev pub invariant-loop-client : goal.invariant-loop-client
invariant-loop-client l = l.names.items ≡ names_of (take l.client-index l.clients)
