use Rattle.std.proofs.Common.{◌≡◌, drop}
use Rattle.sig_calls.specs.Creating.{client_of}
use Rattle.sig_stream_calls.proofs.clients.client_named.Given as goal

abbrev pub invariant-loop-client : goal.invariant-loop-client
invariant-loop-client l = client_of l.name l.clients ≡ client_of l.name (drop l.client-index l.clients)
