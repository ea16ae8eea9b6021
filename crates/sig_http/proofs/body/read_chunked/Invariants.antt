use Rattle.std.proofs.Common.{◌≡◌, ◌≤◌, ◌-◌, ◌+◌, length, max}
use Rattle.sig_http.specs.declared.limits.TheConstants.{PIECE_BYTES}
use Rattle.sig_http.specs.Chunks.{weight}
use Rattle.sig_http.proofs.BodyLemmas.{Chunking}
use Rattle.sig_http.proofs.body.read_chunked.Given as goal

abbrev pub invariant-pieces : goal.invariant-pieces
invariant-pieces g l = record {
  chunking : Chunking l.limit l.fn.held.items l.standing l.content.items l.held.items (g.S.Source.left l.fn.source) (g.S.Source.left l.source);
  few : length l.held.items ≤ max (length l.fn.held.items) PIECE_BYTES;
  beside : g.S.Source.beside l.source ≡ g.S.Source.beside l.fn.source;
  steady : g.S.Source.faults l.source ≡ g.S.Source.faults l.fn.source;
}

abbrev pub decreases-pieces : goal.decreases-pieces
decreases-pieces g l = weight l.limit l.standing.phase (length l.content.items) + (1 - length l.held.items)
