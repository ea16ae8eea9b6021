use Rattle.std.proofs.Common.{◌≡◌, ◌≤◌, ◌+◌, drop, length}
use Rattle.sig_http.specs.Chunks.{chunks_from, weight}
use Rattle.sig_http.proofs.chunks.read_chunks.Given as goal

abbrev pub invariant-loop-place : goal.invariant-loop-place
invariant-loop-place l = record {
  told : chunks_from l.limit l.fn.standing l.fn.content.items l.bytes ≡ chunks_from l.limit l.standing l.content.items (drop l.place l.bytes);
  light : weight l.limit l.standing.phase (length l.content.items) + l.place ≤ weight l.limit l.fn.standing.phase (length l.fn.content.items);
}
