use Rattle.std.proofs.Common.{◌≡◌, ◌≤◌, ◌-◌, ◌+◌, length, max}
use Rattle.sig_http.specs.declared.limits.TheConstants.{PIECE_BYTES}
use Rattle.sig_http.specs.Taking.{DrawsWhile, IsOpenBody}
use Rattle.sig_http.specs.declared.framing.Framing.TheVariants as framings
use Rattle.sig_http.proofs.body.read_length.Given as goal

abbrev pub invariant-pieces : goal.invariant-pieces
invariant-pieces g l = record {
  awaits : DrawsWhile (IsOpenBody 0 (framings.Length l.count)) l.fn.held.items l.content.items (g.S.Source.left l.fn.source) (g.S.Source.left l.source);
  few : length l.content.items ≤ max (length l.fn.held.items) (l.count + PIECE_BYTES);
  beside : g.S.Source.beside l.source ≡ g.S.Source.beside l.fn.source;
  steady : g.S.Source.faults l.source ≡ g.S.Source.faults l.fn.source;
}

abbrev pub decreases-pieces : goal.decreases-pieces
decreases-pieces g l = l.count - length l.content.items
