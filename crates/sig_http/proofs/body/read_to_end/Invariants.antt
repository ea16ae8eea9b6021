use Rattle.std.proofs.Common.{◌≡◌, ◌-◌, ◌+◌, length}
use Rattle.sig_http.specs.Taking.{DrawsWhile, IsOpenBody}
use Rattle.sig_http.specs.declared.framing.Framing.TheVariants as framings
use Rattle.sig_http.proofs.body.read_to_end.Given as goal

abbrev pub invariant-pieces : goal.invariant-pieces
invariant-pieces g l = record {
  awaits : DrawsWhile (IsOpenBody l.limit framings.End) l.fn.held.items l.content.items (g.S.Source.left l.fn.source) (g.S.Source.left l.source);
  beside : g.S.Source.beside l.source ≡ g.S.Source.beside l.fn.source;
  steady : g.S.Source.faults l.source ≡ g.S.Source.faults l.fn.source;
}

abbrev pub decreases-pieces : goal.decreases-pieces
decreases-pieces g l = l.limit + 1 - length l.content.items
