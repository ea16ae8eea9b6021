use Rattle.std.proofs.Common.{◌≡◌, ◌-◌}
use Rattle.sig_json.specs.declared.limits.TheConstants.{LAST_NUMBER}
use Rattle.sig_outside.specs.Lines.{HasNoLf}
use Rattle.sig_outside.specs.Held.{Grows}
use Rattle.sig_outside.proofs.reach.find_further.Given as goal

abbrev pub invariant-pieces : goal.invariant-pieces
invariant-pieces g l = record {
  grows : Grows l.fn.held l.held (g.S.Source.left l.fn.source) (g.S.Source.left l.source);
  within : HasNoLf l.held.kept;
  beside : g.S.Source.beside l.source ≡ g.S.Source.beside l.fn.source;
  steady : g.S.Source.faults l.source ≡ g.S.Source.faults l.fn.source;
}

abbrev pub decreases-pieces : goal.decreases-pieces
decreases-pieces g l = LAST_NUMBER - l.held.taken
