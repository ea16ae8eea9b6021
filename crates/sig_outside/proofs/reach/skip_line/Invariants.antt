use Rattle.std.proofs.Common.{◌≡◌, ◌-◌}
use Rattle.sig_json.specs.declared.limits.TheConstants.{LAST_NUMBER}
use Rattle.sig_outside.specs.Lines.{HasNoLf}
use Rattle.sig_outside.specs.Held.{Draws}
use Rattle.sig_outside.proofs.reach.skip_line.Given as goal

abbrev pub invariant-pieces : goal.invariant-pieces
invariant-pieces g l = record {
  passed : (draws : Draws l.fn.held l.held (g.S.Source.left l.fn.source) (g.S.Source.left l.source)) × HasNoLf draws.more;
  beside : g.S.Source.beside l.source ≡ g.S.Source.beside l.fn.source;
  steady : g.S.Source.faults l.source ≡ g.S.Source.faults l.fn.source;
}

abbrev pub decreases-pieces : goal.decreases-pieces
decreases-pieces g l = LAST_NUMBER - l.held.taken
