use Rattle.std.proofs.Common.{◌≤◌, ◌+◌, length, subst, sym}
use Rattle.sig_outside.specs.Modes.{number_once}
use Rattle.sig_outside.proofs.NextLemmas.{next_counts, next_gives, next_fails, next_ends}
use Rattle.sig_outside.proofs.lines.Lines.next.Goals as goal

pub invariant_of-self : goal.invariant_of-self
invariant_of-self g c =
    let counted : number_once c.self.inside.number c.read_line-outcome.result + length c.read_line-outcome.new.held.kept ≤ c.read_line-outcome.new.held.taken =
    next_counts c.args.room c.self.inside.number c.read_line-outcome.result c.self.inside.held c.read_line-outcome.new.held _ _ c.read_line-outcome.ensures.line c.read_line-outcome.ensures.room c.self.invariant.0 in
    (subst (λ n. n + length c.read_line-outcome.new.held.kept ≤ c.read_line-outcome.new.held.taken) (sym c.number_of-self-inside.ensures) counted, c.read_line-outcome.ensures.counted)

pub returns-clause-line : goal.returns-clause-line
returns-clause-line g c =
    next_gives c.args.room c.self.inside.number _ c.read_line-outcome.result c.self.inside.mode _ c.self.inside.held _ _ _ c.args.self.now c.read_line-outcome.ensures.line c.self.view_is

pub returns-clause-stopped : goal.returns-clause-stopped
returns-clause-stopped g c = λ h _.
    next_fails c.self.inside.number _ c.read_line-outcome.result c.self.inside.mode _ c.self.inside.held _ _ _ c.args.self.now c.read_line-outcome.ensures.within h c.self.view_is

pub returns-clause-endless_stopped : goal.returns-clause-endless_stopped
returns-clause-endless_stopped g c = λ n h.
    next_ends n c.self.inside.number _ c.read_line-outcome.result c.self.inside.mode _ c.self.inside.held _ _ _ c.args.self.now c.read_line-outcome.ensures.within h c.self.view_is
