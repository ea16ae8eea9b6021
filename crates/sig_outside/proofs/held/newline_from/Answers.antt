use Rattle.std.proofs.Common.{rules, ◌≡◌, false, subst, arith}
use Rattle.std.specs.Prelude.{◌==◌}
use Rattle.std.proofs.lemmas.List.Elements.{All-more}
use Rattle.std.proofs.lemmas.List.{take_all}
use Rattle.sig_outside.specs.Lines.{HasNoLf}
use Rattle.sig_outside.proofs.held.newline_from.Goals as goal

pub loop-at-preserved : goal.loop-at-preserved
loop-at-preserved c = All-more (λ b. (b == 10) ≡ false) c.args.bytes.now c.loop-at.at 0 (omega arith) c.loop-at.invariant (search rules)

pub returns-clause-none : goal.returns-clause-none
returns-clause-none c = subst HasNoLf (take_all c.loop-at.at c.args.bytes.now (omega arith)) c.loop-at.invariant

pub returns-clause-some : goal.returns-clause-some
returns-clause-some c = subst HasNoLf (take_all c.loop-at.at c.args.bytes.now (omega arith)) c.loop-at.invariant
