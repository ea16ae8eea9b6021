use Rattle.std.proofs.Common.{rules}
use Rattle.sig_logs.proofs.PlaceLemmas.{differs_after, differs_here, same_all, walked_by, walked_none, walked_on}
use Rattle.sig_logs.proofs.comparing.place_of.Goals.{else-link, then-link+else-not-stands_at}
use Rattle.sig_logs.proofs.comparing.place_of.Goals as goal

pub loop-i-init : goal.loop-i-init
loop-i-init g c = walked_none _ _ _ _

pub returns-then-not-stands_at : goal.returns-then-not-stands_at
returns-then-not-stands_at g c = differs_here _ _ _ _ c.index-turns-i.result _ _ c.loop-i-test.true c.index-turns-i.is (search rules) (search rules) c.loop-i.invariant

pub loop-i-preserved : goal.loop-i-preserved
loop-i-preserved g c = elim c.if-link.branch [
  | then-link+else-not-stands_at w ↦ walked_on _ _ _ _ _ c.index-turns-i.result _ _ c.loop-i-test.true c.index-turns-i.is (search rules) (search rules) w.place-is c.loop-i.invariant
  | else-link w ↦ walked_by _ _ _ _ _ c.index-turns-i.result _ _ c.loop-i-test.true c.index-turns-i.is (search rules) w.place-is c.loop-i.invariant
]

pub returns-then-place-logged : goal.returns-then-place-logged
returns-then-place-logged g c = differs_after _ _ _ _ _ _ c.loop-i-test.false c.if-place-logged.true c.loop-i.invariant

pub returns : goal.returns
returns g c = same_all _ _ _ _ _ _ c.loop-i-test.false c.if-place-logged.false c.loop-i.invariant
