use Rattle.std.proofs.Common.{sym, refl, arith, rules}
use Rattle.std.proofs.lemmas.List.Filters.{FiltersInPlace-all, FiltersInPlace-more_no, FiltersInPlace-more_swap}
use Rattle.sig_accounts.proofs.debts.sift_down.Goals as goal

pub loop-read-init : goal.loop-read-init
loop-read-init c = record { front = sym c.requires.left; rest = refl; behind = omega arith; within = c.requires.within; long = refl }

pub loop-read-preserved : goal.loop-read-preserved
loop-read-preserved c = elim c.if-not-contains.branch [
  | goal.then-not-contains w ↦ rw (w.debts-is, w.kept-is) (FiltersInPlace-more_swap c.loop-read.invariant (omega arith) (search (rules, c.contains.ensures, w.if-not-contains.true)) c.index-debts-read.is w.swap.ensures.by_index)
  | goal.else-not-contains w ↦ rw (w.debts-is, w.kept-is) (FiltersInPlace-more_no c.loop-read.invariant (omega arith) (search (rules, c.contains.ensures, w.if-not-contains.false)) c.index-debts-read.is)
]

pub returns-clause-left : goal.returns-clause-left
returns-clause-left c = FiltersInPlace-all c.loop-read.invariant (omega arith)
