use Rattle.std.proofs.Common.{nat_eq}
use Rattle.std.proofs.lemmas.List.Filters.{FiltersInPlace}
use Rattle.indexmap.specs.IndexSet.{contains}
use Rattle.sig_accounts.specs.Debts.{is_left}
use Rattle.sig_accounts.proofs.debts.sift_down.Given as goal

abbrev pub invariant-loop-read : goal.invariant-loop-read
invariant-loop-read l = FiltersInPlace (is_left (contains nat_eq l.numbers)) l.initial.debts l.debts l.kept l.read
