use Rattle.std.proofs.Common.{◌≡◌, ℕ, take, drop, nat_eq}
use Rattle.indexmap.specs.IndexSet.{contains}
use Rattle.sig_history.specs.Owed.{names_number}
use Rattle.sig_history.specs.Sound.{each_once}
use Rattle.sig_ledger.proofs.OnceLemmas.{are_new}
use Rattle.sig_ledger.proofs.ledger.fitting.are_distinct.Given as goal

abbrev pub invariant-loop-item : goal.invariant-loop-item
invariant-loop-item l = record {
  named : (n : ℕ) → contains nat_eq l.numbers n ≡ names_number n (take l.item-index l.items);
  once : each_once l.items ≡ are_new (take l.item-index l.items) (drop l.item-index l.items);
}
