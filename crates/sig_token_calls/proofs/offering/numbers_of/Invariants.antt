use Rattle.std.proofs.Common.{◌≡◌, ℕ, take, nat_eq}
use Rattle.indexmap.specs.IndexSet.{contains}
use Rattle.sig_history.specs.Owed.{names_number}
use Rattle.sig_token_calls.proofs.offering.numbers_of.Given as goal

abbrev pub invariant-loop-item : goal.invariant-loop-item
invariant-loop-item l = (n : ℕ) → contains nat_eq l.numbers n ≡ names_number n (take l.item-index l.items)
