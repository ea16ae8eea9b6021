use Rattle.std.proofs.Common.{◌≡◌, ◌≤◌, ◌&&◌, ℕ, length, not, take}
use Rattle.std.specs.List.{list_any}
use Rattle.std.specs.Map.{keys_of}
use Rattle.std.specs.Prelude.{nat_eq}
use Rattle.sig_subject.specs.Matching.{is_identical}
use Rattle.sig_subject.specs.declared.subject.Subject.{Subject}
use Rattle.sig_accounts.specs.Listening.{is_among}
use Rattle.sig_accounts.proofs.subjects.leave_each.Given as goal

abbrev pub invariant-loop-index : goal.invariant-loop-index
invariant-loop-index l = record {
  within : l.index ≤ length l.places.entries;
  gone : (s : Subject) (n : ℕ) → is_among s n l.lists.entries
      ≡ (is_among s n l.fn.lists.entries && not (list_any (is_identical s) (take l.index (keys_of l.places.entries)) && nat_eq n l.seat));
}
