use Rattle.std.proofs.Common.{◌≡◌, ◌≤◌, length, take}
use Rattle.sig_accounts.proofs.subjects.copy_places.Given as goal

abbrev pub invariant-loop-index : goal.invariant-loop-index
invariant-loop-index l = (l.index ≤ length l.places.entries) × (l.copy.entries ≡ take l.index l.places.entries)
