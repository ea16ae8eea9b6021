use Rattle.std.proofs.Common.{◌≡◌, ◌≤◌, ◌-◌, length, take}
use Rattle.sig_places.proofs.places.Places.copy.Given as goal

abbrev pub invariant-loop-entry : goal.invariant-loop-entry
invariant-loop-entry l = record {
  so_far : l.copy.entries ≡ take l.entry-index l.entry-items;
  room : length l.entry-items - l.entry-index ≤ l.copy.room;
}
