use Rattle.std.proofs.Common.{◌≡◌, ◌↔◌, ◌≤◌, drop, length}
use Rattle.indexmap.specs.IndexMap.{keys}
use Rattle.sig_accounts.specs.Listing.{listed_in}
use Rattle.sig_accounts.proofs.subjects.same_listed.Given as goal

abbrev pub invariant-loop-place : goal.invariant-loop-place
invariant-loop-place l =
    (l.place ≤ length l.order) × (l.from ≤ length l.other_order)
    × ((listed_in (keys l.places) l.order ≡ listed_in (keys l.other_places) l.other_order)
    ↔ (listed_in (keys l.places) (drop l.place l.order) ≡ listed_in (keys l.other_places) (drop l.from l.other_order)))
