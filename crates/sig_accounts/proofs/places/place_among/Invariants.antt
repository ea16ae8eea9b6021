use Rattle.std.proofs.Common.{◌≡◌, find, drop}
use Rattle.sig_accounts.specs.Places.{stands_at}
use Rattle.sig_accounts.proofs.places.place_among.Given as goal

abbrev pub invariant-loop-place : goal.invariant-loop-place
invariant-loop-place l = find (stands_at l.id l.published) (drop l.place-index l.places) ≡ find (stands_at l.id l.published) l.places
