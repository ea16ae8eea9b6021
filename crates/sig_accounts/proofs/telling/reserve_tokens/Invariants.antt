use Rattle.std.proofs.Common.{◌≡◌, ℕ, ◌<◌, map, get_or}
use Rattle.sig_history.specs.Facts.{is_told}
use Rattle.sig_accounts.specs.Owings.{Balance, HasRoomFor, owing_in, room_in}
use Rattle.sig_accounts.proofs.telling.reserve_tokens.Given as goal

abbrev pub invariant-loop-place : goal.invariant-loop-place
invariant-loop-place l = record {
  same : map owing_in l.accounts ≡ map owing_in l.fn.accounts;
  rooms : (k : ℕ) (d : Balance) → k < l.place → HasRoomFor (is_told l.addressed.fact) room_in (get_or l.accounts k d);
}
