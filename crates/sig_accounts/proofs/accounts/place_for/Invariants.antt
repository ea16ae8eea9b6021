use Rattle.std.proofs.Common.{◌≡◌, ◌++◌, take, drop}
use Rattle.sig_accounts.specs.Owings.{put_balance}
use Rattle.sig_accounts.proofs.accounts.place_for.Given as goal

abbrev pub invariant-loop-place : goal.invariant-loop-place
invariant-loop-place l = take l.place l.accounts ++ put_balance l.new (drop l.place l.accounts) ≡ put_balance l.new l.accounts
