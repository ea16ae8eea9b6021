use Rattle.std.proofs.Common.{◌≡◌, ◌+◌, drop}
use Rattle.std.specs.List.{position_or_len}
use Rattle.sig_accounts.specs.Owings.{has_name}
use Rattle.sig_accounts.proofs.accounts.place_named.Given as goal

abbrev pub invariant-loop-index : goal.invariant-loop-index
invariant-loop-index l =
    position_or_len (has_name l.name) l.accounts ≡ l.index + position_or_len (has_name l.name) (drop l.index l.accounts)
