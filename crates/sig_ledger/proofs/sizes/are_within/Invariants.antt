use Rattle.std.proofs.Common.{◌≡◌, drop, nat_le}
use Rattle.sig_history.specs.Sizes.{bytes_of}
use Rattle.sig_history.specs.declared.limits.TheConstants.{SETTING_BYTES}
use Rattle.sig_ledger.proofs.sizes.are_within.Given as goal

abbrev pub invariant-loop-text : goal.invariant-loop-text
invariant-loop-text l = nat_le (bytes_of l.texts) SETTING_BYTES ≡ nat_le (bytes_of (drop l.text-index l.texts)) l.left
