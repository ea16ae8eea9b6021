use Rattle.std.proofs.Common.{◌≡◌, ◌<◌, ℕ, false, get_or, length, take}
use Rattle.std.specs.List.{list_any}
use Rattle.std.specs.Prelude.{nat_eq}
use Rattle.sig_accounts.proofs.told_streams.bits_of.Given as goal

abbrev pub invariant-loop-seat : goal.invariant-loop-seat
invariant-loop-seat l = record {
  long : length l.bits.items ≡ l.number;
  set : (n : ℕ) → n < l.number → get_or l.bits.items n false ≡ list_any (nat_eq n) (take l.seat-index l.among);
}
