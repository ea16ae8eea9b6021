use Rattle.std.proofs.Common.{◌≡◌, map, take}
use Rattle.std.specs.List.{list_any}
use Rattle.std.specs.Prelude.{nat_eq}
use Rattle.sig_accounts.proofs.told_streams.ToldStreams.seated.Given as goal

abbrev pub invariant-loop-seat : goal.invariant-loop-seat
invariant-loop-seat l = l.marks.items ≡ map (λ seat. list_any (nat_eq seat) l.among) (take l.seat-index l.seats)
