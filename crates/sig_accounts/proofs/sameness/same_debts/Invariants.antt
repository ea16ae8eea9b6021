use Rattle.std.proofs.Common.{◌≡◌, map, take}
use Rattle.sig_accounts.specs.Owings.{told_by}
use Rattle.sig_accounts.proofs.sameness.same_debts.Given as goal

abbrev pub invariant-loop-i : goal.invariant-loop-i
invariant-loop-i l = map (told_by l.published l.stream) (take l.i l.some) ≡ map (told_by l.published l.stream) (take l.i l.others)
