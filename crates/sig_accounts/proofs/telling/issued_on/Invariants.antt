use Rattle.std.proofs.Common.{◌≡◌, ◌++◌, drop, map}
use Rattle.sig_accounts.specs.Owings.{issued_by, owing_in, stream_in}
use Rattle.sig_accounts.proofs.telling.issued_on.Given as goal

abbrev pub invariant-loop-place : goal.invariant-loop-place
invariant-loop-place l =
    issued_by l.addressed.fact (map stream_in (map owing_in l.accounts))
    ≡ l.issued.items ++ issued_by l.addressed.fact (map stream_in (map owing_in (drop l.place l.accounts)))
