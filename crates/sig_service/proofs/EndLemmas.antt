-- A run of `init` never ends as words that are no command.
use Rattle.std.proofs.Common.{◌≡◌, ◌∙◌, sym, ℕ, List, inl, inr, arith}
use Rattle.sig_command.specs.Moment.{OutputState}
use Rattle.sig_init.specs.declared.ending.InitEnd.{InitEnd}
use Rattle.sig_init.specs.declared.ending.InitEnd.TheVariants.{Done, NotEmpty, Store, Memory}
use Rattle.sig_service.specs.InitRuns.{status_of}
use Rattle.sig_service.specs.LastLine.{PutLast}

no_usage : (e : InitEnd) → status_of e ≡ 1 → ⊥
no_usage Done h = omega (arith, h)
no_usage (NotEmpty size) h = omega (arith, h)
no_usage Store h = omega (arith, h)
no_usage Memory h = omega (arith, h)

pub put_no_usage : (e : InitEnd) (line : List ℕ) (a b : OutputState) (status : ℕ) → PutLast (status_of e) line a b status → status ≡ 1 → ⊥
put_no_usage e line a b status (inl put) one = no_usage e (sym put.0 ∙ one)
put_no_usage e line a b status (inr stopped) one = omega (arith, stopped.0, one)
