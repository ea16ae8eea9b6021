-- A run of `courier` never ends as words that are no command, and the line of its ending.
use Rattle.std.proofs.Common.{◌≡◌, ◌∙◌, sym, subst, ℕ, List, inl, inr, arith}
use Rattle.sig_command.specs.Moment.{OutputState}
use Rattle.sig_ticking.specs.declared.ending.CourierEnd.{CourierEnd}
use Rattle.sig_ticking.specs.declared.ending.CourierEnd.TheVariants.{Done, SettingsFailed, Refused, NoStore, StoreFailed, Damaged, InputFailed, OutputFailed, Full, Endless, Memory}
use Rattle.sig_service.specs.CourierRuns.{last_line, status_of}
use Rattle.sig_service.specs.LastLine.{PutLast}

no_usage : (e : CourierEnd) → status_of e ≡ 1 → ⊥
no_usage Done h = omega (arith, h)
no_usage SettingsFailed h = omega (arith, h)
no_usage (Refused member) h = omega (arith, h)
no_usage NoStore h = omega (arith, h)
no_usage StoreFailed h = omega (arith, h)
no_usage (Damaged file at) h = omega (arith, h)
no_usage InputFailed h = omega (arith, h)
no_usage OutputFailed h = omega (arith, h)
no_usage (Full n) h = omega (arith, h)
no_usage (Endless n) h = omega (arith, h)
no_usage Memory h = omega (arith, h)

pub courier_no_usage : (e : CourierEnd) (line : List ℕ) (a b : OutputState) (status : ℕ) → PutLast (status_of e) line a b status → status ≡ 1 → ⊥
courier_no_usage e line a b status (inl put) one = no_usage e (sym put.0 ∙ one)
courier_no_usage e line a b status (inr stopped) one = omega (arith, stopped.0, one)

-- ---- the line of an ending

pub put_courier : (e x : CourierEnd) (line : List ℕ) (a b : OutputState) (status : ℕ) → e ≡ x → line ≡ last_line x
    → PutLast (status_of x) line a b status → PutLast (status_of e) (last_line e) a b status
put_courier e x line a b status is same put =
    subst (λ (y : CourierEnd). PutLast (status_of y) (last_line y) a b status) (sym is) (subst (λ (l : List ℕ). PutLast (status_of x) l a b status) same put)

-- the same line by another name
pub put_same : (wanted : ℕ) (line told : List ℕ) (a b : OutputState) (status : ℕ) → line ≡ told → PutLast wanted line a b status → PutLast wanted told a b status
put_same wanted line told a b status is put = subst (λ (l : List ℕ). PutLast wanted l a b status) is put
