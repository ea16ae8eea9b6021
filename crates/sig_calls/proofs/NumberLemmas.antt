-- A number is refused exactly where it would be given.
use Rattle.std.proofs.Common.{◌≡◌, ◌↔◌, subst, ◌+◌, Bool, true, false, Ok, Err, if◌then◌else◌, refl}
use Rattle.sig_json.specs.declared.limits.TheConstants.{LAST_NUMBER}
use Rattle.sig_terms.specs.declared.fault.PrepareFault.TheVariants.{Number}
use Rattle.sig_terms.specs.Reply.{Reply}
use Rattle.sig_calls.specs.Laws.{NumberComesExactly}
use Rattle.sig_calls.specs.Table.{told_of}
use Rattle.sig_calls.specs.Told.{Told, outcome}
use Rattle.sig_calls.proofs.RegularLemmas.{calls_lawful}

refused_by : (over : Bool) (r : Reply) → ((if over then Err (Number (LAST_NUMBER + 1)) else Ok r) ≡ Err (Number (LAST_NUMBER + 1))) ↔ (over ≡ true)
refused_by true r = (λ is. refl, λ is. refl)
refused_by false r = (λ is. cc is, λ is. cc is)

-- a call is refused exactly where its number is too great
pub refused_where_over : (t : Told) → (outcome t ≡ Err (Number (LAST_NUMBER + 1))) ↔ (t.over ≡ true)
refused_where_over t = refused_by t.over (record { answer = t.answer; change = t.change })

pub number_comes : NumberComesExactly
number_comes rules sum call now proper =
    subst (λ b. (outcome (told_of rules sum call now) ≡ Err (Number (LAST_NUMBER + 1))) ↔ (b ≡ true)) (calls_lawful rules sum call now proper).exact
    (refused_where_over (told_of rules sum call now))
