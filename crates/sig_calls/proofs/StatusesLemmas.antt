-- How a status is read and set.
use Rattle.std.proofs.Common.{◌+◌, ℕ, List, true, false, Option, Some, None, if◌then◌else◌, refl}
use Rattle.sig_event.specs.declared.status.Status.{Status}
use Rattle.sig_terms.specs.declared.rules.Rules.{Rules}
use Rattle.sig_terms.specs.declared.answer.Answer.TheVariants as answer
use Rattle.sig_terms.specs.declared.call.Call.TheVariants.{GetStatus, OperatorStatus, SetStatus}
use Rattle.sig_terms.specs.declared.fact.Fact.TheVariants.{StatusSet}
use Rattle.sig_history.specs.Streams.{Stream}
use Rattle.sig_history.specs.Owed.{Sum}
use Rattle.sig_calls.specs.Equality.{status_eq}
use Rattle.sig_calls.specs.Statuses.{operated, operating, reading_status, setting_status, state_of, status_set}
use Rattle.sig_calls.specs.Told.{making, only, with_change}
use Rattle.sig_calls.proofs.FoundLemmas.{client_lawful, named_lawful}
use Rattle.sig_calls.proofs.ToldLemmas.{IsLawful, change_lawful, making_lawful, only_lawful}

pub reading_status_lawful : (rules : Rules) (sum : Sum) (client stream : List ℕ) (now : ℕ)
    → IsLawful rules sum (GetStatus client stream) now (reading_status sum.parts client stream)
reading_status_lawful rules sum client stream now =
    client_lawful rules sum (GetStatus client stream) now client stream (λ (s : Stream). only (state_of stream s))
    (λ s here. only_lawful rules sum (GetStatus client stream) now (state_of stream s) refl)

pub setting_status_lawful : (rules : Rules) (sum : Sum) (client stream : List ℕ) (status : Status) (reason : Option (List ℕ)) (now : ℕ)
    → IsLawful rules sum (SetStatus client stream status reason) now (setting_status sum.parts client stream status reason now)
setting_status_lawful rules sum client stream status reason now =
    client_lawful rules sum (SetStatus client stream status reason) now client stream (status_set stream status reason now)
    (λ s here. elim (status_eq s.status status) as (λ b. IsLawful rules sum (SetStatus client stream status reason) now
    (if b then only (state_of stream s) else with_change (answer.State stream status reason None) (Some (StatusSet stream status reason false now)))) [
      | true ↦ only_lawful rules sum (SetStatus client stream status reason) now (state_of stream s) refl
      | false ↦ change_lawful rules sum (SetStatus client stream status reason) now (answer.State stream status reason None)
          (StatusSet stream status reason false now) refl (λ t. refl)
          (record { brings = refl; apt = λ whole proper. here; ours = λ proper early. (proper, early); quiet = λ m. refl })
    ])

pub operating_lawful : (rules : Rules) (sum : Sum) (stream : List ℕ) (status : Status) (reason : Option (List ℕ)) (now : ℕ)
    → IsLawful rules sum (OperatorStatus stream status reason) now (operating sum.parts stream status reason now)
operating_lawful rules sum stream status reason now =
    named_lawful rules sum (OperatorStatus stream status reason) now stream (operated sum.parts stream status reason now)
    (λ s here. elim (status_eq s.status status) as (λ b. IsLawful rules sum (OperatorStatus stream status reason) now
    (if b then only (state_of stream s) else making sum.parts (answer.State stream status reason (Some (s.made + 1))) (StatusSet stream status reason true now))) [
      | true ↦ only_lawful rules sum (OperatorStatus stream status reason) now (state_of stream s) refl
      | false ↦ making_lawful rules sum (OperatorStatus stream status reason) now (answer.State stream status reason (Some (s.made + 1)))
          (StatusSet stream status reason true now) refl
          (record { brings = refl; apt = λ whole proper. here; ours = λ proper early. (proper, early); quiet = λ m. refl })
    ])
