-- A client that adds subjects and removes them.
use Rattle.std.proofs.Common.{◌≡◌, ℕ, List, true, false, Some, None, IfSome, if◌then◌else◌, refl}
use Rattle.sig_subject.specs.declared.subject.Subject.{Subject}
use Rattle.sig_terms.specs.declared.rules.Rules.{Rules}
use Rattle.sig_terms.specs.declared.answer.Answer.TheVariants as answer
use Rattle.sig_terms.specs.declared.call.Call.{Call}
use Rattle.sig_terms.specs.declared.call.Call.TheVariants.{Add, Remove}
use Rattle.sig_terms.specs.declared.fact.Fact.TheVariants.{Listed, Unlisted}
use Rattle.sig_terms.specs.declared.want.Defaults.{Defaults}
use Rattle.sig_terms.specs.declared.want.Defaults.TheVariants as defaults
use Rattle.sig_history.specs.Streams.{Stream, stands}
use Rattle.sig_history.specs.Owed.{Sum}
use Rattle.sig_calls.specs.Subjects.{added_change, adding, is_listed, listed_change, removed_change, removing, unlisted_change}
use Rattle.sig_calls.specs.Told.{with_change}
use Rattle.sig_calls.proofs.FoundLemmas.{client_lawful}
use Rattle.sig_calls.proofs.ToldLemmas.{IsLawful, MayChange, maybe_lawful}

listed_may : (rules : Rules) (sum : Sum) (call : Call) (now : ℕ) (stream : List ℕ) (subject : Subject) (s : Stream) → stands stream sum.parts.streams ≡ true
    → IfSome (listed_change stream subject s) (MayChange rules sum call now)
listed_may rules sum call now stream subject s here =
    elim (is_listed subject s) as (λ b. IfSome (if b then None else Some (Listed stream subject)) (MayChange rules sum call now)) [
      | true ↦ tt
      | false ↦ record { silent = λ t. refl; may = record { brings = refl; apt = λ whole proper. here; ours = λ proper early. tt; quiet = λ m. refl } }
    ]

unlisted_may : (rules : Rules) (sum : Sum) (call : Call) (now : ℕ) (stream : List ℕ) (subject : Subject) (s : Stream) → stands stream sum.parts.streams ≡ true
    → IfSome (unlisted_change stream subject s) (MayChange rules sum call now)
unlisted_may rules sum call now stream subject s here =
    elim (is_listed subject s) as (λ b. IfSome (if b then Some (Unlisted stream subject) else None) (MayChange rules sum call now)) [
      | true ↦ record { silent = λ t. refl; may = record { brings = refl; apt = λ whole proper. here; ours = λ proper early. tt; quiet = λ m. refl } }
      | false ↦ tt
    ]

added_may : (rules : Rules) (sum : Sum) (call : Call) (now : ℕ) (d : Defaults) (stream : List ℕ) (subject : Subject) (s : Stream)
    → stands stream sum.parts.streams ≡ true → IfSome (added_change d stream subject s) (MayChange rules sum call now)
added_may rules sum call now defaults.All stream subject s here = unlisted_may rules sum call now stream subject s here
added_may rules sum call now defaults.None stream subject s here = listed_may rules sum call now stream subject s here

removed_may : (rules : Rules) (sum : Sum) (call : Call) (now : ℕ) (d : Defaults) (stream : List ℕ) (subject : Subject) (s : Stream)
    → stands stream sum.parts.streams ≡ true → IfSome (removed_change d stream subject s) (MayChange rules sum call now)
removed_may rules sum call now defaults.All stream subject s here = listed_may rules sum call now stream subject s here
removed_may rules sum call now defaults.None stream subject s here = unlisted_may rules sum call now stream subject s here

pub adding_lawful : (rules : Rules) (sum : Sum) (client stream : List ℕ) (subject : Subject) (now : ℕ)
    → IsLawful rules sum (Add client stream subject) now (adding sum.parts client stream subject)
adding_lawful rules sum client stream subject now =
    let call : Call = Add client stream subject in
    client_lawful rules sum call now client stream (λ (s : Stream). with_change answer.Added (added_change s.conf.defaults stream subject s))
    (λ s here. maybe_lawful rules sum call now answer.Added (added_change s.conf.defaults stream subject s) refl
    (added_may rules sum call now s.conf.defaults stream subject s here))

pub removing_lawful : (rules : Rules) (sum : Sum) (client stream : List ℕ) (subject : Subject) (now : ℕ)
    → IsLawful rules sum (Remove client stream subject) now (removing sum.parts client stream subject)
removing_lawful rules sum client stream subject now =
    let call : Call = Remove client stream subject in
    client_lawful rules sum call now client stream (λ (s : Stream). with_change answer.Removed (removed_change s.conf.defaults stream subject s))
    (λ s here. maybe_lawful rules sum call now answer.Removed (removed_change s.conf.defaults stream subject s) refl
    (removed_may rules sum call now s.conf.defaults stream subject s here))
