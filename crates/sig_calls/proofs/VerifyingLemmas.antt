-- A client that asks for a verification.
use Rattle.std.proofs.Common.{◌≡◌, ◌+◌, ℕ, List, true, false, Option, Some, None, if◌then◌else◌, refl}
use Rattle.std.specs.Prelude.{nat_lt}
use Rattle.sig_terms.specs.declared.rules.Rules.{Rules}
use Rattle.sig_terms.specs.declared.answer.Answer.TheVariants as answer
use Rattle.sig_terms.specs.declared.call.Call.TheVariants.{Verify}
use Rattle.sig_terms.specs.declared.fact.Fact.TheVariants.{Asked}
use Rattle.sig_history.specs.Streams.{Stream, is_disabled, stands}
use Rattle.sig_history.specs.Owed.{Sum}
use Rattle.sig_calls.specs.Told.{making, only}
use Rattle.sig_calls.specs.Verifying.{asked_after, asked_of, next_time, verifying}
use Rattle.sig_calls.proofs.FoundLemmas.{client_lawful}
use Rattle.sig_calls.proofs.ToldLemmas.{IsLawful, making_lawful, only_lawful}

made_lawful : (rules : Rules) (sum : Sum) (client stream : List ℕ) (state : Option (List ℕ)) (now number : ℕ) → stands stream sum.parts.streams ≡ true
    → IsLawful rules sum (Verify client stream state) now (making sum.parts (answer.Asked stream number) (Asked stream state now))
made_lawful rules sum client stream state now number here =
    making_lawful rules sum (Verify client stream state) now (answer.Asked stream number) (Asked stream state now) refl
    (record { brings = refl; apt = λ whole proper. here; ours = λ proper early. (proper, early); quiet = λ m. refl })

after_lawful : (rules : Rules) (sum : Sum) (client stream : List ℕ) (state : Option (List ℕ)) (now : ℕ) (s : Stream) (asked : Option ℕ)
    → stands stream sum.parts.streams ≡ true → IsLawful rules sum (Verify client stream state) now (asked_after sum.parts stream state now s asked)
after_lawful rules sum client stream state now s None here = made_lawful rules sum client stream state now (s.made + 1) here
after_lawful rules sum client stream state now s (Some asked) here =
    elim (nat_lt now (next_time asked s.conf.interval)) as (λ b. IsLawful rules sum (Verify client stream state) now
    (if b then only (answer.Early (next_time asked s.conf.interval)) else making sum.parts (answer.Asked stream (s.made + 1)) (Asked stream state now))) [
      | true ↦ only_lawful rules sum (Verify client stream state) now (answer.Early (next_time asked s.conf.interval)) refl
      | false ↦ made_lawful rules sum client stream state now (s.made + 1) here
    ]

pub verifying_lawful : (rules : Rules) (sum : Sum) (client stream : List ℕ) (state : Option (List ℕ)) (now : ℕ)
    → IsLawful rules sum (Verify client stream state) now (verifying sum.parts client stream state now)
verifying_lawful rules sum client stream state now =
    client_lawful rules sum (Verify client stream state) now client stream (asked_of sum.parts stream state now)
    (λ s here. elim (is_disabled s.status) as (λ b. IsLawful rules sum (Verify client stream state) now
    (if b then only answer.Disabled else asked_after sum.parts stream state now s s.asked)) [
      | true ↦ only_lawful rules sum (Verify client stream state) now answer.Disabled refl
      | false ↦ after_lawful rules sum client stream state now s s.asked here
    ])
