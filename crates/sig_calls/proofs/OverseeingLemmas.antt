-- The operator that reads how streams stand, and that deletes one.
use Rattle.std.proofs.Common.{◌≡◌, ℕ, List, Some, refl}
use Rattle.sig_terms.specs.declared.rules.Rules.{Rules}
use Rattle.sig_terms.specs.declared.answer.Answer.TheVariants as answer
use Rattle.sig_terms.specs.declared.call.Call.TheVariants.{Figures, OperatorDelete, Streams, Refused}
use Rattle.sig_terms.specs.declared.fact.Fact.TheVariants.{Deleted}
use Rattle.sig_history.specs.Streams.{Stream}
use Rattle.sig_history.specs.Owed.{Sum}
use Rattle.sig_calls.specs.Overseeing.{dropping, figuring, listing, refusing}
use Rattle.sig_calls.specs.Told.{with_change}
use Rattle.sig_calls.proofs.FoundLemmas.{named_lawful}
use Rattle.sig_calls.proofs.ToldLemmas.{IsLawful, change_lawful, only_lawful}

pub dropping_lawful : (rules : Rules) (sum : Sum) (stream : List ℕ) (now : ℕ)
    → IsLawful rules sum (OperatorDelete stream) now (dropping sum.parts stream)
dropping_lawful rules sum stream now =
    named_lawful rules sum (OperatorDelete stream) now stream (λ (s : Stream). with_change answer.Gone (Some (Deleted stream)))
    (λ s here. change_lawful rules sum (OperatorDelete stream) now answer.Gone (Deleted stream) refl (λ t. refl)
    (record { brings = refl; apt = λ whole proper. here; ours = λ proper early. tt; quiet = λ m. refl }))

pub listing_lawful : (rules : Rules) (sum : Sum) (from now : ℕ) → IsLawful rules sum (Streams from) now (listing sum from)
listing_lawful rules sum from now = only_lawful rules sum (Streams from) now _ refl

pub refusing_lawful : (rules : Rules) (sum : Sum) (from now : ℕ) → IsLawful rules sum (Refused from) now (refusing sum from)
refusing_lawful rules sum from now = only_lawful rules sum (Refused from) now _ refl

pub figuring_lawful : (rules : Rules) (sum : Sum) (now : ℕ) → IsLawful rules sum Figures now (figuring sum)
figuring_lawful rules sum now = only_lawful rules sum Figures now _ refl
