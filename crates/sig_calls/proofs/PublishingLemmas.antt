-- A publication.
use Rattle.std.proofs.Common.{ℕ, List, map, true, false, Option, Some, None, if◌then◌else◌, refl}
use Rattle.sig_event.specs.News.{is_same_news}
use Rattle.sig_event.specs.declared.news.News.{News}
use Rattle.sig_terms.specs.declared.rules.Rules.{Rules}
use Rattle.sig_terms.specs.declared.answer.Answer.TheVariants as answer
use Rattle.sig_terms.specs.declared.call.Call.TheVariants.{Publish}
use Rattle.sig_terms.specs.declared.fact.Fact.TheVariants.{Published}
use Rattle.sig_history.specs.Streams.{Publication, issued_of, publication_of}
use Rattle.sig_history.specs.Facts.{made_by}
use Rattle.sig_history.specs.Owed.{Sum}
use Rattle.sig_calls.specs.Publishing.{published_after, publishing}
use Rattle.sig_calls.specs.Told.{only}
use Rattle.sig_calls.proofs.ToldLemmas.{IsLawful, making_lawful, only_lawful}

published_lawful : (rules : Rules) (sum : Sum) (id : List ℕ) (n : News) (now : ℕ) (o : Option Publication)
    → IsLawful rules sum (Publish id n) now (published_after sum.parts id n now o)
published_lawful rules sum id n now None =
    making_lawful rules sum (Publish id n) now (answer.Published sum.parts.store_id (map issued_of (made_by sum.parts (Published id n now)))) (Published id n now) refl
    (record { brings = refl; apt = λ whole proper. refl; ours = λ proper early. (proper, early); quiet = λ m. refl })
published_lawful rules sum id n now (Some p) =
    elim (is_same_news p.news n) as (λ b. IsLawful rules sum (Publish id n) now
    (if b then only (answer.Published sum.parts.store_id p.issued) else only answer.Conflict)) [
      | true ↦ only_lawful rules sum (Publish id n) now (answer.Published sum.parts.store_id p.issued) refl
      | false ↦ only_lawful rules sum (Publish id n) now answer.Conflict refl
    ]

pub publishing_lawful : (rules : Rules) (sum : Sum) (id : List ℕ) (n : News) (now : ℕ)
    → IsLawful rules sum (Publish id n) now (publishing sum.parts id n now)
publishing_lawful rules sum id n now = published_lawful rules sum id n now (publication_of id sum.parts.published)
