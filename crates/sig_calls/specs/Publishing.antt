-- How a publication is answered, and which tokens it makes.
use Rattle.std.specs.Prelude.{ℕ, List, Option, Some, None, map, if◌then◌else◌}
use Rattle.sig_event.specs.News.{is_same_news}
use Rattle.sig_event.specs.declared.news.News.{News}
use Rattle.sig_terms.specs.declared.answer.Answer.TheVariants as answer
use Rattle.sig_terms.specs.declared.fact.Fact.TheVariants as fact
use Rattle.sig_history.specs.Streams.{Parts, Publication, issued_of, publication_of}
use Rattle.sig_history.specs.Facts.{made_by}
use Rattle.sig_calls.specs.Told.{Told, making, only}

-- the first publication of an id
abbrev pub first_publication : Parts → List ℕ → News → ℕ → Told
first_publication parts id n now =
    making parts (answer.Published parts.store_id (map issued_of (made_by parts (fact.Published id n now)))) (fact.Published id n now)

-- one whose id was used: the first answer again, where it says the same
abbrev pub later_publication : Parts → News → Publication → Told
later_publication parts n p =
    if is_same_news p.news n then only (answer.Published parts.store_id p.issued) else only answer.Conflict

abbrev pub published_after : Parts → List ℕ → News → ℕ → Option Publication → Told
published_after parts id n now None = first_publication parts id n now
published_after parts id n now (Some p) = later_publication parts n p

-- what a publication is told
abbrev pub publishing : Parts → List ℕ → News → ℕ → Told
publishing parts id n now = published_after parts id n now (publication_of id parts.published)
