-- How calls are answered whose facts make tokens, by the stream or the publication that is found.
use Rattle.std.proofs.Common.{◌≡◌, ◌∙◌, ap, sym, ℕ, ◌+◌, List, true, false, Option, None, Some, Ok, nat_lt, if◌then◌else◌, refl}
use Rattle.sig_event.specs.News.{is_same_news}
use Rattle.sig_event.specs.declared.news.News.{News}
use Rattle.sig_event.specs.declared.status.Status.{Status}
use Rattle.sig_terms.specs.declared.answer.Answer.{Answer}
use Rattle.sig_terms.specs.declared.answer.Answer.TheVariants as answer
use Rattle.sig_terms.specs.declared.fact.Fact.TheVariants as fact
use Rattle.sig_history.specs.Streams.{Parts, Publication, Stream, is_disabled}
use Rattle.sig_calls.specs.Equality.{status_eq}
use Rattle.sig_calls.specs.Found.{told_by}
use Rattle.sig_calls.specs.Publishing.{later_publication}
use Rattle.sig_calls.specs.Statuses.{operated, operating, state_of}
use Rattle.sig_calls.specs.Told.{Told, making, only, outcome}
use Rattle.sig_calls.specs.Verifying.{asked_after, asked_of, next_time, verifying}
use Rattle.sig_accounts.specs.Owings.{Owing, client_owing, owing_named}
use Rattle.sig_ledger.specs.Books.{Books, sum_in}
use Rattle.sig_token_calls.specs.Replies.{early_answer, later_answer, refusal}
use Rattle.sig_token_calls.proofs.FoundLemmas.{client_is, named_is}
use Rattle.sig_token_calls.proofs.PolledLemmas.{answered}

-- ---- publications

-- a name that was used before
pub later_reply : (parts : Parts) (n : News) (p : Publication) → outcome (later_publication parts n p) ≡ Ok (answered (later_answer parts.store_id p n) None)
later_reply parts n p =
    elim (is_same_news p.news n) as (λ b. outcome (if b then only (answer.Published parts.store_id p.issued) else only answer.Conflict)
    ≡ Ok (answered (if b then answer.Published parts.store_id p.issued else answer.Conflict) None)) [
      | true ↦ refl
      | false ↦ refl
    ]

-- ---- verifications

-- what is told where one is refused, and where none is
abbrev unless : Option Answer → Told → Told
unless None told = told
unless (Some refused) told = only refused

asked_unless : (parts : Parts) (stream : List ℕ) (state : Option (List ℕ)) (now : ℕ) (s : Stream) (asked : Option ℕ)
    → asked_after parts stream state now s asked
    ≡ unless (early_answer now s.conf.interval asked) (making parts (answer.Asked stream (s.made + 1)) (fact.Asked stream state now))
asked_unless parts stream state now s None = refl
asked_unless parts stream state now s (Some asked) =
    elim (nat_lt now (next_time asked s.conf.interval)) as (λ b.
    (if b then only (answer.Early (next_time asked s.conf.interval)) else making parts (answer.Asked stream (s.made + 1)) (fact.Asked stream state now))
    ≡ unless (if b then Some (answer.Early (next_time asked s.conf.interval)) else None) (making parts (answer.Asked stream (s.made + 1)) (fact.Asked stream state now))) [
      | true ↦ refl
      | false ↦ refl
    ]

verified_unless : (parts : Parts) (stream : List ℕ) (state : Option (List ℕ)) (now : ℕ) (s : Stream)
    → asked_of parts stream state now s ≡ unless (refusal now s) (making parts (answer.Asked stream (s.made + 1)) (fact.Asked stream state now))
verified_unless parts stream state now s =
    elim (is_disabled s.status) as (λ b. (if b then only answer.Disabled else asked_after parts stream state now s s.asked)
    ≡ unless (if b then Some answer.Disabled else early_answer now s.conf.interval s.asked) (making parts (answer.Asked stream (s.made + 1)) (fact.Asked stream state now))) [
      | true ↦ refl
      | false ↦ asked_unless parts stream state now s s.asked
    ]

pub not_verified : (b : Books) (client stream : List ℕ) (state : Option (List ℕ)) (now : ℕ) → None ≡ client_owing client stream b.owings
    → outcome (verifying (sum_in b).parts client stream state now) ≡ Ok (answered answer.NotFound None)
not_verified b client stream state now none =
    ap (λ found. outcome (told_by (asked_of (sum_in b).parts stream state now) found)) (client_is b client stream None none)

verified_so : (b : Books) (client stream : List ℕ) (state : Option (List ℕ)) (now : ℕ) (o : Owing) → Some o ≡ client_owing client stream b.owings
    → verifying (sum_in b).parts client stream state now
    ≡ unless (refusal now o.stream) (making (sum_in b).parts (answer.Asked stream (o.stream.made + 1)) (fact.Asked stream state now))
verified_so b client stream state now o is =
    ap (told_by (asked_of (sum_in b).parts stream state now)) (client_is b client stream (Some o) is)
    ∙ verified_unless (sum_in b).parts stream state now o.stream

pub refused_verified : (b : Books) (client stream : List ℕ) (state : Option (List ℕ)) (now : ℕ) (o : Owing) (a : Answer) → Some o ≡ client_owing client stream b.owings
    → Some a ≡ refusal now o.stream → outcome (verifying (sum_in b).parts client stream state now) ≡ Ok (answered a None)
refused_verified b client stream state now o a is refused =
    ap outcome (verified_so b client stream state now o is)
    ∙ ap (λ r. outcome (unless r (making (sum_in b).parts (answer.Asked stream (o.stream.made + 1)) (fact.Asked stream state now)))) (sym refused)

pub is_verified : (b : Books) (client stream : List ℕ) (state : Option (List ℕ)) (now : ℕ) (o : Owing) (number : ℕ) → Some o ≡ client_owing client stream b.owings
    → None ≡ refusal now o.stream → number ≡ o.stream.made + 1
    → outcome (making (sum_in b).parts (answer.Asked stream number) (fact.Asked stream state now)) ≡ outcome (verifying (sum_in b).parts client stream state now)
is_verified b client stream state now o number is free at =
    ap (λ k. outcome (making (sum_in b).parts (answer.Asked stream k) (fact.Asked stream state now))) at
    ∙ ap (λ r. outcome (unless r (making (sum_in b).parts (answer.Asked stream (o.stream.made + 1)) (fact.Asked stream state now)))) free
    ∙ ap outcome (sym (verified_so b client stream state now o is))

-- ---- the operator's status

pub not_operated : (b : Books) (stream : List ℕ) (status : Status) (reason : Option (List ℕ)) (now : ℕ) → None ≡ owing_named stream b.owings
    → outcome (operating (sum_in b).parts stream status reason now) ≡ Ok (answered answer.NotFound None)
not_operated b stream status reason now none =
    ap (λ found. outcome (told_by (operated (sum_in b).parts stream status reason now) found)) (named_is b stream None none)

-- it stands already
pub same_operated : (b : Books) (stream : List ℕ) (status : Status) (reason : Option (List ℕ)) (now : ℕ) (o : Owing) → Some o ≡ owing_named stream b.owings
    → status_eq o.stream.status status ≡ true
    → outcome (operating (sum_in b).parts stream status reason now) ≡ Ok (answered (state_of stream o.stream) None)
same_operated b stream status reason now o is same =
    ap (λ found. outcome (told_by (operated (sum_in b).parts stream status reason now) found)) (named_is b stream (Some o) is)
    ∙ ap (λ t. outcome (if t then only (state_of stream o.stream)
    else making (sum_in b).parts (answer.State stream status reason (Some (o.stream.made + 1))) (fact.StatusSet stream status reason true now))) same

-- it is set
pub is_operated : (b : Books) (stream : List ℕ) (status : Status) (reason : Option (List ℕ)) (now : ℕ) (o : Owing) (number : ℕ) → Some o ≡ owing_named stream b.owings
    → status_eq o.stream.status status ≡ false → number ≡ o.stream.made + 1
    → outcome (making (sum_in b).parts (answer.State stream status reason (Some number)) (fact.StatusSet stream status reason true now))
    ≡ outcome (operating (sum_in b).parts stream status reason now)
is_operated b stream status reason now o number is other at =
    ap (λ k. outcome (making (sum_in b).parts (answer.State stream status reason (Some k)) (fact.StatusSet stream status reason true now))) at
    ∙ sym (ap (λ t. outcome (if t then only (state_of stream o.stream)
    else making (sum_in b).parts (answer.State stream status reason (Some (o.stream.made + 1))) (fact.StatusSet stream status reason true now))) other)
    ∙ sym (ap (λ found. outcome (told_by (operated (sum_in b).parts stream status reason now) found)) (named_is b stream (Some o) is))
