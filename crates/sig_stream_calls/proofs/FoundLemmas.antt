-- A client's stream of a name, in the books and in what they come to.
use Rattle.std.proofs.Common.{◌≡◌, ◌∙◌, ap, sym, subst, ℕ, List, [], ◌∷◌, map, true, false, ◌&&◌, bytes_eq, Option, None, Some, if◌then◌else◌, refl}
use Rattle.std.specs.Prelude.{option_map, Result}
use Rattle.sig_json.specs.Answers.{Answers}
use Rattle.sig_terms.specs.declared.fault.PrepareFault.{PrepareFault}
use Rattle.sig_terms.specs.declared.fault.PrepareFault.TheVariants.{Memory}
use Rattle.sig_terms.specs.Reply.{Reply}
use Rattle.sig_history.specs.Streams.{Publication, Stream, is_named}
use Rattle.sig_history.specs.Standings.{stream_in}
use Rattle.sig_calls.specs.Found.{client_stream, told_by}
use Rattle.sig_calls.specs.Told.{Told, outcome}
use Rattle.sig_accounts.specs.Owings as books
use Rattle.sig_accounts.specs.Owings.{Owing, client_owing, standing_of}
use Rattle.sig_ledger.specs.Books.{Books, sum_in}

client_in : (sid : List ℕ) (published : List Publication) (client name : List ℕ) (os : List Owing)
    → client_stream client name (map stream_in (map (standing_of sid published) os)) ≡ option_map books.stream_in (client_owing client name os)
client_in sid published client name [] = refl
client_in sid published client name (o ∷ os) =
    elim (bytes_eq o.stream.client client && is_named name o.stream) as (λ b.
    (if b then Some o.stream else client_stream client name (map stream_in (map (standing_of sid published) os)))
    ≡ option_map books.stream_in (if b then Some o else client_owing client name os)) [
      | true ↦ refl
      | false ↦ client_in sid published client name os
    ]

-- the stream of what is found in the books is the client's stream
pub client_is : (b : Books) (client name : List ℕ) (found : Option Owing) → found ≡ client_owing client name b.owings
    → option_map books.stream_in found ≡ client_stream client name (sum_in b).parts.streams
client_is b client name found is =
    ap (option_map books.stream_in) is ∙ sym (client_in b.store_id b.published client name b.owings)

-- so what is told of what is found in the books is what the table tells of it
pub told_found : (tell : Stream → Told) (b : Books) (client name : List ℕ) (found : Option Owing) (r : Result Reply PrepareFault) (t : Told)
    → t ≡ told_by tell (option_map books.stream_in found) → found ≡ client_owing client name b.owings
    → Answers Memory r (outcome t) → Answers Memory r (outcome (told_by tell (client_stream client name (sum_in b).parts.streams)))
told_found tell b client name found r t told is answers =
    subst (λ (u : Told). Answers Memory r (outcome u)) (told ∙ ap (told_by tell) (client_is b client name found is)) answers
