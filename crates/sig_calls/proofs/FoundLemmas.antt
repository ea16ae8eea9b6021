-- The stream that a call names stands, where it is found; where it isn't, the call is told so.
use Rattle.std.proofs.Common.{◌≡◌, ℕ, List, [], ◌∷◌, true, false, ◌&&◌, ◌||◌, Option, Some, None, bytes_eq, if◌then◌else◌, refl}
use Rattle.std.proofs.lemmas.Bool.{and_parts, or_left, or_right}
use Rattle.sig_terms.specs.declared.rules.Rules.{Rules}
use Rattle.sig_terms.specs.declared.answer.Answer.TheVariants as answer
use Rattle.sig_terms.specs.declared.call.Call.{Call}
use Rattle.sig_history.specs.Streams.{Stream, is_named, stands}
use Rattle.sig_history.specs.Owed.{Sum, stream_named}
use Rattle.sig_calls.specs.Found.{client_stream, told_by}
use Rattle.sig_calls.specs.Told.{Told}
use Rattle.sig_calls.proofs.ToldLemmas.{IsLawful, only_lawful}

pub client_stands : (client name : List ℕ) (ss : List Stream) (s : Stream) → client_stream client name ss ≡ Some s → stands name ss ≡ true
client_stands client name [] s is = cc is
client_stands client name (t ∷ ts) s is =
    elim (bytes_eq t.client client && is_named name t) as (λ b. bytes_eq t.client client && is_named name t ≡ b
    → (if b then Some t else client_stream client name ts) ≡ Some s → (is_named name t || stands name ts) ≡ true) [
      | true ↦ λ this same. or_left (is_named name t) (stands name ts) (and_parts (bytes_eq t.client client) (is_named name t) this).1
      | false ↦ λ other later. or_right (is_named name t) (stands name ts) (client_stands client name ts s later)
    ] refl is

pub named_stands : (name : List ℕ) (ss : List Stream) (s : Stream) → stream_named name ss ≡ Some s → stands name ss ≡ true
named_stands name [] s is = cc is
named_stands name (t ∷ ts) s is =
    elim (is_named name t) as (λ b. (if b then Some t else stream_named name ts) ≡ Some s → (b || stands name ts) ≡ true) [
      | true ↦ λ this. refl
      | false ↦ λ later. named_stands name ts s later
    ] is

told_lawful : (rules : Rules) (sum : Sum) (call : Call) (now : ℕ) (tell : Stream → Told) (o : Option Stream)
    → ((s : Stream) → o ≡ Some s → IsLawful rules sum call now (tell s)) → IsLawful rules sum call now (told_by tell o)
told_lawful rules sum call now tell None each = only_lawful rules sum call now answer.NotFound refl
told_lawful rules sum call now tell (Some s) each = each s refl

-- what is told of each stream that may be found is told of a client's stream
pub found_lawful : (rules : Rules) (sum : Sum) (call : Call) (now : ℕ) (client name : List ℕ) (tell : Stream → Told)
    → ((s : Stream) → client_stream client name sum.parts.streams ≡ Some s → IsLawful rules sum call now (tell s))
    → IsLawful rules sum call now (told_by tell (client_stream client name sum.parts.streams))
found_lawful rules sum call now client name tell each =
    told_lawful rules sum call now tell (client_stream client name sum.parts.streams) each

-- what is told of each stream of the name, where it stands, is told of a client's stream
pub client_lawful : (rules : Rules) (sum : Sum) (call : Call) (now : ℕ) (client name : List ℕ) (tell : Stream → Told)
    → ((s : Stream) → stands name sum.parts.streams ≡ true → IsLawful rules sum call now (tell s))
    → IsLawful rules sum call now (told_by tell (client_stream client name sum.parts.streams))
client_lawful rules sum call now client name tell each =
    found_lawful rules sum call now client name tell (λ s is. each s (client_stands client name sum.parts.streams s is))

-- and of a stream that the operator names
pub named_lawful : (rules : Rules) (sum : Sum) (call : Call) (now : ℕ) (name : List ℕ) (tell : Stream → Told)
    → ((s : Stream) → stands name sum.parts.streams ≡ true → IsLawful rules sum call now (tell s))
    → IsLawful rules sum call now (told_by tell (stream_named name sum.parts.streams))
named_lawful rules sum call now name tell each =
    told_lawful rules sum call now tell (stream_named name sum.parts.streams) (λ s is. each s (named_stands name sum.parts.streams s is))
