-- Over a new store each stream is the client's whose name begins its own, so a client's part of a history says what the
-- table asks of its streams.
use Rattle.std.proofs.Common.{◌≡◌, ◌∙◌, ap, sym, ℕ, ◌+◌, List, [], ◌∷◌, map, filter, Bool, true, false, not, ◌&&◌, bytes_eq, Option, Some, None, if◌then◌else◌, refl}
use Rattle.sig_terms.specs.declared.fact.Fact.{Fact}
use Rattle.sig_terms.specs.declared.fact.Fact.TheVariants.{Created}
use Rattle.sig_history.specs.Streams.{Stream, Parts, client_in, created_by, is_before, is_named, put_in_order, stands}
use Rattle.sig_history.specs.Facts.{brought_by, new_stream, parts_after, parts_of, placed, removed_by, stream_after, without}
use Rattle.sig_history.specs.Owed.{Sum, owed_by, owed_in, stream_named}
use Rattle.sig_isolation.specs.Isolation.{is_of_client}
use Rattle.sig_calls.specs.Found.{client_stream}
use Rattle.sig_history.proofs.JoinLemmas.{found}
use Rattle.sig_history.proofs.StreamLemmas.{IsSameStream, after_same}
use Rattle.sig_isolation.proofs.OrderLemmas.{own}

-- ---- each stream is its client's by its name

abbrev IsNamed : Stream → Type 0
IsNamed s = client_in s.conf.stream ≡ s.client

abbrev pub AreNamed : List Stream → Type 0
AreNamed [] = Unit {0}
AreNamed (s ∷ ss) = IsNamed s × AreNamed ss

each_named : (f : Fact) (ss : List Stream) → AreNamed ss → AreNamed (map (stream_after f) ss)
each_named f [] named = tt
each_named f (s ∷ ss) named =
    let same : IsSameStream s (stream_after f s) = after_same f s in
    (ap client_in same.name ∙ named.0 ∙ sym same.client, each_named f ss named.1)

put_named : (s : Stream) (ss : List Stream) → IsNamed s → AreNamed ss → AreNamed (put_in_order s ss)
put_named s [] this named = (this, tt)
put_named s (t ∷ ts) this named =
    elim (is_before t s) as (λ b. AreNamed (if b then t ∷ put_in_order s ts else s ∷ t ∷ ts)) [
      | true ↦ (named.0, put_named s ts this named.1)
      | false ↦ (this, named)
    ]

filter_named : (p : Stream → Bool) (ss : List Stream) → AreNamed ss → AreNamed (filter p ss)
filter_named p [] named = tt
filter_named p (s ∷ ss) named =
    elim (p s) as (λ b. AreNamed (if b then s ∷ filter p ss else filter p ss)) [
      | true ↦ (named.0, filter_named p ss named.1)
      | false ↦ filter_named p ss named.1
    ]

without_named : (o : Option (List ℕ)) (ss : List Stream) → AreNamed ss → AreNamed (without o ss)
without_named None ss named = named
without_named (Some name) ss named = filter_named (λ (s : Stream). not (is_named name s)) ss named

placed_named : (parts : Parts) (f : Fact) (ss : List Stream) → AreNamed ss → AreNamed (placed (brought_by parts f) ss)
placed_named parts (Created conf time) ss named =
    let client : List ℕ = client_in conf.stream in
    put_named (new_stream client (created_by client parts.created + 1) conf) ss refl named
placed_named parts f ss named = named

pub named_after : (parts : Parts) (facts : List Fact) → AreNamed parts.streams → AreNamed (parts_of parts facts).streams
named_after parts [] named = named
named_after parts (f ∷ facts) named =
    named_after (parts_after parts f) facts
    (placed_named parts f (without (removed_by f) (map (stream_after f) parts.streams))
    (without_named (removed_by f) (map (stream_after f) parts.streams) (each_named f parts.streams named)))

-- ---- a client's part

-- of the streams those that carry its name are its own
pub same_streams : (client : List ℕ) (ss : List Stream) → AreNamed ss → filter (λ (s : Stream). bytes_eq s.client client) ss ≡ own client ss
same_streams client [] named = refl
same_streams client (s ∷ ss) named =
    ap (λ l. if bytes_eq s.client client then s ∷ l else l) (same_streams client ss named.1)
    ∙ ap (λ c. if bytes_eq c client then s ∷ own client ss else own client ss) (sym named.0)

-- a client's stream is found among them
pub found_of_part : (client name : List ℕ) (ss : List Stream) → AreNamed ss → client_stream client name ss ≡ stream_named name (own client ss)
found_of_part client name [] named = refl
found_of_part client name (s ∷ ss) named =
    ap (λ c. if bytes_eq c client && is_named name s then Some s else client_stream client name ss) (sym named.0)
    ∙ elim (is_of_client client s) as (λ b. (if b && is_named name s then Some s else client_stream client name ss)
    ≡ stream_named name (if b then s ∷ own client ss else own client ss)) [
      | true ↦ ap (λ o. if is_named name s then Some s else o) (found_of_part client name ss named.1)
      | false ↦ found_of_part client name ss named.1
    ]

-- what a stream of the part owes
pub owed_of_part : (client name : List ℕ) (sum : Sum) → stands name (filter (is_of_client client) sum.parts.streams) ≡ true
    → owed_in name (filter (is_of_client client) sum.parts.streams)
    (map (λ (s : Stream). owed_by sum s.conf.stream) (filter (is_of_client client) sum.parts.streams))
    ≡ owed_by sum name
owed_of_part client name sum here = found (owed_by sum) name (filter (is_of_client client) sum.parts.streams) here
