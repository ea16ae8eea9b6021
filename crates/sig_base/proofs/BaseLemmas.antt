-- Bases are read as they are spelled.
use Rattle.std.proofs.Common.{◌≡◌, ap, sym, ◌∙◌, refl, subst, ℕ, List, ◌++◌, Bool, true, false, Some, arith}
use Rattle.std.specs.Prelude.{Result, Ok, ⊤}
use Rattle.std.proofs.lemmas.Bool.Decides.{nat_tests}
use Rattle.sig_fields.specs.Agreeing.{Agrees, AreBytes}
use Rattle.sig_fields.specs.declared.fault.DecodeFault.{DecodeFault}
use Rattle.sig_fields.specs.Kinds as kinds
use Rattle.sig_fields.specs.Reading.{given, ruled, ◌>>=◌}
use Rattle.sig_fields.proofs.Agreeing.{HasRule, bytes_agree, given_same, joined_spelling, ruled_agrees, then_spells}
use Rattle.sig_fields.proofs.Exact.{agrees_exact}
use Rattle.sig_entry.proofs.Steps.{of_5, read_first, read_last}
use Rattle.sig_base.specs.declared.base.Base.{Base}
use Rattle.sig_base.specs.declared.base.BasePublication.{BasePublication}
use Rattle.sig_base.specs.declared.base.BaseRefusals.{BaseRefusals}
use Rattle.sig_base.specs.declared.base.BaseStream.{BaseStream}
use Rattle.sig_base.specs.declared.base.ClientCount.{ClientCount}
use Rattle.sig_base.specs.Laws.{BasesAreExact, SpellingsDiffer}
use Rattle.sig_base.specs.Lists as lists
use Rattle.sig_base.specs.Parts as parts
use Rattle.sig_base.specs.Proper.{IsProperBase}
use Rattle.sig_base.specs.Snapshot.{decoded, kind_in, read_base, spelling_of}
use Rattle.sig_base.proofs.FieldLemmas.{client_lists_agree, publication_lists_agree, refusals_agree}
use Rattle.sig_base.proofs.StreamLemmas.{stream_lists_agree}

abbrev IsKind : Bool → Type 0
IsKind b = b ≡ true

abbrev kind_bytes : Bool → List ℕ
kind_bytes b = kinds.byte_bytes 1

kind_rule : HasRule (λ (b : ℕ). ⊤) IsKind kind_in (λ (b : Bool). 1)
kind_rule = record { sound = sound; complete = complete }
  where
    sound : (y : Bool) → IsKind y → ⊤ × (kind_in 1 ≡ Some y)
    sound true _ = (tt, refl)
    sound false h = cc

    complete : (x : ℕ) (y : Bool) → ⊤ → kind_in x ≡ Some y → IsKind y × (x ≡ 1)
    complete x true _ h = (refl, grind (arith, nat_tests))
    complete x false _ h = grind (arith, nat_tests)

kind_agrees : Agrees IsKind kind_bytes (ruled kind_in kinds.byte)
kind_agrees = ruled_agrees (λ b. ⊤) IsKind kinds.byte_bytes kinds.byte kind_in (λ b. 1) bytes_agree kind_rule

abbrev base_of : List ClientCount → List BaseStream → List BasePublication → BaseRefusals → Base
base_of clients streams publications refusals = record { clients = clients; streams = streams; publications = publications; refusals = refusals }

abbrev after_publications : List ClientCount → List BaseStream → List BasePublication → List ℕ → Result (Base × List ℕ) (List ℕ)
after_publications clients streams publications = do
  refusals ← parts.refusals
  given (base_of clients streams publications refusals)

abbrev after_streams : List ClientCount → List BaseStream → List ℕ → Result (Base × List ℕ) (List ℕ)
after_streams clients streams = do
  publications ← lists.list parts.publication
  after_publications clients streams publications

abbrev after_clients : List ClientCount → List ℕ → Result (Base × List ℕ) (List ℕ)
after_clients clients = do
  streams ← lists.list parts.stream
  after_streams clients streams

abbrev after_kind : Bool → List ℕ → Result (Base × List ℕ) (List ℕ)
after_kind is_base = do
  clients ← lists.list parts.client
  after_clients clients

-- the bytes from the publications on, from the streams on, and from the clients on
abbrev from_publications : Base → List ℕ
from_publications b = lists.list_bytes parts.publication_bytes b.publications ++ parts.refusals_bytes b.refusals

abbrev from_streams : Base → List ℕ
from_streams b = lists.list_bytes parts.stream_bytes b.streams ++ from_publications b

abbrev from_clients : Base → List ℕ
from_clients b = lists.list_bytes parts.client_bytes b.clients ++ from_streams b

base_reads : (b : Base) (rest : List ℕ) → IsProperBase b → read_base (spelling_of b ++ rest) ≡ Ok (b, rest)
base_reads b rest proper =
    let parted = of_5 (kinds.byte_bytes 1) (lists.list_bytes parts.client_bytes b.clients) (lists.list_bytes parts.stream_bytes b.streams) (lists.list_bytes parts.publication_bytes b.publications) (parts.refusals_bytes b.refusals) in
    subst (λ (l : List ℕ). read_base (l ++ rest) ≡ Ok (b, rest)) (sym parted)
    (read_first _ kind_bytes _ kind_agrees true refl after_kind (from_clients b) rest (Ok (b, rest))
    (read_first _ _ _ client_lists_agree b.clients proper.clients after_clients (from_streams b) rest (Ok (b, rest))
    (read_first _ _ _ stream_lists_agree b.streams proper.streams (after_streams b.clients) (from_publications b) rest (Ok (b, rest))
    (read_first _ _ _ publication_lists_agree b.publications proper.publications (after_publications b.clients b.streams) (parts.refusals_bytes b.refusals) rest (Ok (b, rest))
    (read_last _ _ _ refusals_agree b.refusals proper.refusals (λ (r : BaseRefusals). given (base_of b.clients b.streams b.publications r)) rest (Ok (b, rest)) refl)))))

base_spells : (bytes : List ℕ) (b : Base) (rest : List ℕ) → AreBytes bytes → read_base bytes ≡ Ok (b, rest) → IsProperBase b × (bytes ≡ spelling_of b ++ rest)
base_spells bytes b rest are h =
    let k = then_spells IsKind kind_bytes (ruled kind_in kinds.byte) kind_agrees after_kind bytes b rest are h in
    let c = then_spells _ _ _ client_lists_agree after_clients k.mid b rest k.are k.then in
    let s = then_spells _ _ _ stream_lists_agree (after_streams c.value) c.mid b rest c.are c.then in
    let p = then_spells _ _ _ publication_lists_agree (after_publications c.value s.value) s.mid b rest s.are s.then in
    let r = then_spells _ _ _ refusals_agree (λ (r : BaseRefusals). given (base_of c.value s.value p.value r)) p.mid b rest p.are p.then in
    let same = given_same (base_of c.value s.value p.value r.value) b r.mid rest r.then in
    let two = joined_spelling bytes (kinds.byte_bytes 1) k.mid (lists.list_bytes parts.client_bytes c.value) c.mid k.spelt c.spelt in
    let three = joined_spelling bytes (kinds.byte_bytes 1 ++ lists.list_bytes parts.client_bytes c.value) c.mid (lists.list_bytes parts.stream_bytes s.value) s.mid two s.spelt in
    let four = joined_spelling bytes ((kinds.byte_bytes 1 ++ lists.list_bytes parts.client_bytes c.value) ++ lists.list_bytes parts.stream_bytes s.value) s.mid (lists.list_bytes parts.publication_bytes p.value) p.mid three p.spelt in
    let all = joined_spelling bytes (((kinds.byte_bytes 1 ++ lists.list_bytes parts.client_bytes c.value) ++ lists.list_bytes parts.stream_bytes s.value) ++ lists.list_bytes parts.publication_bytes p.value) p.mid (parts.refusals_bytes r.value) r.mid four r.spelt in
    let proper : IsProperBase (base_of c.value s.value p.value r.value) = record { clients = c.proper; streams = s.proper; publications = p.proper; refusals = r.proper } in
    (subst IsProperBase same.0 proper, all ∙ (λ i. spelling_of (same.0 i) ++ same.1 i))

pub bases_exact : BasesAreExact
bases_exact = agrees_exact IsProperBase spelling_of read_base (record { reads = base_reads; spells = base_spells })

same_base : (one other : Base) → ◌≡◌ {A = Result Base DecodeFault} (Ok one) (Ok other) → one ≡ other
same_base one other h = cc

pub spellings_differ : SpellingsDiffer
spellings_differ one other proper also same =
    same_base one other (sym (bases_exact.reads one proper) ∙ ap decoded same ∙ bases_exact.reads other also)
