-- A subject that was read of a text is proper, and a proper one is written as a canonical value.
use Rattle.std.proofs.Common.{◌≡◌, ◌≤◌, ◌||◌, ℕ, List, [], ◌∷◌, Bool, true, false, codes, Some, refl, sym, ap, ◌∙◌, subst, arith}
use Rattle.std.specs.Prelude.{Result, Ok}
use Rattle.serde_json.specs.Data.{Data, string, array, object, Items, no_items, item, Members, no_members, member, depth, items_depth, members_depth}
use Rattle.serde_json.specs.Find.{get_member}
use Rattle.serde_json.specs.Read.{max_depth}
use Rattle.serde_json.specs.Written.{compact_text, has_float, items_have_float, members_have_float}
use Rattle.sig_json.specs.Canon.{IsCanonical}
use Rattle.sig_json.specs.Json.{json_of, member_of, text_member}
use Rattle.sig_json.proofs.OrderedMembers.{get_here, get_later}
use Rattle.sig_json.proofs.ReadBack.{canon_reads}
use Rattle.sig_json.proofs.Spelled.{canonical, get_depth, get_in_order, spelled_depth, spelled_in_order}
use Rattle.sig_json.specs.Order.{InOrder, ItemsInOrder, MembersInOrder}
use Rattle.sig_subject.proofs.Identity.{decides_identity, text_sound}
use Rattle.sig_subject.proofs.SubjectReading.{reads_subjects}
use Rattle.sig_subject.proofs.WrittenBack.{is_format, aliases_written, plain_written, string_of, writes_back, written_back}
use Rattle.sig_subject.specs.declared.plain.Plain.{Plain}
use Rattle.sig_subject.specs.declared.plain.Plain.TheVariants as plain
use Rattle.sig_subject.specs.declared.simple.Simple.{Simple}
use Rattle.sig_subject.specs.declared.simple.Simple.TheVariants as simple
use Rattle.sig_subject.specs.declared.member.Member.{Member}
use Rattle.sig_subject.specs.declared.subject.Subject.{Subject}
use Rattle.sig_subject.specs.declared.subject.Subject.TheVariants as subject
use Rattle.sig_subject.specs.Subjects.{PartsAre, PlainIs, PlainsAre, SimpleIs, SubjectIs, parts_of}
use Rattle.sig_subject.specs.declared.subject_fault.SubjectFault.{SubjectFault}
use Rattle.sig_subject.specs.Laws.{TextsIdentify}
use Rattle.sig_subject.specs.Reading.{subject_of}
use Rattle.sig_subject.specs.Written.{IsProperSubject, of_format, subject_text, ReadsProper, WritesCanonical}

neither : (a b : Bool) → a ≡ false → b ≡ false → a || b ≡ false
neither a b h k = rw (h, k) refl

-- ---- no fraction stands in a subject

plain_whole : (p : Plain) (v : Data) → PlainIs p v → InOrder v → depth v ≤ max_depth → has_float v ≡ false
plain_whole (plain.Account uri) v h ordered shallow = ap has_float (sym (plain_written (plain.Account uri) v h ordered shallow))
plain_whole (plain.Email email) v h ordered shallow = ap has_float (sym (plain_written (plain.Email email) v h ordered shallow))
plain_whole (plain.IssSub iss sub) v h ordered shallow = ap has_float (sym (plain_written (plain.IssSub iss sub) v h ordered shallow))
plain_whole (plain.Opaque id) v h ordered shallow = ap has_float (sym (plain_written (plain.Opaque id) v h ordered shallow))
plain_whole (plain.Phone phone) v h ordered shallow = ap has_float (sym (plain_written (plain.Phone phone) v h ordered shallow))
plain_whole (plain.Did url) v h ordered shallow = ap has_float (sym (plain_written (plain.Did url) v h ordered shallow))
plain_whole (plain.Uri uri) v h ordered shallow = ap has_float (sym (plain_written (plain.Uri uri) v h ordered shallow))
plain_whole (plain.JwtId iss jti) v h ordered shallow = ap has_float (sym (plain_written (plain.JwtId iss jti) v h ordered shallow))
plain_whole (plain.Saml issuer assertion) v h ordered shallow = ap has_float (sym (plain_written (plain.Saml issuer assertion) v h ordered shallow))
plain_whole (plain.Unknown canon) v h ordered shallow = h.1

plains_whole : (ps : List Plain) (items : Items) → PlainsAre ps items → ItemsInOrder items → items_depth items ≤ max_depth → items_have_float items ≡ false
plains_whole [] no_items h ordered shallow = refl
plains_whole [] (item d ds) h ordered shallow = absurd h
plains_whole (p ∷ ps) no_items h ordered shallow = absurd h
plains_whole (p ∷ ps) (item d ds) h ordered shallow =
    neither (has_float d) (items_have_float ds) (plain_whole p d h.0 ordered.0 (omega arith)) (plains_whole ps ds h.1 ordered.1 (omega arith))

list_whole : (ds : Items) → items_have_float ds ≡ false → has_float (of_format (codes "aliases") ((codes "identifiers", array ds) ∷ [])) ≡ false
list_whole ds h = rw h refl

simple_whole : (s : Simple) (v : Data) → SimpleIs s v → InOrder v → depth v ≤ max_depth → has_float v ≡ false
simple_whole (simple.Plain p) v h ordered shallow = plain_whole p v h ordered shallow
simple_whole (simple.Aliases ps) v h ordered shallow =
    let ms = h.0.members in
    let items = h.1.0 in
    let inside : get_member (codes "identifiers") ms ≡ Some (array items) = subst (λ w. member_of (codes "identifiers") w ≡ Some (array items)) h.0.is h.1.1 in
    let members : MembersInOrder ms = subst InOrder h.0.is ordered in
    let low : depth (array items) ≤ members_depth ms = get_depth (codes "identifiers") ms (array items) inside in
    let whole : depth v ≡ depth (object ms) = ap depth h.0.is in
    ap has_float (sym (aliases_written items v h.0 h.1.1 ordered))
    ∙ list_whole items (plains_whole ps items h.1.2 (get_in_order (codes "identifiers") ms (array items) members inside) (omega arith))

abbrev FormatIsWhole : Members → Type 0
FormatIsWhole ms = (d : Data) → get_member (codes "format") ms ≡ Some d → has_float d ≡ false

part_whole : (ms : List Member) (k : List ℕ) (d : Data) (rest : List (List ℕ × Data)) → PartsAre ms ((k, d) ∷ rest) → InOrder d → depth d ≤ max_depth → has_float d ≡ false
part_whole [] k d rest h ordered shallow = absurd h
part_whole (m ∷ ms) k d rest h ordered shallow = simple_whole m.simple d h.1 ordered shallow

other_parts : (ms : List Member) (k : List ℕ) (d : Data) (rest : List (List ℕ × Data)) → PartsAre ms ((k, d) ∷ rest) → (ns : List Member) × PartsAre ns rest
other_parts [] k d rest h = absurd h
other_parts (m ∷ ms) k d rest h = (ms, h.2)

parts_whole_at : (b : Bool) (ms : List Member) (k : List ℕ) (d : Data) (rest : Members) → is_format k ≡ b → PartsAre ms (parts_of (member k d rest)) → InOrder d → depth d ≤ max_depth
    → FormatIsWhole (member k d rest) → ((ns : List Member) → PartsAre ns (parts_of rest) → members_have_float rest ≡ false) → members_have_float (member k d rest) ≡ false
parts_whole_at true ms k d rest e h ordered shallow format more =
    let name = text_sound k (codes "format") e in
    let here : has_float d ≡ false = format d (ap (λ n. get_member n (member k d rest)) (sym name) ∙ get_here k d rest) in
    neither (has_float d) (members_have_float rest) here (more ms (rw e at h))
parts_whole_at false ms k d rest e h ordered shallow format more =
    let parts : PartsAre ms ((k, d) ∷ parts_of rest) = rw e at h in
    let left = other_parts ms k d (parts_of rest) parts in
    neither (has_float d) (members_have_float rest) (part_whole ms k d (parts_of rest) parts ordered shallow) (more left.0 left.1)

parts_whole : (members : Members) (ms : List Member) → PartsAre ms (parts_of members) → MembersInOrder members → members_depth members ≤ max_depth → FormatIsWhole members → members_have_float members ≡ false
parts_whole no_members ms h ordered shallow format = refl
parts_whole (member k d rest) ms h ordered shallow format =
    parts_whole_at (is_format k) ms k d rest refl h ordered.1 (omega arith) format
    (λ ns j. parts_whole rest ns j ordered.3 (omega arith) (λ e found. format e (get_later (codes "format") k d e rest ordered.2 found)))

some_same : (d e : Data) → Some d ≡ Some e → d ≡ e
some_same d e h = cc

-- no fraction stands in what a subject is
pub subject_whole : (s : Subject) (v : Data) → SubjectIs s v → InOrder v → depth v ≤ max_depth → has_float v ≡ false
subject_whole (subject.Simple s) v h ordered shallow = simple_whole s v h ordered shallow
subject_whole (subject.Complex parts) v h ordered shallow =
    let ms = h.1.0 in
    let members : MembersInOrder ms = subst InOrder h.1.1 ordered in
    let whole : depth v ≡ depth (object ms) = ap depth h.1.1 in
    let named : get_member (codes "format") ms ≡ Some (string (codes "complex")) =
    string_of (get_member (codes "format") ms) (codes "complex") (subst (λ w. text_member (codes "format") w ≡ Some (codes "complex")) h.1.1 h.0) in
    ap has_float h.1.1
    ∙ parts_whole ms parts h.1.2 members (omega arith) (λ d found. ap has_float (some_same d (string (codes "complex")) (sym found ∙ named)))

pub reads_proper : ReadsProper
reads_proper v s ordered shallow read =
    let is = (reads_subjects s v).1 read in
    let written = written_back s v ordered shallow is in
    (v, ap (λ d. json_of (compact_text d)) written ∙ canon_reads v (canonical v ordered (subject_whole s v is ordered shallow)) shallow, is)

pub writes_canonical : WritesCanonical
writes_canonical s (v, spelled, is) =
    let ordered = spelled_in_order (subject_text s) v spelled in
    let shallow = spelled_depth (subject_text s) v spelled in
    subst IsCanonical (sym (writes_back (subject_text s) s v spelled is)) (canonical v ordered (subject_whole s v is ordered shallow))

same_value : (v w : Data) → Some v ≡ Some w → v ≡ w
same_value v w h = cc

same_subject : (a b : Subject) → (let one : Result Subject SubjectFault = Ok a in one ≡ Ok b) → a ≡ b
same_subject a b h = cc

-- proper subjects of one text are read of one value
one_text : (a b : Subject) → IsProperSubject a → IsProperSubject b → subject_text a ≡ subject_text b → a ≡ b
one_text a b (v, spelled, is) (w, spelled_too, is_too) same =
    let value : v ≡ w = same_value v w (sym spelled ∙ ap json_of same ∙ spelled_too) in
    same_subject a b (sym ((reads_subjects a v).0 is) ∙ ap subject_of value ∙ (reads_subjects b w).0 is_too)

pub texts_identify : TextsIdentify
texts_identify a b one two = (λ same. ap subject_text ((decides_identity a b).0 same), λ same. (decides_identity a b).1 (one_text a b one two same))
