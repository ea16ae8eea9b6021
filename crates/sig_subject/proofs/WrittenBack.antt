-- A subject that was read of a text is written as the value that it was read of.
use Rattle.std.proofs.Common.{◌≡◌, ◌≤◌, ◌||◌, ◌⊎◌, ℕ, List, [], ◌∷◌, map, Bool, true, false, bytes_eq, codes, unwrap_or, Option, Some, None, option_and_then, inl, inr, refl, sym, ap, ◌∙◌, subst, arith}
use Rattle.std.specs.List.{list_any}
use Rattle.serde_json.specs.Data.{Data, null, boolean, number, string, array, object, Items, no_items, item, Members, no_members, member, put, depth, items_depth, members_depth}
use Rattle.serde_json.specs.Find.{as_str, get_member}
use Rattle.serde_json.specs.Read.{max_depth}
use Rattle.serde_json.specs.View.{items_of}
use Rattle.serde_json.proofs.Views.{get_member-put, get_member-put_other}
use Rattle.sig_json.specs.Json.{json_of, member_of, text_member}
use Rattle.sig_json.proofs.OrderedMembers.{AreOrdered, get_here, get_later, get_skips, ordered_put, same_members}
use Rattle.sig_json.proofs.ReadBack.{canon_reads}
use Rattle.sig_json.proofs.Spelled.{canonical, get_depth, get_in_order, in_order_members, spelled_depth, spelled_in_order}
use Rattle.sig_json.specs.Order.{InOrder, ItemsInOrder, MembersInOrder}
use Rattle.sig_subject.proofs.Identity.{text_same, text_sound}
use Rattle.sig_subject.proofs.SubjectReading.{reads_subjects}
use Rattle.sig_subject.specs.declared.plain.Plain.{Plain}
use Rattle.sig_subject.specs.declared.plain.Plain.TheVariants as plain
use Rattle.sig_subject.specs.declared.simple.Simple.{Simple}
use Rattle.sig_subject.specs.declared.simple.Simple.TheVariants as simple
use Rattle.sig_subject.specs.declared.member.Member.{Member}
use Rattle.sig_subject.specs.declared.subject.Subject.{Subject}
use Rattle.sig_subject.specs.declared.subject.Subject.TheVariants as subject
use Rattle.sig_subject.specs.Reading.{subject_of}
use Rattle.sig_subject.specs.Subjects.{HasOnly, HasText, PartsAre, PlainIs, PlainsAre, SimpleIs, SubjectIs, names_of, parts_of}
use Rattle.sig_subject.specs.Written.{of_format, part_data, plain_data, put_all, simple_data, subject_data, ReadsWritten, WritesBack}

false_is_true : {P : Type 0} → false ≡ true → P
false_is_true h = cc

none_is_some : {P A : Type 0} {a : A} → None ≡ Some a → P
none_is_some h = cc

or_parts : (a b : Bool) → a || b ≡ false → (a ≡ false) × (b ≡ false)
or_parts false b h = (refl, h)
or_parts true b h = cc

-- ---- members that were put in

abbrev is_among : List ℕ → List (List ℕ × Data) → Bool
is_among k fs = list_any (λ (f : List ℕ × Data). bytes_eq k f.0) fs

abbrev AllFound : (List ℕ → Option Data) → List (List ℕ × Data) → Type 0
AllFound target [] = Unit {0}
AllFound target (f ∷ fs) = (target f.0 ≡ Some f.1) × AllFound target fs

ordered_all : (fs : List (List ℕ × Data)) (ms : Members) → AreOrdered ms → AreOrdered (put_all ms fs)
ordered_all [] ms h = h
ordered_all (f ∷ fs) ms h = ordered_all fs (put f.0 f.1 ms) (ordered_put f.0 f.1 ms h)

differs : (k l : List ℕ) → bytes_eq k l ≡ false → k ≡ l → ⊥
differs k l e same = false_is_true (sym e ∙ ap (bytes_eq k) (sym same) ∙ text_same k)

found_next : (target : List ℕ → Option Data) (f : List ℕ × Data) (fs : List (List ℕ × Data)) (ns : Members) (k : List ℕ) (b : Bool) → bytes_eq k f.0 ≡ b → target f.0 ≡ Some f.1
    → (bytes_eq k f.0 || is_among k fs ≡ true) ⊎ (get_member k ns ≡ target k) → (is_among k fs ≡ true) ⊎ (get_member k (put f.0 f.1 ns) ≡ target k)
found_next target f fs ns k true e found h =
    let same = text_sound k f.0 e in
    inr (ap (λ n. get_member n (put f.0 f.1 ns)) same ∙ get_member-put f.0 f.1 ns ∙ sym found ∙ ap target (sym same))
found_next target f fs ns k false e found (inl h) = inl (rw e at h)
found_next target f fs ns k false e found (inr h) = inr (get_member-put_other k f.0 f.1 ns (differs k f.0 e) ∙ h)

found_all : (target : List ℕ → Option Data) (fs : List (List ℕ × Data)) (ns : Members) (k : List ℕ) → AllFound target fs → (is_among k fs ≡ true) ⊎ (get_member k ns ≡ target k)
    → get_member k (put_all ns fs) ≡ target k
found_all target [] ns k found (inl h) = false_is_true h
found_all target [] ns k found (inr h) = h
found_all target (f ∷ fs) ns k found h = found_all target fs (put f.0 f.1 ns) k found.1 (found_next target f fs ns k (bytes_eq k f.0) refl found.0 h)

looked_up : (ms : Members) (fs : List (List ℕ × Data)) (k : List ℕ) (b : Bool) → is_among k fs ≡ b → AllFound (λ q. get_member q ms) fs → (is_among k fs ≡ false → get_member k ms ≡ None)
    → get_member k (put_all no_members fs) ≡ get_member k ms
looked_up ms fs k true e found only = found_all (λ q. get_member q ms) fs no_members k found (inl e)
looked_up ms fs k false e found only = found_all (λ q. get_member q ms) fs no_members k found (inr (sym (only e)))

-- members in byte order are those that are found in them, put in one after another
members_are : (ms : Members) (fs : List (List ℕ × Data)) → AreOrdered ms → AllFound (λ k. get_member k ms) fs → ((k : List ℕ) → is_among k fs ≡ false → get_member k ms ≡ None) → put_all no_members fs ≡ ms
members_are ms fs ordered found only =
    same_members (put_all no_members fs) ms (ordered_all fs no_members tt) ordered (λ k. looked_up ms fs k (is_among k fs) refl found (only k))

unnamed : (k : List ℕ) (ms : Members) → list_any (bytes_eq k) (names_of ms) ≡ false → get_member k ms ≡ None
unnamed k no_members h = refl
unnamed k (member l d ms) h = let p = or_parts (bytes_eq k l) _ h in get_skips k l d ms (differs k l p.0) ∙ unnamed k ms p.1

pub string_of : (o : Option Data) (text : List ℕ) → option_and_then as_str o ≡ Some text → o ≡ Some (string text)
string_of None text h = none_is_some h
string_of (Some null) text h = none_is_some h
string_of (Some (boolean b)) text h = none_is_some h
string_of (Some (number n)) text h = none_is_some h
string_of (Some (string s)) text h = ap (λ t. Some (string t)) (some_same h)
  where
    some_same : Some s ≡ Some text → s ≡ text
    some_same e = cc
string_of (Some (array ds)) text h = none_is_some h
string_of (Some (object ms)) text h = none_is_some h

not_listed : (names : List (List ℕ)) (ms : Members) (k : List ℕ) (b : Bool) → list_any (bytes_eq k) (names_of ms) ≡ b
    → (list_any (bytes_eq k) (names_of ms) ≡ true → list_any (bytes_eq k) (codes "format" ∷ names) ≡ true) → list_any (bytes_eq k) (codes "format" ∷ names) ≡ false → get_member k ms ≡ None
not_listed names ms k true e only h = false_is_true (sym h ∙ only e)
not_listed names ms k false e only h = unnamed k ms e

-- an object with only these members is made of them
fields_written : (kind : List ℕ) (names : List (List ℕ)) (v : Data) (fs : List (List ℕ × Data)) → HasOnly kind names v → AllFound (λ k. member_of k v) fs
    → ((k : List ℕ) → list_any (bytes_eq k) names ≡ is_among k fs) → InOrder v → of_format kind fs ≡ v
fields_written kind names v fs only found alike ordered =
    let ms = only.members in
    let named : member_of (codes "format") v ≡ Some (string kind) = string_of (member_of (codes "format") v) kind only.named in
    let all : AllFound (λ k. member_of k v) ((codes "format", string kind) ∷ fs) = (named, found) in
    ap object
    (members_are ms ((codes "format", string kind) ∷ fs) (in_order_members ms (subst InOrder only.is ordered)) (subst (λ w. AllFound (λ k. member_of k w) ((codes "format", string kind) ∷ fs)) only.is all)
    (λ k missing. not_listed names ms k (list_any (bytes_eq k) (names_of ms)) refl (only.only k) (ap (λ b. bytes_eq k (codes "format") || b) (alike k) ∙ missing)))
    ∙ sym only.is

one_written : (kind name prefix text : List ℕ) (v : Data) → HasOnly kind (name ∷ []) v → HasText name prefix v text → InOrder v → of_format kind ((name, string text) ∷ []) ≡ v
one_written kind name prefix text v only has ordered =
    fields_written kind (name ∷ []) v ((name, string text) ∷ []) only (string_of (member_of name v) text has.is, tt) (λ k. refl) ordered

two_written : (kind one two a b : List ℕ) (v : Data) → HasOnly kind (one ∷ two ∷ []) v → HasText one [] v a → HasText two [] v b → InOrder v
    → of_format kind ((one, string a) ∷ (two, string b) ∷ []) ≡ v
two_written kind one two a b v only first second ordered =
    fields_written kind (one ∷ two ∷ []) v ((one, string a) ∷ (two, string b) ∷ []) only (string_of (member_of one v) a first.is, (string_of (member_of two v) b second.is, tt)) (λ k. refl) ordered

-- ---- subjects

pub plain_written : (p : Plain) (v : Data) → PlainIs p v → InOrder v → depth v ≤ max_depth → plain_data p ≡ v
plain_written (plain.Account uri) v h ordered shallow = one_written (codes "account") (codes "uri") (codes "acct:") uri v h.0 h.1 ordered
plain_written (plain.Email email) v h ordered shallow = one_written (codes "email") (codes "email") [] email v h.0 h.1 ordered
plain_written (plain.IssSub iss sub) v h ordered shallow = two_written (codes "iss_sub") (codes "iss") (codes "sub") iss sub v h.0 h.1 h.2 ordered
plain_written (plain.Opaque id) v h ordered shallow = one_written (codes "opaque") (codes "id") [] id v h.0 h.1 ordered
plain_written (plain.Phone phone) v h ordered shallow = one_written (codes "phone_number") (codes "phone_number") [] phone v h.0 h.1 ordered
plain_written (plain.Did url) v h ordered shallow = one_written (codes "did") (codes "url") (codes "did:") url v h.0 h.1 ordered
plain_written (plain.Uri uri) v h ordered shallow = one_written (codes "uri") (codes "uri") [] uri v h.0 h.1 ordered
plain_written (plain.JwtId iss jti) v h ordered shallow = two_written (codes "jwt_id") (codes "iss") (codes "jti") iss jti v h.0 h.1 h.2 ordered
plain_written (plain.Saml issuer assertion) v h ordered shallow = two_written (codes "saml_assertion_id") (codes "issuer") (codes "assertion_id") issuer assertion v h.0 h.1 h.2 ordered
plain_written (plain.Unknown canon) v h ordered shallow =
    ap (λ o. unwrap_or o null) (ap json_of h.2 ∙ canon_reads v (canonical v ordered h.1) shallow)

plains_written : (ps : List Plain) (items : Items) → PlainsAre ps items → ItemsInOrder items → items_depth items ≤ max_depth → items_of (map plain_data ps) ≡ items
plains_written [] no_items h ordered shallow = refl
plains_written [] (item d ds) h ordered shallow = absurd h
plains_written (p ∷ ps) no_items h ordered shallow = absurd h
plains_written (p ∷ ps) (item d ds) h ordered shallow =
    rw (plain_written p d h.0 ordered.0 (omega arith), plains_written ps ds h.1 ordered.1 (omega arith)) refl

pub aliases_written : (items : Items) (v : Data) → HasOnly (codes "aliases") (codes "identifiers" ∷ []) v → member_of (codes "identifiers") v ≡ Some (array items) → InOrder v
    → of_format (codes "aliases") ((codes "identifiers", array items) ∷ []) ≡ v
aliases_written items v only found ordered =
    fields_written (codes "aliases") (codes "identifiers" ∷ []) v ((codes "identifiers", array items) ∷ []) only (found, tt) (λ k. refl) ordered

simple_written : (s : Simple) (v : Data) → SimpleIs s v → InOrder v → depth v ≤ max_depth → simple_data s ≡ v
simple_written (simple.Plain p) v h ordered shallow = plain_written p v h ordered shallow
simple_written (simple.Aliases ps) v h ordered shallow =
    let ms = h.0.members in
    let items = h.1.0 in
    let inside : get_member (codes "identifiers") ms ≡ Some (array items) = subst (λ w. member_of (codes "identifiers") w ≡ Some (array items)) h.0.is h.1.1 in
    let members : MembersInOrder ms = subst InOrder h.0.is ordered in
    let low : depth (array items) ≤ members_depth ms = get_depth (codes "identifiers") ms (array items) inside in
    let whole : depth v ≡ depth (object ms) = ap depth h.0.is in
    let written : items_of (map plain_data ps) ≡ items = plains_written ps items h.1.2 (get_in_order (codes "identifiers") ms (array items) members inside) (omega arith) in
    ap (λ ds. of_format (codes "aliases") ((codes "identifiers", array ds) ∷ [])) written
    ∙ aliases_written items v h.0 h.1.1 ordered

part_written : (m : Member) (k : List ℕ) (d : Data) → m.name ≡ k → simple_data m.simple ≡ d → part_data m ≡ (k, d)
part_written m k d name value = rw (name, value) refl

abbrev pub is_format : List ℕ → Bool
is_format k = bytes_eq k (codes "format")

parts_written_at : (b : Bool) (ms : List Member) (k : List ℕ) (d : Data) (rest : Members) → is_format k ≡ b → PartsAre ms (parts_of (member k d rest)) → InOrder d → depth d ≤ max_depth
    → ((ns : List Member) → PartsAre ns (parts_of rest) → map part_data ns ≡ parts_of rest) → map part_data ms ≡ parts_of (member k d rest)
parts_written_at true ms k d rest e h ordered shallow more = rw e (more ms (rw e at h))
parts_written_at false ms k d rest e h ordered shallow more = rw e (first ms (rw e at h))
  where
    first : (ns : List Member) → PartsAre ns ((k, d) ∷ parts_of rest) → map part_data ns ≡ (k, d) ∷ parts_of rest
    first [] j = absurd j
    first (m ∷ ns) j = rw (part_written m k d j.0 (simple_written m.simple d j.1 ordered shallow), more ns j.2) refl

parts_written : (members : Members) (ms : List Member) → PartsAre ms (parts_of members) → MembersInOrder members → members_depth members ≤ max_depth → map part_data ms ≡ parts_of members
parts_written no_members [] h ordered shallow = refl
parts_written no_members (m ∷ ms) h ordered shallow = absurd h
parts_written (member k d rest) ms h ordered shallow =
    parts_written_at (is_format k) ms k d rest refl h ordered.1 (omega arith) (λ ns j. parts_written rest ns j ordered.3 (omega arith))

parts_found_at : (b : Bool) (target : List ℕ → Option Data) (k : List ℕ) (d : Data) (rest : Members) → is_format k ≡ b → target k ≡ Some d → AllFound target (parts_of rest) → AllFound target (parts_of (member k d rest))
parts_found_at true target k d rest e here more = rw e more
parts_found_at false target k d rest e here more = rw e (here, more)

-- the parts of members in byte order are found in them
parts_found : (target : List ℕ → Option Data) (ms : Members) → AreOrdered ms → ((k : List ℕ) (d : Data) → get_member k ms ≡ Some d → target k ≡ Some d) → AllFound target (parts_of ms)
parts_found target no_members h agree = tt
parts_found target (member k d rest) h agree =
    parts_found_at (is_format k) target k d rest refl (agree k d (get_here k d rest)) (parts_found target rest h.1 (λ q e found. agree q e (get_later q k d e rest h.0 found)))

-- what is neither the format nor a part isn't there
missing : (k : List ℕ) (ms : Members) → is_format k ≡ false → is_among k (parts_of ms) ≡ false → get_member k ms ≡ None
missing k no_members other h = refl
missing k (member l d rest) other h = by_name (is_format l) refl h (missing k rest other)
  where
    by_name : (b : Bool) → is_format l ≡ b → is_among k (parts_of (member l d rest)) ≡ false → (is_among k (parts_of rest) ≡ false → get_member k rest ≡ None) → get_member k (member l d rest) ≡ None
    by_name true e j more =
        let apart : k ≡ l → ⊥ = λ (same : k ≡ l). false_is_true (sym other ∙ ap is_format same ∙ e) in
        get_skips k l d rest apart ∙ more (rw e at j)
    by_name false e j more =
        let parts : bytes_eq k l || is_among k (parts_of rest) ≡ false = rw e at j in
        let p = or_parts (bytes_eq k l) (is_among k (parts_of rest)) parts in
        get_skips k l d rest (differs k l p.0) ∙ more p.1

subject_written : (s : Subject) (v : Data) → SubjectIs s v → InOrder v → depth v ≤ max_depth → subject_data s ≡ v
subject_written (subject.Simple s) v h ordered shallow = simple_written s v h ordered shallow
subject_written (subject.Complex parts) v h ordered shallow =
    let ms = h.1.0 in
    let members : MembersInOrder ms = subst InOrder h.1.1 ordered in
    let stand = in_order_members ms members in
    let whole : depth v ≡ depth (object ms) = ap depth h.1.1 in
    let named : get_member (codes "format") ms ≡ Some (string (codes "complex")) =
    string_of (get_member (codes "format") ms) (codes "complex") (subst (λ w. text_member (codes "format") w ≡ Some (codes "complex")) h.1.1 h.0) in
    let written : map part_data parts ≡ parts_of ms = parts_written ms parts h.1.2 members (omega arith) in
    let fields = (codes "format", string (codes "complex")) ∷ parts_of ms in
    ap (λ fs. of_format (codes "complex") fs) written
    ∙ ap object (members_are ms fields stand (named, parts_found (λ k. get_member k ms) ms stand (λ k d e. e)) (λ k h. let p = or_parts (is_format k) (is_among k (parts_of ms)) h in missing k ms p.0 p.1))
    ∙ sym h.1.1

pub written_back : WritesBack
written_back s v ordered shallow is = subject_written s v is ordered shallow

-- likewise of a value that a text spells
pub writes_back : (text : List ℕ) (s : Subject) (v : Data) → json_of text ≡ Some v → SubjectIs s v → subject_data s ≡ v
writes_back text s v spelled is = subject_written s v is (spelled_in_order text v spelled) (spelled_depth text v spelled)

pub reads_written : ReadsWritten
reads_written s proper = ap subject_of (writes_back _ s proper.0 proper.1 proper.2) ∙ (reads_subjects s proper.0).0 proper.2
