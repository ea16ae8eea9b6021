-- A value is read as a subject exactly where it is that subject.
use Rattle.std.proofs.Common.{◌≡◌, ◌<◌, ◌||◌, ℕ, List, [], ◌∷◌, map, flat_map, length, Bool, true, false, bytes_eq, codes, is_some, nat_lt, unwrap_or, Option, Some, None, option_and_then, Ok, refl, sym, ap, ◌∙◌, subst}
use Rattle.std.specs.List.{list_any}
use Rattle.std.proofs.lemmas.Bool.{ltb-true, lt-ltb}
use Rattle.std.proofs.lemmas.List.{length-map}
use Rattle.serde_json.specs.Data.{Data, null, boolean, number, string, array, object, Items, no_items, item}
use Rattle.serde_json.specs.Find.{as_array}
use Rattle.sig_json.specs.Checks.{check, decided, first_failing}
use Rattle.sig_json.specs.Json.{text_member}
use Rattle.sig_subject.proofs.Deciding.{passed}
use Rattle.sig_subject.proofs.Fields.{holds_only, object_with_text, only_holds, some_text}
use Rattle.sig_subject.proofs.FormatNames.{format_is, named_by}
use Rattle.sig_subject.proofs.Passing.{Passes, passes_append, passes_back, passes_cons, passes_front, passes_head, passes_tail}
use Rattle.sig_subject.proofs.PlainReading.{plain_is, plain_reads}
use Rattle.sig_subject.specs.declared.format.Format.{Format}
use Rattle.sig_subject.specs.declared.format.Format.TheVariants as format
use Rattle.sig_subject.specs.declared.plain.Plain.{Plain}
use Rattle.sig_subject.specs.declared.simple.Simple.{Simple}
use Rattle.sig_subject.specs.declared.simple.Simple.TheVariants as simple
use Rattle.sig_subject.specs.declared.member.Member.{Member}
use Rattle.sig_subject.specs.declared.subject.Subject.{Subject}
use Rattle.sig_subject.specs.declared.subject.Subject.TheVariants as subject
use Rattle.sig_subject.specs.declared.subject_fault.SubjectFault.TheVariants as fault
use Rattle.sig_subject.specs.Formats.{part_names}
use Rattle.sig_subject.specs.Reading.{checks_by, format_of, has_format, has_no_other, has_part, identifiers_by, identifiers_in, is_object, item_by, item_checks, item_checks_by, items_in, members_in, part_by, part_checks, plain_by_format, simple_by, simple_checks, subject_by, subject_of, values_of, ReadsSubjects}
use Rattle.sig_subject.specs.Subjects.{HasFormat, PartsAre, PlainIs, PlainsAre, SimpleIs, SubjectIs, parts_of}

-- ---- the first two checks of an item or a part

object_holds : (name kind : List ℕ) (v : Data) → HasFormat kind v → (is_object name v).holds ≡ true
object_holds name kind v named = let o = object_with_text (codes "format") kind v named in rw o.1 refl

named_of : (v : Data) → (has_format v).holds ≡ true → HasFormat (unwrap_or (text_member (codes "format") v) []) v
named_of v h = some_text (text_member (codes "format") v) h

fails : {F : Type 0} {P : Type 0} (f : F) → Passes (check f false ∷ []) → P
fails f h = cc

-- ---- items of aliases

item_reads : (p : Plain) (d : Data) → PlainIs p d → Passes (item_checks d) × (item_by d ≡ p)
item_reads p d h =
    let r = plain_reads p d h in
    let rest = subst (λ f. Passes (item_checks_by f d)) (sym r.1.is) r.1.passes in (
      passes_cons (is_object (codes "identifiers") d) (has_format d ∷ item_checks_by (format_of d) d) (object_holds (codes "identifiers") r.1.name d r.1.named)
          (passes_cons (has_format d) (item_checks_by (format_of d) d) (ap is_some r.1.named) rest),
      ap (λ f. plain_by_format f d) r.1.is ∙ r.1.by,
    )

item_is_by : (f : Format) (d : Data) → HasFormat (unwrap_or (text_member (codes "format") d) []) d → format_of d ≡ f → Passes (item_checks_by f d) → PlainIs (plain_by_format f d) d
item_is_by (format.Plain f) d named is h = plain_is f d _ named is h
item_is_by format.Aliases d named is h = fails fault.Nested h
item_is_by format.Complex d named is h = fails fault.Nested h

item_is : (d : Data) → Passes (item_checks d) → PlainIs (item_by d) d
item_is d h =
    let rest = passes_tail (is_object (codes "identifiers") d) (has_format d ∷ item_checks_by (format_of d) d) h in
    item_is_by (format_of d) d (named_of d (passes_head (has_format d) (item_checks_by (format_of d) d) rest)) refl (passes_tail (has_format d) (item_checks_by (format_of d) d) rest)

items_read : (ps : List Plain) (items : Items) → PlainsAre ps items → Passes (flat_map item_checks (values_of items)) × (map item_by (values_of items) ≡ ps)
items_read [] no_items h = (refl, refl)
items_read [] (item d ds) h = absurd h
items_read (p ∷ ps) no_items h = absurd h
items_read (p ∷ ps) (item d ds) h =
    let one = item_reads p d h.0 in
    let more = items_read ps ds h.1 in
    (passes_append (item_checks d) (flat_map item_checks (values_of ds)) one.0 more.0, rw (one.1, more.1) refl)

items_are : (items : Items) → Passes (flat_map item_checks (values_of items)) → PlainsAre (map item_by (values_of items)) items
items_are no_items h = tt
items_are (item d ds) h =
    (item_is d (passes_front (item_checks d) (flat_map item_checks (values_of ds)) h), items_are ds (passes_back (item_checks d) (flat_map item_checks (values_of ds)) h))

array_of : (o : Option Data) (items : Items) → option_and_then as_array o ≡ Some items → o ≡ Some (array items)
array_of None items h = cc
array_of (Some null) items h = cc
array_of (Some (boolean b)) items h = cc
array_of (Some (number n)) items h = cc
array_of (Some (string s)) items h = cc
array_of (Some (array ds)) items h = ap (λ o. option_map array o) h
  where
    option_map : {A B : Type 0} → (A → B) → Option A → Option B
    option_map f None = None
    option_map f (Some a) = Some (f a)
array_of (Some (object ms)) items h = cc

-- ---- simple subjects

record SimpleRead (s : Simple) (f : Format) (v : Data) : Type 0 where
  pub name : List ℕ
  pub named : HasFormat name v
  pub is : format_of v ≡ f
  pub passes : Passes (simple_checks f v)
  pub by : simple_by f v ≡ s

simple_reads : (s : Simple) (v : Data) → SimpleIs s v → (f : Format) × SimpleRead s f v
simple_reads (simple.Plain p) v h =
    let r = plain_reads p v h in
    (format.Plain r.0, record { name = r.1.name; named = r.1.named; is = r.1.is; passes = r.1.passes; by = ap simple.Plain r.1.by })
simple_reads (simple.Aliases ps) v h =
    let items = h.1.0 in
    let list : identifiers_in v ≡ Some items = ap (option_and_then as_array) h.1.1 in
    let values : items_in v ≡ values_of items = ap (λ o. values_of (unwrap_or o no_items)) list in
    let read = items_read ps items h.1.2 in
    let by : identifiers_by v ≡ ps = ap (map item_by) values ∙ read.1 in
    let count : length (items_in v) ≡ length ps = sym (length-map (items_in v) item_by) ∙ ap length by in
    let filled : 0 < length (items_in v) = rw count h.2 in
    let rest = flat_map item_checks (items_in v) in
    let first = check (fault.Member (codes "identifiers")) (is_some (identifiers_in v)) in
    let others = has_no_other (codes "identifiers" ∷ []) v in
    let some = check fault.Empty (nat_lt 0 (length (items_in v))) in (
      format.Aliases,
      record {
        name = codes "aliases";
        named = h.0.named;
        is = format_is v _ _ h.0.named refl;
        passes = passes_cons first (others ∷ some ∷ rest) (ap is_some list) (passes_cons others (some ∷ rest) (only_holds _ _ v h.0) (passes_cons some rest (lt-ltb 0 _ filled) (subst (λ ds. Passes (flat_map item_checks ds)) (sym values) read.0)));
        by = ap simple.Aliases by;
      },
    )

simple_is : (f : Format) (v : Data) (name : List ℕ) → HasFormat name v → format_of v ≡ f → Passes (simple_checks f v) → SimpleIs (simple_by f v) v
simple_is (format.Plain f) v name named is h = plain_is f v name named is h
simple_is format.Aliases v name named is h =
    let rest = flat_map item_checks (items_in v) in
    let first = check (fault.Member (codes "identifiers")) (is_some (identifiers_in v)) in
    let others = has_no_other (codes "identifiers" ∷ []) v in
    let some = check fault.Empty (nat_lt 0 (length (items_in v))) in
    let h1 = passes_tail first (others ∷ some ∷ rest) h in
    let h2 = passes_tail others (some ∷ rest) h1 in
    let list : identifiers_in v ≡ Some (unwrap_or (identifiers_in v) no_items) = some_items (identifiers_in v) (passes_head first (others ∷ some ∷ rest) h) in (
      holds_only _ _ v (named_by v name format.Aliases named refl is) (passes_head others (some ∷ rest) h1),
      (unwrap_or (identifiers_in v) no_items, array_of _ _ list, items_are (unwrap_or (identifiers_in v) no_items) (passes_tail some rest h2)),
      rw length-map (ltb-true 0 (length (items_in v)) (passes_head some rest h2)),
    )
  where
    some_items : (o : Option Items) → is_some o ≡ true → o ≡ Some (unwrap_or o no_items)
    some_items None e = cc
    some_items (Some a) e = refl
simple_is format.Complex v name named is h = fails fault.Nested h

-- ---- parts of complex subjects

part_reads : (s : Simple) (k : List ℕ) (d : Data) → SimpleIs s d → Passes (part_checks (k, d)) × (simple_by (format_of d) d ≡ s)
part_reads s k d h =
    let r = simple_reads s d h in
    let rest = subst (λ f. Passes (simple_checks f d)) (sym r.1.is) r.1.passes in (
      passes_cons (is_object k d) (has_format d ∷ simple_checks (format_of d) d) (object_holds k r.1.name d r.1.named)
          (passes_cons (has_format d) (simple_checks (format_of d) d) (ap is_some r.1.named) rest),
      ap (λ f. simple_by f d) r.1.is ∙ r.1.by,
    )

part_is : (k : List ℕ) (d : Data) → Passes (part_checks (k, d)) → SimpleIs (simple_by (format_of d) d) d
part_is k d h =
    let rest = passes_tail (is_object k d) (has_format d ∷ simple_checks (format_of d) d) h in
    simple_is (format_of d) d _ (named_of d (passes_head (has_format d) (simple_checks (format_of d) d) rest)) refl (passes_tail (has_format d) (simple_checks (format_of d) d) rest)

make : List ℕ → Simple → Member
make n s = record { name = n; simple = s }

part_made : (m : Member) (k : List ℕ) (d : Data) → m.name ≡ k → simple_by (format_of d) d ≡ m.simple → part_by (k, d) ≡ m
unfolding make
part_made m k d name by = ap (λ s. make k s) by ∙ ap (λ n. make n m.simple) (sym name)

abbrev is_listed : List ℕ → Bool
is_listed k = list_any (bytes_eq k) part_names

parts_read : (ms : List Member) (ps : List (List ℕ × Data)) → PartsAre ms ps
    → Passes (flat_map part_checks ps) × (map part_by ps ≡ ms) × (has_part ps ≡ list_any (λ (m : Member). is_listed m.name) ms)
parts_read [] [] h = (refl, refl, refl)
parts_read [] (p ∷ ps) h = absurd h
parts_read (m ∷ ms) [] h = absurd h
parts_read (m ∷ ms) (p ∷ ps) h =
    let one = part_reads m.simple p.0 p.1 h.1 in
    let more = parts_read ms ps h.2 in (
      passes_append (part_checks p) (flat_map part_checks ps) one.0 more.0,
      rw (part_made m p.0 p.1 h.0 one.1, more.1) refl,
      ap (λ b. is_listed p.0 || b) more.2 ∙ ap (λ k. is_listed k || list_any (λ (m : Member). is_listed m.name) ms) (sym h.0),
    )

parts_are : (ps : List (List ℕ × Data)) → Passes (flat_map part_checks ps) → PartsAre (map part_by ps) ps
parts_are [] h = tt
parts_are (p ∷ ps) h =
    (refl, part_is p.0 p.1 (passes_front (part_checks p) (flat_map part_checks ps) h), parts_are ps (passes_back (part_checks p) (flat_map part_checks ps) h))

parts_listed : (ps : List (List ℕ × Data)) → list_any (λ (m : Member). is_listed m.name) (map part_by ps) ≡ has_part ps
parts_listed [] = refl
parts_listed (p ∷ ps) = ap (λ b. is_listed p.0 || b) (parts_listed ps)

-- ---- subjects

read_by : (s : Subject) (v : Data) (f : Format) (name : List ℕ) → HasFormat name v → format_of v ≡ f → Passes (checks_by f v) → subject_by f v ≡ s → subject_of v ≡ Ok s
read_by s v f name named is passes by =
    let all : Passes (has_format v ∷ checks_by (format_of v) v) = passes_cons (has_format v) (checks_by (format_of v) v) (ap is_some named) (subst (λ g. Passes (checks_by g v)) (sym is) passes) in
    ap (λ o. decided o (subject_by (format_of v) v)) all ∙ ap (λ g. Ok (subject_by g v)) is ∙ ap Ok by

simple_top : (s : Simple) (v : Data) (f : Format) → SimpleRead s f v → subject_of v ≡ Ok (subject.Simple s)
simple_top s v (format.Plain f) r = read_by (subject.Simple s) v (format.Plain f) r.name r.named r.is r.passes (ap subject.Simple r.by)
simple_top s v format.Aliases r = read_by (subject.Simple s) v format.Aliases r.name r.named r.is r.passes (ap subject.Simple r.by)
simple_top s v format.Complex r = fails fault.Nested r.passes

reads : (s : Subject) (v : Data) → SubjectIs s v → subject_of v ≡ Ok s
reads (subject.Simple s) v h = let r = simple_reads s v h in simple_top s v r.0 r.1
reads (subject.Complex ms) v h =
    let members = h.1.0 in
    let inside : members_in v ≡ members = ap members_in h.1.1 in
    let parts : parts_of (members_in v) ≡ parts_of members = ap parts_of inside in
    let read = parts_read ms (parts_of members) h.1.2 in
    let some = check fault.Empty (has_part (parts_of (members_in v))) in
    let listed : has_part (parts_of (members_in v)) ≡ true = ap has_part parts ∙ read.2 ∙ h.2 in
    read_by (subject.Complex ms) v format.Complex (codes "complex") h.0 (format_is v _ _ h.0 refl)
    (passes_cons some (flat_map part_checks (parts_of (members_in v))) listed (subst (λ ps. Passes (flat_map part_checks ps)) (sym parts) read.0))
    (ap (λ ps. subject.Complex (map part_by ps)) parts ∙ ap subject.Complex read.1)

is_by : (f : Format) (v : Data) (name : List ℕ) → HasFormat name v → format_of v ≡ f → Passes (checks_by f v) → SubjectIs (subject_by f v) v
is_by (format.Plain f) v name named is h = simple_is (format.Plain f) v name named is h
is_by format.Aliases v name named is h = simple_is format.Aliases v name named is h
is_by format.Complex v name named is h =
    let o = object_with_text (codes "format") name v named in
    let inside : members_in v ≡ o.0 = ap members_in o.1 in
    let parts : parts_of (members_in v) ≡ parts_of o.0 = ap parts_of inside in
    let some = check fault.Empty (has_part (parts_of (members_in v))) in
    let rest = flat_map part_checks (parts_of (members_in v)) in (
      named_by v name format.Complex named refl is,
      (o.0, o.1, subst (λ ps. PartsAre (map part_by (parts_of (members_in v))) ps) parts (parts_are (parts_of (members_in v)) (passes_tail some rest h))),
      parts_listed (parts_of (members_in v)) ∙ passes_head some rest h,
    )

is_read : (s : Subject) (v : Data) → subject_of v ≡ Ok s → SubjectIs s v
is_read s v h =
    let rest = checks_by (format_of v) v in
    let p = passed (first_failing (has_format v ∷ rest)) (subject_by (format_of v) v) s h in
    subst (λ t. SubjectIs t v) p.1 (is_by (format_of v) v _ (named_of v (passes_head (has_format v) rest p.0)) refl (passes_tail (has_format v) rest p.0))

pub reads_subjects : ReadsSubjects
reads_subjects s v = (reads s v, is_read s v)
