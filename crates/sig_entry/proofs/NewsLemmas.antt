-- Subjects and news are read as they are spelled.
use Rattle.std.proofs.Common.{◌≡◌, ◌<◌, ◌≤◌, ◌^◌, ◌&&◌, ap, sym, ◌∙◌, refl, subst, ℕ, List, [], ◌∷◌, ◌++◌, length, Bool, true, false, nat_lt, cond, Option, Some, None, arith}
use Rattle.std.specs.Prelude.{Result, Ok, Err, IsUtf8, bytes_eq, option_and_then, ⊤}
use Rattle.std.specs.Result.{result_ok}
use Rattle.std.specs.Str.{is_utf8}
use Rattle.std.proofs.lemmas.Bool.{ltb-true}
use Rattle.std.proofs.lemmas.Slice.Eq.{bytes_eq-Decides}
use Rattle.std.proofs.lemmas.Str.{IsUtf8-from_is_utf8}
use Rattle.json.proofs.Printed.Utf8.{are_ascii, IsUtf8-are_ascii}
use Rattle.serde_json.specs.Data.{Data}
use Rattle.serde_json.specs.Written.{compact_text}
use Rattle.serde_json.specs.Read.{read}
use Rattle.sig_json.specs.Json.{json_of}
use Rattle.sig_json.specs.Order.{InOrder}
use Rattle.sig_json.proofs.Fractions.{canonical_kept}
use Rattle.sig_json.proofs.Spelled.{spelled_in_order, spelled_depth}
use Rattle.sig_fields.specs.Agreeing.{Agrees, AreBytes, IsProperText}
use Rattle.sig_fields.specs.Kinds as kinds
use Rattle.sig_fields.specs.Reading.{given, next_after, ruled, ◌>>=◌}
use Rattle.sig_fields.proofs.Agreeing.{HasRule, Step, given_same, joined_spelling, ruled_agrees, texts_agree, then_reads, then_spells}
use Rattle.sig_subject.specs.declared.subject.Subject.{Subject}
use Rattle.sig_subject.specs.Reading.{subject_of}
use Rattle.sig_subject.specs.Subjects.{SubjectIs}
use Rattle.sig_subject.specs.Written.{IsProperSubject, subject_data, subject_text}
use Rattle.sig_subject.proofs.ProperRead as subjects
use Rattle.sig_subject.proofs.SubjectReading.{reads_subjects}
use Rattle.sig_caep.specs.Events as caep
use Rattle.sig_caep.specs.declared.event_type.CaepType.TheVariants as caep_type
use Rattle.sig_risc.specs.Events as risc
use Rattle.sig_risc.specs.declared.event_type.RiscType.TheVariants as risc_type
use Rattle.sig_event.specs.declared.event.Event.{Event}
use Rattle.sig_event.specs.declared.event.Event.TheVariants as event
use Rattle.sig_event.specs.declared.event_type.EventType.{EventType}
use Rattle.sig_event.specs.declared.event_type.EventType.TheVariants.{Caep, Risc, Verification, StreamUpdated}
use Rattle.sig_event.specs.declared.news.News.{News}
use Rattle.sig_event.specs.Events.{EventIs, IsEvent, IsProperEvent, event_of, event_text, payload_of, type_of_event, uri_of}
use Rattle.sig_event.specs.News.{news}
use Rattle.sig_event.specs.Types.{caep_uri, is_published, risc_uri, type_of, uri_of_type}
use Rattle.sig_event.proofs.ProperEvents as events
use Rattle.sig_event.proofs.ReadsEvents.{reads_events, uri_found}
use Rattle.sig_terms.specs.Fitting.{is_published_uri}
use Rattle.sig_entry.specs.Parts as parts
use Rattle.sig_entry.specs.Proper.{IsShortNews, IsShortSubject, IsShortTold}
use Rattle.sig_entry.proofs.Steps.{of_3, read_first, read_last}

-- ---- texts that spell values

equal_bytes : (xs ys : List ℕ) → bytes_eq xs ys ≡ true → xs ≡ ys
equal_bytes xs ys h = (bytes_eq-Decides xs ys).0 h

same_bytes : (xs : List ℕ) → bytes_eq xs xs ≡ true
same_bytes xs = (bytes_eq-Decides xs xs).1 refl

-- a text that spells a value is UTF-8
spelled_utf8 : (text : List ℕ) (v : Data) → json_of text ≡ Some v → IsUtf8 text
spelled_utf8 text v h = at (is_utf8 text) refl h
  where
    at : (t : Bool) → is_utf8 text ≡ t → cond t (read text) None ≡ Some v → IsUtf8 text
    at true is h = IsUtf8-from_is_utf8 text is
    at false is h = cc

-- what a value that a text spells is read as
record Judged {T : Type 0} (at : Data → Option T) (so : T → Bool) (text : List ℕ) (x : T) : Type 0 where
  value : Data
  spelt : json_of text ≡ Some value
  is : at value ≡ Some x
  kept : so x ≡ true

kept_is : {T : Type 0} (so : T → Bool) (x y : T) → cond (so x) (Some x) None ≡ Some y → (so y ≡ true) × (x ≡ y)
kept_is so x y h = at (so x) refl h
  where
    at : (t : Bool) → so x ≡ t → cond t (Some x) None ≡ Some y → (so y ≡ true) × (x ≡ y)
    at true is h = let same : x ≡ y = cc in (ap so (sym same) ∙ is, same)
    at false is h = cc

judged_is : {T : Type 0} (at : Data → Option T) (so : T → Bool) (text : List ℕ) (o : Option Data) (x : T)
    → json_of text ≡ o → option_and_then (λ y. cond (so y) (Some y) None) (option_and_then at o) ≡ Some x → Judged at so text x
judged_is at so text None x is h = cc
judged_is {T = T} at so text (Some v) x is h = by (at v) refl h
  where
    by : (o : Option T) → at v ≡ o → option_and_then (λ y. cond (so y) (Some y) None) o ≡ Some x → Judged at so text x
    by None found h = cc
    by (Some y) found h = let k = kept_is so y x h in record { value = v; spelt = is; is = found ∙ ap Some k.1; kept = k.0 }

judged_so : {T : Type 0} (at : Data → Option T) (so : T → Bool) (text : List ℕ) (v : Data) (x : T) → json_of text ≡ Some v → at v ≡ Some x → so x ≡ true
    → option_and_then (λ y. cond (so y) (Some y) None) (option_and_then at (json_of text)) ≡ Some x
judged_so at so text v x spelt is kept =
    ap (λ o. option_and_then (λ y. cond (so y) (Some y) None) (option_and_then at o)) spelt
    ∙ ap (λ o. option_and_then (λ y. cond (so y) (Some y) None) o) is
    ∙ ap (λ t. cond t (Some x) None) kept

ok_some : {T E : Type 0} (r : Result T E) (x : T) → result_ok r ≡ Some x → r ≡ Ok x
ok_some (Ok y) x h = cc
ok_some (Err e) x h = cc

-- ---- subjects

subject_written_is : (s : Subject) → IsProperSubject s → parts.subject_written s ≡ subject_text s
subject_written_is s proper = ap (λ d. compact_text d) (canonical_kept (subject_data s) (subjects.writes_canonical s proper))

subject_rule : HasRule IsProperText IsShortSubject parts.subject_in parts.subject_written
subject_rule = record { sound = sound; complete = complete }
  where
    sound : (s : Subject) → IsShortSubject s → IsProperText (parts.subject_written s) × (parts.subject_in (parts.subject_written s) ≡ Some s)
    sound s ((v, spelt, is), short) =
        let here : json_of (parts.subject_written s) ≡ Some v = ap json_of (subject_written_is s (v, spelt, is)) ∙ spelt in
        let found : parts.subject_at v ≡ Some s = ap result_ok ((reads_subjects s v).0 is) in (
          record { utf8 = spelled_utf8 (parts.subject_written s) v here; short = short },
          judged_so parts.subject_at (λ y. bytes_eq (parts.subject_written y) (parts.subject_written s)) (parts.subject_written s) v s here found (same_bytes (parts.subject_written s)),
        )

    complete : (text : List ℕ) (s : Subject) → IsProperText text → parts.subject_in text ≡ Some s → IsShortSubject s × (text ≡ parts.subject_written s)
    complete text s proper h =
        let j = judged_is parts.subject_at (λ y. bytes_eq (parts.subject_written y) text) text (json_of text) s refl h in
        let same : text ≡ parts.subject_written s = sym (equal_bytes (parts.subject_written s) text j.kept) in
        let proper_one = subjects.reads_proper j.value s (spelled_in_order text j.value j.spelt) (spelled_depth text j.value j.spelt) (ok_some (subject_of j.value) s j.is) in
        ((proper_one, subst (λ (t : List ℕ). length t < 2 ^ 32) same proper.short), same)

pub subjects_agree : Agrees IsShortSubject parts.subject_bytes parts.subject
subjects_agree = ruled_agrees IsProperText IsShortSubject kinds.text_bytes kinds.text parts.subject_in parts.subject_written texts_agree subject_rule

-- ---- URIs of types that are published

abbrev is_short_text : List ℕ → Bool
is_short_text text = are_ascii text && nat_lt (length text) (2 ^ 32)

short_uri : (type : EventType) → is_short_text (uri_of_type type) ≡ true
unfolding uri_of_type
short_uri (Caep caep_type.SessionRevoked) = refl
short_uri (Caep caep_type.TokenClaimsChange) = refl
short_uri (Caep caep_type.CredentialChange) = refl
short_uri (Caep caep_type.AssuranceLevelChange) = refl
short_uri (Caep caep_type.DeviceComplianceChange) = refl
short_uri (Caep caep_type.SessionEstablished) = refl
short_uri (Caep caep_type.SessionPresented) = refl
short_uri (Caep caep_type.RiskLevelChange) = refl
short_uri (Risc risc_type.CredentialChangeRequired) = refl
short_uri (Risc risc_type.AccountPurged) = refl
short_uri (Risc risc_type.AccountDisabled) = refl
short_uri (Risc risc_type.AccountEnabled) = refl
short_uri (Risc risc_type.IdentifierChanged) = refl
short_uri (Risc risc_type.IdentifierRecycled) = refl
short_uri (Risc risc_type.CredentialCompromise) = refl
short_uri (Risc risc_type.OptIn) = refl
short_uri (Risc risc_type.OptOutInitiated) = refl
short_uri (Risc risc_type.OptOutCancelled) = refl
short_uri (Risc risc_type.OptOutEffective) = refl
short_uri (Risc risc_type.RecoveryActivated) = refl
short_uri (Risc risc_type.RecoveryInformationChanged) = refl
short_uri (Risc risc_type.SessionsRevoked) = refl
short_uri Verification = refl
short_uri StreamUpdated = refl

text_is : (text : List ℕ) → is_short_text text ≡ true → IsProperText text
text_is text h = at (are_ascii text) refl h
  where
    at : (t : Bool) → are_ascii text ≡ t → (t && nat_lt (length text) (2 ^ 32)) ≡ true → IsProperText text
    at true is h = record { utf8 = IsUtf8-are_ascii text is; short = ltb-true (length text) (2 ^ 32) h }
    at false is h = cc

-- the URI of a type that is published
abbrev IsPublishedUri : List ℕ → Type 0
IsPublishedUri uri = IsProperText uri × (is_published_uri uri ≡ true)

uri_rule : HasRule IsProperText IsPublishedUri parts.uri_in (λ (uri : List ℕ). uri)
uri_rule = record { sound = sound; complete = complete }
  where
    sound : (uri : List ℕ) → IsPublishedUri uri → IsProperText uri × (parts.uri_in uri ≡ Some uri)
    sound uri proper = (proper.0, ap (λ t. cond t (Some uri) None) proper.1)

    complete : (x uri : List ℕ) → IsProperText x → parts.uri_in x ≡ Some uri → IsPublishedUri uri × (x ≡ uri)
    complete x uri proper h =
        let k = kept_is is_published_uri x uri h in
        ((subst IsProperText k.1 proper, k.0), k.1)

uris_agree : Agrees IsPublishedUri kinds.text_bytes (ruled parts.uri_in kinds.text)
uris_agree = ruled_agrees IsProperText IsPublishedUri kinds.text_bytes kinds.text parts.uri_in (λ uri. uri) texts_agree uri_rule

type_uri : (type : EventType) → is_published (Some type) ≡ true → IsPublishedUri (uri_of_type type)
type_uri type h = (text_is (uri_of_type type) (short_uri type), ap is_published (uri_found type) ∙ h)

-- an event of a type that is published has its URI
published_uri : (e : Event) → is_published (type_of_event e) ≡ true → IsPublishedUri (uri_of e)
published_uri (event.Caep e) h = type_uri (Caep (caep.type_of e.kind)) refl
published_uri (event.Risc e) h = type_uri (Risc (risc.type_of e)) refl
published_uri (event.Verification state) h = cc
published_uri (event.StreamUpdated status reason) h = cc
published_uri (event.Other uri) h = cc

-- a proper event with such a URI is of such a type
published_type : (e : Event) (uri : List ℕ) (v : Data) (s : Subject) → EventIs e uri v s → is_published_uri (uri_of e) ≡ true → is_published (type_of_event e) ≡ true
published_type (event.Caep e) uri v s is h = refl
published_type (event.Risc e) uri v s is h = refl
published_type (event.Verification state) uri v s is h = ap is_published (sym (uri_found Verification)) ∙ h
published_type (event.StreamUpdated status reason) uri v s is h = ap is_published (sym (uri_found StreamUpdated)) ∙ h
published_type (event.Other other) uri v s (is, none) h =
    let never : is_published_uri other ≡ false = ap is_published_uri is ∙ ap is_published none in
    cc

-- ---- events

-- the URI that an event was read under is its own
uri_is : (e : Event) (uri : List ℕ) (v : Data) (s : Subject) → EventIs e uri v s → uri_of e ≡ uri
unfolding uri_of_type
uri_is (event.Caep e) uri v s (name, is, h) = sym (is ∙ ap (λ n. caep_uri ++ n) (sym h.named))
uri_is (event.Risc e) uri v s (name, is, h, fits) = sym (is ∙ ap (λ n. risc_uri ++ n) (sym h.named))
uri_is (event.Verification state) uri v s (is, h) = sym is
uri_is (event.StreamUpdated status reason) uri v s (is, h) = sym is
uri_is (event.Other other) uri v s (is, none) = is

-- a proper event about a subject under a URI, whose text is short
record IsShortEvent (s : Subject) (uri : List ℕ) (e : Event) : Type 0 where
  proper : IsProperEvent e s
  under : uri_of e ≡ uri
  short : length (event_text e) < 2 ^ 32

event_rule : (s : Subject) (uri : List ℕ) → HasRule IsProperText (IsShortEvent s uri) (parts.event_in s uri) event_text
event_rule s uri = record { sound = sound; complete = complete }
  where
    sound : (e : Event) → IsShortEvent s uri e → IsProperText (event_text e) × (parts.event_in s uri (event_text e) ≡ Some e)
    sound e has =
        let v = has.proper.0 in
        let here : json_of (event_text e) ≡ Some v = ap json_of (events.text_is_payload e s has.proper) ∙ has.proper.1 in
        let is : IsEvent e uri v s = subst (λ u. IsEvent e u v s) has.under has.proper.2 in
        let found : parts.event_at s uri v ≡ Some e = ap result_ok ((reads_events e uri v s).0 is) in (
          record { utf8 = spelled_utf8 (event_text e) v here; short = has.short },
          judged_so (parts.event_at s uri) (λ y. bytes_eq (event_text y) (event_text e)) (event_text e) v e here found (same_bytes (event_text e)),
        )

    complete : (text : List ℕ) (e : Event) → IsProperText text → parts.event_in s uri text ≡ Some e → IsShortEvent s uri e × (text ≡ event_text e)
    complete text e proper h =
        let j = judged_is (parts.event_at s uri) (λ y. bytes_eq (event_text y) text) text (json_of text) e refl h in
        let same : text ≡ event_text e = sym (equal_bytes (event_text e) text j.kept) in
        let read : event_of uri j.value s ≡ Ok e = ok_some (event_of uri j.value s) e j.is in
        let is = (reads_events e uri j.value s).1 read in
        let proper_one = events.reads_proper uri j.value s e (spelled_in_order text j.value j.spelt) (spelled_depth text j.value j.spelt) read in (
          record {
            proper = proper_one.0;
            under = uri_is e uri j.value s is.1;
            short = subst (λ (t : List ℕ). length t < 2 ^ 32) same proper.short;
          },
          same,
        )

events_agree : (s : Subject) (uri : List ℕ) → Agrees (IsShortEvent s uri) (λ e. kinds.text_bytes (event_text e)) (ruled (parts.event_in s uri) kinds.text)
events_agree s uri = ruled_agrees IsProperText (IsShortEvent s uri) kinds.text_bytes kinds.text (parts.event_in s uri) event_text texts_agree (event_rule s uri)

-- ---- news

pub news_agree : Agrees IsShortNews parts.news_bytes parts.told_news
news_agree = record { reads = reads; spells = spells }
  where
    reads : (n : News) (rest : List ℕ) → IsShortNews n → parts.told_news (parts.news_bytes n ++ rest) ≡ Ok (n, rest)
    reads n rest proper =
        let under : IsShortEvent n.subject (uri_of n.event) n.event = record { proper = proper.event; under = refl; short = proper.short } in
        let parted = of_3 (parts.subject_bytes n.subject) (kinds.text_bytes (uri_of n.event)) (kinds.text_bytes (event_text n.event)) in
        subst (λ (l : List ℕ). parts.told_news (l ++ rest) ≡ Ok (n, rest)) (sym parted)
        (read_first _ _ _ subjects_agree n.subject proper.subject _ _ rest _
        (read_first _ _ _ uris_agree (uri_of n.event) (published_uri n.event proper.type) _ _ rest _
        (read_last _ _ _ (events_agree n.subject (uri_of n.event)) n.event under _ rest _ refl)))

    spells : (bytes : List ℕ) (n : News) (rest : List ℕ) → AreBytes bytes → parts.told_news bytes ≡ Ok (n, rest) → IsShortNews n × (bytes ≡ parts.news_bytes n ++ rest)
    spells bytes n rest are h =
        let a = then_spells IsShortSubject parts.subject_bytes parts.subject subjects_agree _ bytes n rest are h in
        let b = then_spells IsPublishedUri kinds.text_bytes (ruled parts.uri_in kinds.text) uris_agree _ a.mid n rest a.are a.then in
        let c = then_spells (IsShortEvent a.value b.value) (λ e. kinds.text_bytes (event_text e)) (ruled (parts.event_in a.value b.value) kinds.text) (events_agree a.value b.value) _ b.mid n rest b.are b.then in
        let found = given_same (news a.value c.value) n c.mid rest c.then in
        let uri : kinds.text_bytes b.value ≡ kinds.text_bytes (uri_of c.value) = ap kinds.text_bytes (sym c.proper.under) in
        let type = published_type c.value (uri_of c.value) c.proper.proper.0 a.value c.proper.proper.2.1 (ap is_published_uri c.proper.under ∙ b.proper.1) in
        let tail = joined_spelling a.mid (kinds.text_bytes (uri_of c.value)) b.mid (kinds.text_bytes (event_text c.value)) c.mid (b.spelt ∙ ap (λ (l : List ℕ). l ++ b.mid) uri) c.spelt in
        let all = joined_spelling bytes (parts.subject_bytes a.value) a.mid (kinds.text_bytes (uri_of c.value) ++ kinds.text_bytes (event_text c.value)) c.mid a.spelt tail in
        let proper : IsShortNews (news a.value c.value) = record { subject = a.proper; event = c.proper.proper; type = type; short = c.proper.short } in
        let parted = of_3 (parts.subject_bytes a.value) (kinds.text_bytes (uri_of c.value)) (kinds.text_bytes (event_text c.value)) in
        (subst IsShortNews found.0 proper, all ∙ ap (λ (l : List ℕ). l ++ c.mid) (sym parted) ∙ (λ i. parts.news_bytes (found.0 i) ++ found.1 i))

pub told_agree : Agrees IsShortTold parts.news_bytes parts.any_news
told_agree = record { reads = reads; spells = spells }
  where
    reads : (n : News) (rest : List ℕ) → IsShortTold n → parts.any_news (parts.news_bytes n ++ rest) ≡ Ok (n, rest)
    reads n rest proper =
        let under : IsShortEvent n.subject (uri_of n.event) n.event = record { proper = proper.event; under = refl; short = proper.short } in
        let parted = of_3 (parts.subject_bytes n.subject) (kinds.text_bytes (uri_of n.event)) (kinds.text_bytes (event_text n.event)) in
        subst (λ (l : List ℕ). parts.any_news (l ++ rest) ≡ Ok (n, rest)) (sym parted)
        (read_first _ _ _ subjects_agree n.subject proper.subject _ _ rest _
        (read_first _ _ _ texts_agree (uri_of n.event) proper.uri _ _ rest _
        (read_last _ _ _ (events_agree n.subject (uri_of n.event)) n.event under _ rest _ refl)))

    spells : (bytes : List ℕ) (n : News) (rest : List ℕ) → AreBytes bytes → parts.any_news bytes ≡ Ok (n, rest) → IsShortTold n × (bytes ≡ parts.news_bytes n ++ rest)
    spells bytes n rest are h =
        let a = then_spells IsShortSubject parts.subject_bytes parts.subject subjects_agree _ bytes n rest are h in
        let b = then_spells IsProperText kinds.text_bytes kinds.text texts_agree _ a.mid n rest a.are a.then in
        let c = then_spells (IsShortEvent a.value b.value) (λ e. kinds.text_bytes (event_text e)) (ruled (parts.event_in a.value b.value) kinds.text) (events_agree a.value b.value) _ b.mid n rest b.are b.then in
        let found = given_same (news a.value c.value) n c.mid rest c.then in
        let uri : kinds.text_bytes b.value ≡ kinds.text_bytes (uri_of c.value) = ap kinds.text_bytes (sym c.proper.under) in
        let tail = joined_spelling a.mid (kinds.text_bytes (uri_of c.value)) b.mid (kinds.text_bytes (event_text c.value)) c.mid (b.spelt ∙ ap (λ (l : List ℕ). l ++ b.mid) uri) c.spelt in
        let all = joined_spelling bytes (parts.subject_bytes a.value) a.mid (kinds.text_bytes (uri_of c.value) ++ kinds.text_bytes (event_text c.value)) c.mid a.spelt tail in
        let proper : IsShortTold (news a.value c.value) = record {
          subject = a.proper;
          uri = subst IsProperText (sym c.proper.under) b.proper;
          event = c.proper.proper;
          short = c.proper.short;
        } in
        let parted = of_3 (parts.subject_bytes a.value) (kinds.text_bytes (uri_of c.value)) (kinds.text_bytes (event_text c.value)) in
        (subst IsShortTold found.0 proper, all ∙ ap (λ (l : List ℕ). l ++ c.mid) (sym parted) ∙ (λ i. parts.news_bytes (found.0 i) ++ found.1 i))
