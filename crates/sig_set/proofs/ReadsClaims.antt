-- A payload says claims exactly where its last checks hold and they are read of it.
use Rattle.std.proofs.Common.{◌≡◌, ◌<◌, ℕ, List, [], ◌∷◌, Bool, true, false, Option, Some, None, is_some, not, unwrap_or, option_and_then, refl, sym, ap, ◌∙◌, subst, arith}
use Rattle.std.specs.Prelude.{Result, Ok, Err, codes, is_ok, length, ⊤}
use Rattle.std.specs.Result.{result_ok}
use Rattle.std.proofs.lemmas.Bool.{lt-ltb, ltb-true}
use Rattle.serde_json.specs.Data.{Data, null, boolean, number, string, array, object, Members, no_members, member}
use Rattle.serde_json.specs.Find.{as_object}
use Rattle.sig_json.specs.Checks.{Check}
use Rattle.sig_json.specs.Json.{member_of, text_member}
use Rattle.sig_subject.specs.declared.subject.Subject.{Subject}
use Rattle.sig_subject.specs.declared.subject_fault.SubjectFault.{SubjectFault}
use Rattle.sig_subject.specs.Reading.{subject_of}
use Rattle.sig_subject.proofs.Passing.{Passes, passes_head, passes_tail}
use Rattle.sig_subject.proofs.SubjectReading.{reads_subjects}
use Rattle.sig_event.specs.declared.claims.Claims.{Claims}
use Rattle.sig_event.specs.declared.event.Event.{Event}
use Rattle.sig_event.specs.declared.event_fault.EventFault.{EventFault}
use Rattle.sig_event.specs.Events.{event_of}
use Rattle.sig_event.proofs.ReadsEvents.{reads_events}
use Rattle.sig_set.specs.Claims.{ClaimsAre, EventsAre, ReadsClaims, audience_in, claims_in, content_checks, event_before, events_in, events_of, has_in, no_subject, subject_in, text_in, time_in}
use Rattle.sig_set.specs.Tests.{has_member, is_filled, is_filled_and_wanted, where_there}

none_is_some : {A P : Type 0} {a : A} → None ≡ Some a → P
none_is_some h = cc

same_some : {A : Type 0} {a b : A} → Some a ≡ Some b → a ≡ b
same_some h = cc

false_is_true : {P : Type 0} → false ≡ true → P
false_is_true h = cc

-- what is there
there : {A : Type 0} (o : Option A) (otherwise : A) → is_some o ≡ true → o ≡ Some (unwrap_or o otherwise)
there None otherwise h = cc
there (Some a) otherwise h = refl

absent : {A : Type 0} (o : Option A) → not (is_some o) ≡ true → o ≡ None
absent None h = refl
absent (Some a) h = cc

tested : {A : Type 0} (test : A → Bool) (o : Option A) → where_there test o ≡ true → (a : A) × (o ≡ Some a) × (test a ≡ true)
tested test None h = false_is_true h
tested test (Some a) h = (a, refl, h)

-- ---- events

events_read : (es : List Event) (ms : Members) (s : Subject) → EventsAre es ms s → events_of s ms ≡ Some es
events_read [] no_members s h = refl
events_read [] (member uri v ms) s h = absurd h
events_read (e ∷ es) no_members s h = absurd h
events_read (e ∷ es) (member uri v ms) s h = rw ((reads_events e uri v s).0 h.0, events_read es ms s h.1) refl

read_events : (es : List Event) (ms : Members) (s : Subject) → events_of s ms ≡ Some es → EventsAre es ms s
read_events [] no_members s h = tt
read_events (e ∷ es) no_members s h = cc h
read_events es (member uri v ms) s h = at (event_of uri v s) (events_of s ms) refl h (λ rest is. read_events rest ms s is)
  where
    at : (r : Result Event EventFault) (o : Option (List Event)) → event_of uri v s ≡ r → event_before r o ≡ Some es
        → ((rest : List Event) → o ≡ Some rest → EventsAre rest ms s) → EventsAre es (member uri v ms) s
    at (Err fault) o is h more = none_is_some h
    at (Ok e) None is h more = none_is_some h
    at (Ok e) (Some rest) is h more = subst (λ (xs : List Event). EventsAre xs (member uri v ms) s) (same_some h) ((reads_events e uri v s).1 is, more rest refl)

filled_object : (es : List Event) (ms : Members) (s : Subject) → EventsAre es ms s → 0 < length es → has_member (object ms) ≡ true
filled_object [] ms s h filled = absurd (omega arith)
filled_object (e ∷ es) no_members s h filled = absurd h
filled_object (e ∷ es) (member uri v ms) s h filled = refl

filled_events : (es : List Event) (ms : Members) (s : Subject) → EventsAre es ms s → has_member (object ms) ≡ true → 0 < length es
filled_events [] no_members s h filled = false_is_true filled
filled_events [] (member uri v ms) s h filled = absurd h
filled_events (e ∷ es) ms s h filled = omega arith

object_of : (d : Data) → has_member d ≡ true → (ms : Members) × (d ≡ object ms)
object_of null h = false_is_true h
object_of (boolean b) h = false_is_true h
object_of (number n) h = false_is_true h
object_of (string s) h = false_is_true h
object_of (array ds) h = false_is_true h
object_of (object ms) h = (ms, refl)

-- ---- the checks

-- what the checks say
pub record ContentHolds (wanted : Option (List ℕ)) (v : Option Data) : Type 0 where
  pub jti : is_filled_and_wanted wanted (text_in (codes "jti") v) ≡ true
  pub iat : is_some (time_in v) ≡ true
  pub lasting : not (has_in (codes "exp") v) ≡ true
  pub apart : not (has_in (codes "sub") v) ≡ true
  pub subject : where_there (λ d. is_ok (subject_of d)) (option_and_then (member_of (codes "sub_id")) v) ≡ true
  pub events : where_there has_member (option_and_then (member_of (codes "events")) v) ≡ true
  pub each : is_some (events_of (subject_in v) (events_in v)) ≡ true

pub content_passes : (wanted : Option (List ℕ)) (v : Option Data) → ContentHolds wanted v → Passes (content_checks wanted v)
content_passes wanted v h = rw (h.jti, h.iat, h.lasting, h.apart, h.subject, h.events, h.each) refl

-- each check holds
abbrev pub AllHold : {F : Type 0} → List (Check F) → Type 0
AllHold [] = ⊤
AllHold (c ∷ cs) = (c.holds ≡ true) × AllHold cs

pub all_hold : {F : Type 0} (cs : List (Check F)) → Passes cs → AllHold cs
all_hold [] h = tt
all_hold (c ∷ cs) h = (passes_head c cs h, all_hold cs (passes_tail c cs h))

pub content_holds : (wanted : Option (List ℕ)) (v : Option Data) → Passes (content_checks wanted v) → ContentHolds wanted v
content_holds wanted v h =
    let all = all_hold (content_checks wanted v) h in
    record {
      jti = all.0;
      iat = all.1.0;
      lasting = all.1.1.0;
      apart = all.1.1.1.0;
      subject = all.1.1.1.1.0;
      events = all.1.1.1.1.1.0;
      each = all.1.1.1.1.1.1.0;
    }

-- ---- what is said is read

subject_read : (claims : Claims) (v : Data) → ClaimsAre claims v → subject_in (Some v) ≡ claims.subject
subject_read claims v h =
    ap (λ o. unwrap_or (option_and_then (λ d. result_ok (subject_of d)) o) no_subject) h.names
    ∙ ap (λ r. unwrap_or (result_ok r) no_subject) ((reads_subjects claims.subject h.named).0 h.subject)

members_read : (claims : Claims) (v : Data) (h : ClaimsAre claims v) → events_in (Some v) ≡ h.members
members_read claims v h = ap (λ o. unwrap_or (option_and_then as_object o) no_members) h.lists

list_read : (claims : Claims) (v : Data) → ClaimsAre claims v → events_of (subject_in (Some v)) (events_in (Some v)) ≡ Some claims.events
list_read claims v h =
    ap (λ s. events_of s (events_in (Some v))) (subject_read claims v h) ∙ ap (events_of claims.subject) (members_read claims v h)
    ∙ events_read claims.events h.members claims.subject h.events

pub said_holds : (claims : Claims) (v : Data) → ClaimsAre claims v → ContentHolds None (Some v)
said_holds claims v h = record {
  jti = ap is_filled h.jti ∙ lt-ltb 0 (length claims.jti) h.identified;
  iat = ap is_some h.iat;
  lasting = ap (λ o. not (is_some o)) h.lasting;
  apart = ap (λ o. not (is_some o)) h.apart;
  subject = ap (where_there (λ d. is_ok (subject_of d))) h.names ∙ ap is_ok ((reads_subjects claims.subject h.named).0 h.subject);
  events = ap (where_there has_member) h.lists ∙ filled_object claims.events h.members claims.subject h.events h.happened;
  each = ap is_some (list_read claims v h);
}

pub said_read : (claims : Claims) (v : Data) → ClaimsAre claims v → claims_in (Some v) ≡ claims
said_read claims v h = rw (h.iss, h.jti, h.iat, h.aud, subject_read claims v h, members_read claims v h, events_read claims.events h.members claims.subject h.events) refl

-- ---- what is read is said

-- a subject that is read
subject_there : (r : Result Subject SubjectFault) → is_ok r ≡ true → (s : Subject) × (r ≡ Ok s)
subject_there (Ok s) h = (s, refl)
subject_there (Err fault) h = false_is_true h

filled_text : (o : Option (List ℕ)) (text : List ℕ) → is_filled o ≡ true → o ≡ Some text → 0 < length text
filled_text o text h is = ltb-true 0 (length text) (ap is_filled (sym is) ∙ h)

filled_there : (o : Option (List ℕ)) → is_filled o ≡ true → is_some o ≡ true
filled_there None h = false_is_true h
filled_there (Some text) h = refl

read_said : (claims : Claims) (v : Data) → is_some (text_in (codes "iss") (Some v)) ≡ true → is_some (audience_in (Some v)) ≡ true
    → ContentHolds None (Some v) → claims_in (Some v) ≡ claims → ClaimsAre claims v
read_said claims v issued aimed h same =
    let jti = there (text_member (codes "jti") v) [] (filled_there (text_member (codes "jti") v) h.jti) ∙ ap (λ (c : Claims). Some c.jti) same in
    let named = tested (λ d. is_ok (subject_of d)) (member_of (codes "sub_id") v) h.subject in
    let subject = subject_there (subject_of named.0) named.2 in
    let is : subject_in (Some v) ≡ subject.0 =
    ap (λ o. unwrap_or (option_and_then (λ d. result_ok (subject_of d)) o) no_subject) named.1 ∙ ap (λ r. unwrap_or (result_ok r) no_subject) subject.1 in
    let whole : subject.0 ≡ claims.subject = sym is ∙ ap (λ (c : Claims). c.subject) same in
    let list = tested has_member (member_of (codes "events") v) h.events in
    let members = object_of list.0 list.2 in
    let lists : member_of (codes "events") v ≡ Some (object members.0) = list.1 ∙ ap Some members.1 in
    let inside : events_in (Some v) ≡ members.0 = ap (λ o. unwrap_or (option_and_then as_object o) no_members) lists in
    let events : events_of claims.subject members.0 ≡ Some claims.events =
    ap (events_of claims.subject) (sym inside) ∙ ap (λ s. events_of s (events_in (Some v))) (sym whole ∙ sym is)
    ∙ there (events_of (subject_in (Some v)) (events_in (Some v))) [] h.each ∙ ap (λ (c : Claims). Some c.events) same in
    let each = read_events claims.events members.0 claims.subject events in
    record {
      iss = there (text_member (codes "iss") v) [] issued ∙ ap (λ (c : Claims). Some c.iss) same;
      aud = there (audience_in (Some v)) [] aimed ∙ ap (λ (c : Claims). Some c.aud) same;
      jti = jti;
      identified = filled_text (text_member (codes "jti") v) claims.jti h.jti jti;
      iat = there (time_in (Some v)) 0 h.iat ∙ ap (λ (c : Claims). Some c.iat) same;
      lasting = absent (member_of (codes "exp") v) h.lasting;
      apart = absent (member_of (codes "sub") v) h.apart;
      named = named.0;
      names = named.1;
      subject = (reads_subjects claims.subject named.0).1 (subject.1 ∙ ap Ok whole);
      members = members.0;
      lists = lists;
      happened = filled_events claims.events members.0 claims.subject each (ap has_member (sym members.1) ∙ list.2);
      events = each;
    }

pub reads_claims : ReadsClaims
reads_claims claims v = (
  λ h. (ap is_some h.iss, ap is_some h.aud, content_passes None (Some v) (said_holds claims v h), said_read claims v h),
  λ h. read_said claims v h.0 h.1 (content_holds None (Some v) h.2) h.3,
)
