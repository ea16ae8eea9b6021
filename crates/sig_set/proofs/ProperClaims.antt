-- Claims of proper parts are proper: the text of their payload is canonical, and the payload says them.
use Rattle.std.proofs.Common.{◌≡◌, ℕ, suc, List, [], ◌∷◌, map, All, true, IsUtf8, Some, refl, sym, ap, ◌∙◌, subst, arith}
use Rattle.std.specs.Prelude.{bytes_eq}
use Rattle.std.proofs.lemmas.Bool.{le-leb}
use Rattle.std.proofs.lemmas.Slice.Eq.{bytes_eq-Decides}
use Rattle.json.proofs.Printed.Utf8.{are_ascii, IsUtf8-are_ascii}
use Rattle.serde_json.specs.Data.{string, no_members}
use Rattle.serde_json.specs.View.{items_of}
use Rattle.serde_json.specs.Written.{compact_text}
use Rattle.sig_json.specs.Canon.{without_fraction, IsCanonical, AreCanonical, MembersAreCanonical}
use Rattle.sig_json.specs.declared.limits.TheConstants.{LAST_NUMBER}
use Rattle.sig_json.proofs.Fractions.{canonical_kept}
use Rattle.sig_json.proofs.ReadBack.{canon_reads}
use Rattle.sig_json.proofs.Spelled.{spelled_in_order, spelled_depth}
use Rattle.sig_subject.specs.declared.subject.Subject.{Subject}
use Rattle.sig_subject.specs.Subjects.{SubjectIs}
use Rattle.sig_subject.specs.Written.{IsProperSubject, subject_data, subject_text}
use Rattle.sig_subject.proofs.ProperRead as subjects
use Rattle.sig_subject.proofs.WrittenBack.{writes_back}
use Rattle.sig_event.specs.declared.claims.Claims.{Claims}
use Rattle.sig_event.specs.declared.event.Event.{Event}
use Rattle.sig_event.specs.Events as events
use Rattle.sig_event.proofs.CanonicalEvents as written_events
use Rattle.sig_event.proofs.WrittenEvents.{written_is}
use Rattle.sig_set.specs.Claims.{ClaimsAre, EventsAre, audience_of, one_before, texts_of}
use Rattle.sig_set.specs.Laws.{AreProperByParts, HasParts}
use Rattle.sig_set.specs.Written.{audience_data, payload_of, put_events}

pub bytes_same : (bytes : List ℕ) → bytes_eq bytes bytes ≡ true
bytes_same bytes = (bytes_eq-Decides bytes bytes).1 refl

pub ascii : (text : List ℕ) → are_ascii text ≡ true → IsUtf8 text
ascii text h = IsUtf8-are_ascii text h

-- ---- the audience

rest_utf8 : (text : List ℕ) (texts : List (List ℕ)) → All IsUtf8 (text ∷ texts) → All IsUtf8 texts
rest_utf8 text texts h k d small = h (suc k) d (omega arith)

texts_canonical : (texts : List (List ℕ)) → All IsUtf8 texts → AreCanonical (items_of (map string texts))
texts_canonical [] h = tt
texts_canonical (text ∷ texts) h = (h 0 [] (omega arith), texts_canonical texts (rest_utf8 text texts h))

audience_canonical : (texts : List (List ℕ)) → All IsUtf8 texts → IsCanonical (audience_data texts)
audience_canonical [] h = tt
audience_canonical (text ∷ []) h = h 0 [] (omega arith)
audience_canonical (text ∷ other ∷ texts) h = texts_canonical (text ∷ other ∷ texts) h

texts_back : (texts : List (List ℕ)) → texts_of (items_of (map string texts)) ≡ Some texts
texts_back [] = refl
texts_back (text ∷ texts) = ap (one_before (Some text)) (texts_back texts)

audience_back : (texts : List (List ℕ)) → audience_of (audience_data texts) ≡ Some texts
audience_back [] = refl
audience_back (text ∷ []) = refl
audience_back (text ∷ other ∷ texts) = texts_back (text ∷ other ∷ texts)

-- ---- the payload is canonical

subject_canonical : (claims : Claims) (e : Event) → HasParts claims e → IsCanonical (without_fraction (subject_data claims.subject))
subject_canonical claims e h =
    let it = subjects.writes_canonical claims.subject h.subject in
    subst IsCanonical (sym (canonical_kept (subject_data claims.subject) it)) it

event_canonical : (claims : Claims) (e : Event) → HasParts claims e → IsCanonical (without_fraction (events.payload_of e))
event_canonical claims e h =
    let it = written_events.writes_canonical e claims.subject h.event in
    subst IsCanonical (sym (canonical_kept (events.payload_of e) it)) it

events_canonical : (claims : Claims) (e : Event) → HasParts claims e → MembersAreCanonical (put_events claims.events no_members)
events_canonical claims e h =
    subst (λ (es : List Event). MembersAreCanonical (put_events es no_members)) (sym h.one) (h.uri, event_canonical claims e h, tt, tt)

canonical : (claims : Claims) (e : Event) → HasParts claims e → IsCanonical (payload_of claims)
canonical claims e h = (
  ascii _ refl,
  audience_canonical claims.aud h.aud,
  (refl, (refl, (refl, (refl, (refl, tt))))),
  (
    ascii _ refl,
    events_canonical claims e h,
    (refl, (refl, (refl, (refl, tt)))),
    (
      ascii _ refl,
      omega (arith, h.taken),
      (refl, (refl, (refl, tt))),
      (
        ascii _ refl,
        h.iss,
        (refl, (refl, tt)),
        (ascii _ refl, h.jti, (refl, tt), (ascii _ refl, subject_canonical claims e h, tt, tt)),
      ),
    ),
  ),
)

-- ---- the payload says the claims

subject_is : (s : Subject) → IsProperSubject s → SubjectIs s (without_fraction (subject_data s))
subject_is s h =
    let back : subject_data s ≡ h.0 = writes_back (subject_text s) s h.0 h.1 h.2 in
    subst (SubjectIs s) (sym (canonical_kept (subject_data s) (subjects.writes_canonical s h) ∙ back)) h.2

event_is : (e : Event) (s : Subject) → events.IsProperEvent e s → events.IsEvent e (events.uri_of e) (without_fraction (events.payload_of e)) s
event_is e s h =
    let text = compact_text (events.payload_of e) in
    let it = written_is e (events.uri_of e) h.0 s (spelled_in_order text h.0 h.1) (spelled_depth text h.0 h.1) h.2 in
    subst (λ d. events.IsEvent e (events.uri_of e) d s) (sym (canonical_kept (events.payload_of e) (written_events.writes_canonical e s h))) it

says : (claims : Claims) (e : Event) → HasParts claims e → ClaimsAre claims (payload_of claims)
says claims e h = record {
  iss = refl;
  aud = audience_back claims.aud;
  jti = refl;
  identified = h.identified;
  iat = rw (le-leb claims.iat LAST_NUMBER h.taken) refl;
  lasting = refl;
  apart = refl;
  named = without_fraction (subject_data claims.subject);
  names = refl;
  subject = subject_is claims.subject h.subject;
  members = put_events claims.events no_members;
  lists = refl;
  happened = rw h.one (omega arith);
  events = subst (λ (es : List Event). EventsAre es (put_events es no_members) claims.subject) (sym h.one) (event_is e claims.subject h.event, tt);
}

pub proper_by_parts : AreProperByParts
proper_by_parts claims e h = record {
  value = payload_of claims;
  spelled = canon_reads (payload_of claims) (canonical claims e h) h.nests;
  says = says claims e h;
}
