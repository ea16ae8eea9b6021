-- No fraction stands in the payload of claims.
use Rattle.std.proofs.Common.{◌≡◌, ◌||◌, ℕ, List, [], ◌∷◌, map, Bool, true, false, Ordering, Less, Equal, Greater, nat_cmp, refl}
use Rattle.std.specs.Cmp.Lexicographic.{slice_cmp}
use Rattle.std.specs.Ordering.{match_ordering}
use Rattle.serde_json.specs.Data.{Data, string, Members, no_members, member, put}
use Rattle.serde_json.specs.View.{items_of}
use Rattle.serde_json.specs.Written.{has_float, items_have_float, members_have_float}
use Rattle.sig_subject.specs.Written.{subject_data}
use Rattle.sig_event.specs.declared.claims.Claims.{Claims}
use Rattle.sig_event.specs.declared.event.Event.{Event}
use Rattle.sig_event.specs.Events as events
use Rattle.sig_json.specs.Canon.{without_fraction}
use Rattle.sig_json.proofs.Fractions.{without_whole}
use Rattle.sig_set.specs.Written.{audience_data, payload_of, put_events}

neither : (a b : Bool) → a ≡ false → b ≡ false → a || b ≡ false
neither a b h k = rw (h, k) refl

both : (a b : Bool) → a || b ≡ false → (a ≡ false) × (b ≡ false)
both false b h = (refl, h)
both true b h = cc

put_whole : (k : List ℕ) (d : Data) (ms : Members) → has_float d ≡ false → members_have_float ms ≡ false → members_have_float (put k d ms) ≡ false
put_whole k d no_members one rest = neither (has_float d) false one refl
put_whole k d (member l e ms) one rest = let here = both (has_float e) (members_have_float ms) rest in at (slice_cmp nat_cmp k l) here.0 (put_whole k d ms one here.1) here.1
  where
    at : (o : Ordering) → has_float e ≡ false → members_have_float (put k d ms) ≡ false → members_have_float ms ≡ false
        → members_have_float (match_ordering o (member k d (member l e ms)) (member l d ms) (member l e (put k d ms))) ≡ false
    at Less here more left = neither (has_float d) (has_float e || members_have_float ms) one rest
    at Equal here more left = neither (has_float d) (members_have_float ms) one left
    at Greater here more left = neither (has_float e) (members_have_float (put k d ms)) here more

events_whole : (es : List Event) (ms : Members) → members_have_float ms ≡ false → members_have_float (put_events es ms) ≡ false
events_whole [] ms h = h
events_whole (e ∷ es) ms h =
    let d = without_fraction (events.payload_of e) in
    events_whole es (put (events.uri_of e) d ms) (put_whole (events.uri_of e) d ms (without_whole (events.payload_of e)) h)

texts_whole : (texts : List (List ℕ)) → items_have_float (items_of (map string texts)) ≡ false
texts_whole [] = refl
texts_whole (text ∷ texts) = texts_whole texts

audience_whole : (texts : List (List ℕ)) → has_float (audience_data texts) ≡ false
audience_whole [] = refl
audience_whole (text ∷ []) = refl
audience_whole (text ∷ other ∷ texts) = texts_whole texts

pub payload_whole : (claims : Claims) → has_float (payload_of claims) ≡ false
payload_whole claims =
    rw (audience_whole claims.aud, events_whole claims.events no_members refl, without_whole (subject_data claims.subject)) refl
