-- What is written of a want is read back with the gateway with which it was taken.
use Rattle.std.proofs.Common.{◌≡◌, ◌∙◌, ◌<◌, ap, sym, List, ℕ, Bool, true, false, Option, Some, None, IfSome, IsUtf8, Ok, refl, true≢false, arith, codes}
use Rattle.std.specs.Prelude.{bytes_eq, option_map}
use Rattle.serde_json.specs.Data.{string, object, Members, no_members, put, depth, members_depth}
use Rattle.serde_json.proofs.Views.{get_member-put_other}
use Rattle.sig_json.specs.Canon.{IsCanonical, MembersAreCanonical}
use Rattle.sig_json.specs.Json.{member_of}
use Rattle.sig_terms.specs.declared.endpoint.Endpoint.{Endpoint}
use Rattle.sig_terms.specs.declared.want.Delivery.{Delivery}
use Rattle.sig_terms.specs.declared.want.Delivery.TheVariants.{Poll, Push}
use Rattle.sig_terms.specs.declared.want.Want.{Want}
use Rattle.sig_stream.specs.Configurations.{push_data, put_given, texts_data}
use Rattle.sig_stream.specs.Steps.{where_given}
use Rattle.sig_stream.specs.Wants.{delivery_at, want_of}
use Rattle.sig_manager.specs.Asking.{delivery_data, replaced_data, want_data, want_members}
use Rattle.sig_manager_laws.specs.Configured.{IsReached, IsTaken}
use Rattle.sig_manager_laws.specs.Written.{AreTexts, HasTexts, IsWritten}
use Rattle.sig_manager_laws.proofs.Canonical.{ascii, each_given, each_shallow, given_canonical, given_shallow, push_canonical, push_shallow, texts_canonical, texts_shallow}
use Rattle.sig_manager_laws.proofs.ReadBack.{description_back, requested_back}

-- ---- where the members stand

abbrev members : Option (List (List ℕ)) → Option (List ℕ) → Option Delivery → Members
members requested description delivery =
    put_given (codes "events_requested") (option_map texts_data requested)
    (put_given (codes "description") (option_map (λ t. string t) description)
    (put_given (codes "delivery") (option_map delivery_data delivery) no_members))

delivery_found : (r : Option (List (List ℕ))) (t : Option (List ℕ)) (d : Option Delivery)
    → member_of (codes "delivery") (object (members r t d)) ≡ option_map delivery_data d
delivery_found None None None = refl
delivery_found None None (Some d) = refl
delivery_found None (Some t) None = refl
delivery_found None (Some t) (Some d) = refl
delivery_found (Some r) None None = refl
delivery_found (Some r) None (Some d) = refl
delivery_found (Some r) (Some t) None = refl
delivery_found (Some r) (Some t) (Some d) = refl

description_found : (r : Option (List (List ℕ))) (t : Option (List ℕ)) (d : Option Delivery)
    → member_of (codes "description") (object (members r t d)) ≡ option_map (λ u. string u) t
description_found None None None = refl
description_found None None (Some d) = refl
description_found None (Some t) None = refl
description_found None (Some t) (Some d) = refl
description_found (Some r) None None = refl
description_found (Some r) None (Some d) = refl
description_found (Some r) (Some t) None = refl
description_found (Some r) (Some t) (Some d) = refl

requested_found : (r : Option (List (List ℕ))) (t : Option (List ℕ)) (d : Option Delivery)
    → member_of (codes "events_requested") (object (members r t d)) ≡ option_map texts_data r
requested_found None None None = refl
requested_found None None (Some d) = refl
requested_found None (Some t) None = refl
requested_found None (Some t) (Some d) = refl
requested_found (Some r) None None = refl
requested_found (Some r) None (Some d) = refl
requested_found (Some r) (Some t) None = refl
requested_found (Some r) (Some t) (Some d) = refl

-- ---- the delivery

push_back : (gateway : Bool) (endpoint : Endpoint) (url : List ℕ) (authorization : Option (List ℕ))
    → IsReached gateway endpoint url authorization → delivery_at gateway (push_data url authorization) ≡ Ok (Push endpoint url authorization)
push_back gateway endpoint url None is = rw is.spelled refl
push_back gateway endpoint url (Some shown) is = rw (is.spelled, is.shown) refl

delivery_back : (gateway : Bool) (d : Option Delivery) → IfSome d (IsTaken gateway)
    → where_given (delivery_at gateway) (option_map delivery_data d) ≡ Ok d
delivery_back gateway None is = refl
delivery_back gateway (Some Poll) is = refl
delivery_back gateway (Some (Push endpoint url authorization)) is = rw (push_back gateway endpoint url authorization is) refl

-- ---- the want

by_members : (gateway : Bool) (ms : Members) (w : Want) → IfSome w.delivery (IsTaken gateway)
    → member_of (codes "delivery") (object ms) ≡ option_map delivery_data w.delivery
    → member_of (codes "description") (object ms) ≡ option_map (λ u. string u) w.description
    → member_of (codes "events_requested") (object ms) ≡ option_map texts_data w.requested
    → want_of gateway (object ms) ≡ Ok w
unfolding want_of
by_members gateway ms w is one two three =
    rw (one, delivery_back gateway w.delivery is, two, description_back w.description, three, requested_back w.requested) refl

pub want_back : (gateway : Bool) (w : Want) → IfSome w.delivery (IsTaken gateway) → want_of gateway (want_data w) ≡ Ok w
want_back gateway w is =
    by_members gateway (want_members w) w is
    (delivery_found w.requested w.description w.delivery)
    (description_found w.requested w.description w.delivery)
    (requested_found w.requested w.description w.delivery)

-- ---- with the name of the stream

differ : (name other : List ℕ) → bytes_eq name name ≡ true → bytes_eq name other ≡ false → name ≡ other → ⊥
differ name other same not is = true≢false (sym same ∙ ap (bytes_eq name) is ∙ not)

passed_over : (name : List ℕ) (stream : List ℕ) (ms : Members) → bytes_eq name name ≡ true → bytes_eq name (codes "stream_id") ≡ false
    → member_of name (object (put (codes "stream_id") (string stream) ms)) ≡ member_of name (object ms)
passed_over name stream ms same not = get_member-put_other name (codes "stream_id") (string stream) ms (differ name (codes "stream_id") same not)

pub replaced_back : (gateway : Bool) (stream : List ℕ) (w : Want) → IfSome w.delivery (IsTaken gateway)
    → want_of gateway (replaced_data stream w) ≡ Ok w
replaced_back gateway stream w is =
    by_members gateway (put (codes "stream_id") (string stream) (want_members w)) w is
    (passed_over (codes "delivery") stream (want_members w) refl refl ∙ delivery_found w.requested w.description w.delivery)
    (passed_over (codes "description") stream (want_members w) refl refl ∙ description_found w.requested w.description w.delivery)
    (passed_over (codes "events_requested") stream (want_members w) refl refl ∙ requested_found w.requested w.description w.delivery)

-- ---- as JSON

delivery_canonical : (d : Delivery) → HasTexts d → IsCanonical (delivery_data d)
delivery_canonical Poll h = (ascii _ refl, ascii _ refl, tt, tt)
delivery_canonical (Push endpoint url authorization) h = push_canonical url authorization h.0 h.1

delivery_shallow : (d : Delivery) → depth (delivery_data d) < 2
delivery_shallow Poll = omega arith
delivery_shallow (Push endpoint url authorization) = push_shallow url authorization

pub members_canonical : (w : Want) → IsWritten w → MembersAreCanonical (want_members w)
members_canonical w h =
    given_canonical (codes "events_requested") (option_map texts_data w.requested) _ (ascii _ refl)
    (each_given AreTexts IsCanonical texts_data w.requested texts_canonical h.requested)
    (given_canonical (codes "description") (option_map (λ t. string t) w.description) _ (ascii _ refl)
    (each_given IsUtf8 IsCanonical (λ t. string t) w.description (λ t is. is) h.description)
    (given_canonical (codes "delivery") (option_map delivery_data w.delivery) no_members (ascii _ refl)
    (each_given HasTexts IsCanonical delivery_data w.delivery delivery_canonical h.delivery) tt))

pub members_shallow : (w : Want) → members_depth (want_members w) < 2
members_shallow w =
    given_shallow 2 (codes "events_requested") (option_map texts_data w.requested) _ (each_shallow 2 texts_data w.requested texts_shallow)
    (given_shallow 2 (codes "description") (option_map (λ t. string t) w.description) _ (each_shallow 2 (λ t. string t) w.description (λ t. omega arith))
    (given_shallow 2 (codes "delivery") (option_map delivery_data w.delivery) no_members (each_shallow 2 delivery_data w.delivery delivery_shallow)
    (omega arith)))
