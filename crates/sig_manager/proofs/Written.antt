-- What is written of a want is read back.
use Rattle.std.proofs.Common.{◌≡◌, ◌∙◌, ap, sym, List, [], ◌∷◌, map, ℕ, Bool, true, false, Option, Some, None, IfSome, Result, Ok, Err, refl, true≢false, codes}
use Rattle.std.specs.Prelude.{bytes_eq, option_map}
use Rattle.serde_json.specs.Data.{Data, string, object, Members, no_members, put}
use Rattle.serde_json.specs.View.{items_of}
use Rattle.serde_json.proofs.Views.{get_member-put_other}
use Rattle.sig_json.specs.Json.{member_of}
use Rattle.sig_terms.specs.declared.endpoint.Endpoint.{Endpoint}
use Rattle.sig_terms.specs.declared.want.Delivery.{Delivery}
use Rattle.sig_terms.specs.declared.want.Delivery.TheVariants.{Poll, Push}
use Rattle.sig_terms.specs.declared.want.Want.{Want}
use Rattle.sig_stream.specs.Configurations.{push_data, put_given, texts_data}
use Rattle.sig_stream.specs.Steps.{◌>>=◌, where_given}
use Rattle.sig_stream.specs.Wants.{delivery_at, text_at, text_before, texts_at, texts_of, want_by, want_of}
use Rattle.sig_manager.specs.Asking.{delivery_data, replaced_data, want_data, want_members}
use Rattle.sig_manager.specs.Laws.{ReplacedWantsAreReadBack, WantsAreReadBack}
use Rattle.sig_manager.proofs.Inverted.{IsRead, IsReadDelivery, body_read}

-- ---- where the members stand

abbrev members : Option (List (List ℕ)) → Option (List ℕ) → Option Delivery → Members
members requested description delivery =
    put_given (codes "events_requested") (option_map texts_data requested)
    (put_given (codes "description") (option_map (λ t. string t) description)
    (put_given (codes "delivery") (option_map delivery_data delivery) no_members))

delivery_found : (r : Option (List (List ℕ))) (t : Option (List ℕ)) (d : Option Delivery)
    → member_of (codes "delivery") (object (members r t d)) ≡ option_map delivery_data d
delivery_found None None None = refl
delivery_found None None (Some d) = refl
delivery_found None (Some t) None = refl
delivery_found None (Some t) (Some d) = refl
delivery_found (Some r) None None = refl
delivery_found (Some r) None (Some d) = refl
delivery_found (Some r) (Some t) None = refl
delivery_found (Some r) (Some t) (Some d) = refl

description_found : (r : Option (List (List ℕ))) (t : Option (List ℕ)) (d : Option Delivery)
    → member_of (codes "description") (object (members r t d)) ≡ option_map (λ u. string u) t
description_found None None None = refl
description_found None None (Some d) = refl
description_found None (Some t) None = refl
description_found None (Some t) (Some d) = refl
description_found (Some r) None None = refl
description_found (Some r) None (Some d) = refl
description_found (Some r) (Some t) None = refl
description_found (Some r) (Some t) (Some d) = refl

requested_found : (r : Option (List (List ℕ))) (t : Option (List ℕ)) (d : Option Delivery)
    → member_of (codes "events_requested") (object (members r t d)) ≡ option_map texts_data r
requested_found None None None = refl
requested_found None None (Some d) = refl
requested_found None (Some t) None = refl
requested_found None (Some t) (Some d) = refl
requested_found (Some r) None None = refl
requested_found (Some r) None (Some d) = refl
requested_found (Some r) (Some t) None = refl
requested_found (Some r) (Some t) (Some d) = refl

-- ---- what is read of each

push_back : (endpoint : Endpoint) (url : List ℕ) (authorization : Option (List ℕ)) → IsRead endpoint url authorization
    → delivery_at true (push_data url authorization) ≡ Ok (Push endpoint url authorization)
push_back endpoint url None is = rw is.spelled refl
push_back endpoint url (Some shown) is = rw (is.spelled, is.shown) refl

delivery_back : (d : Option Delivery) → IfSome d IsReadDelivery → where_given (delivery_at true) (option_map delivery_data d) ≡ Ok d
delivery_back None is = refl
delivery_back (Some Poll) is = refl
delivery_back (Some (Push endpoint url authorization)) is = rw (push_back endpoint url authorization is) refl

description_back : (t : Option (List ℕ)) → where_given (text_at (codes "description")) (option_map (λ u. string u) t) ≡ Ok t
description_back None = refl
description_back (Some t) = refl

texts_back : (texts : List (List ℕ)) → texts_of (items_of (map (λ t. string t) texts)) ≡ Some texts
texts_back [] = refl
texts_back (text ∷ texts) = ap (text_before (Some text)) (texts_back texts)

requested_back : (r : Option (List (List ℕ))) → where_given (texts_at (codes "events_requested")) (option_map texts_data r) ≡ Ok r
requested_back None = refl
requested_back (Some texts) = rw (texts_back texts) refl

-- ---- the want

by_members : (ms : Members) (w : Want) → IfSome w.delivery IsReadDelivery
    → member_of (codes "delivery") (object ms) ≡ option_map delivery_data w.delivery
    → member_of (codes "description") (object ms) ≡ option_map (λ u. string u) w.description
    → member_of (codes "events_requested") (object ms) ≡ option_map texts_data w.requested
    → want_of true (object ms) ≡ Ok w
unfolding want_of
by_members ms w is one two three =
    rw (one, delivery_back w.delivery is, two, description_back w.description, three, requested_back w.requested) refl

pub read_back : WantsAreReadBack
read_back gateway d w h =
    by_members (want_members w) w (body_read gateway d w h)
    (delivery_found w.requested w.description w.delivery)
    (description_found w.requested w.description w.delivery)
    (requested_found w.requested w.description w.delivery)

-- ---- with the name of the stream

differ : (name other : List ℕ) → bytes_eq name name ≡ true → bytes_eq name other ≡ false → name ≡ other → ⊥
differ name other same not is = true≢false (sym same ∙ ap (bytes_eq name) is ∙ not)

passed_over : (name : List ℕ) (stream : List ℕ) (ms : Members) → bytes_eq name name ≡ true → bytes_eq name (codes "stream_id") ≡ false
    → member_of name (object (put (codes "stream_id") (string stream) ms)) ≡ member_of name (object ms)
passed_over name stream ms same not = get_member-put_other name (codes "stream_id") (string stream) ms (differ name (codes "stream_id") same not)

pub replaced_read_back : ReplacedWantsAreReadBack
replaced_read_back gateway d stream w h =
    by_members (put (codes "stream_id") (string stream) (want_members w)) w (body_read gateway d w h)
    (passed_over (codes "delivery") stream (want_members w) refl refl ∙ delivery_found w.requested w.description w.delivery)
    (passed_over (codes "description") stream (want_members w) refl refl ∙ description_found w.requested w.description w.delivery)
    (passed_over (codes "events_requested") stream (want_members w) refl refl ∙ requested_found w.requested w.description w.delivery)
