-- The object of a configuration is read back.
use Rattle.std.proofs.Common.{◌≡◌, ap, List, [], ◌∷◌, map, ℕ, true, Option, Some, None, Ok, refl, codes}
use Rattle.std.specs.Prelude.{option_map}
use Rattle.serde_json.specs.Data.{string, object, Members}
use Rattle.serde_json.specs.View.{items_of}
use Rattle.sig_json.specs.Json.{member_of}
use Rattle.sig_terms.specs.declared.configuration.StreamConf.{StreamConf}
use Rattle.sig_terms.specs.declared.endpoint.Endpoint.{Endpoint}
use Rattle.sig_terms.specs.declared.want.Delivery.{Delivery}
use Rattle.sig_terms.specs.declared.want.Delivery.TheVariants.{Poll, Push}
use Rattle.sig_stream.specs.Configurations.{delivery_data, fixed_members, push_data, put_given, texts_data}
use Rattle.sig_stream.specs.Steps.{where_given}
use Rattle.sig_stream.specs.Wants.{delivery_at, text_at, text_before, texts_at, texts_of, want_of}
use Rattle.sig_manager_laws.specs.Configured.{ConfigurationsAreReadBack, IsReached, IsTaken}

-- ---- where the members stand

abbrev members : Option (List (List ℕ)) → Option (List ℕ) → StreamConf → List ℕ → Members
members requested description conf base =
    put_given (codes "description") (option_map (λ t. string t) description)
    (put_given (codes "events_requested") (option_map texts_data requested)
    (fixed_members conf base))

delivery_found : (r : Option (List (List ℕ))) (t : Option (List ℕ)) (conf : StreamConf) (base : List ℕ)
    → member_of (codes "delivery") (object (members r t conf base)) ≡ Some (delivery_data conf.delivery base conf.stream)
delivery_found None None conf base = refl
delivery_found None (Some t) conf base = refl
delivery_found (Some r) None conf base = refl
delivery_found (Some r) (Some t) conf base = refl

description_found : (r : Option (List (List ℕ))) (t : Option (List ℕ)) (conf : StreamConf) (base : List ℕ)
    → member_of (codes "description") (object (members r t conf base)) ≡ option_map (λ u. string u) t
description_found None None conf base = refl
description_found None (Some t) conf base = refl
description_found (Some r) None conf base = refl
description_found (Some r) (Some t) conf base = refl

requested_found : (r : Option (List (List ℕ))) (t : Option (List ℕ)) (conf : StreamConf) (base : List ℕ)
    → member_of (codes "events_requested") (object (members r t conf base)) ≡ option_map texts_data r
requested_found None None conf base = refl
requested_found None (Some t) conf base = refl
requested_found (Some r) None conf base = refl
requested_found (Some r) (Some t) conf base = refl

-- ---- what is read of each

push_back : (endpoint : Endpoint) (url : List ℕ) (authorization : Option (List ℕ)) → IsReached true endpoint url authorization
    → delivery_at true (push_data url authorization) ≡ Ok (Push endpoint url authorization)
push_back endpoint url None is = rw is.spelled refl
push_back endpoint url (Some shown) is = rw (is.spelled, is.shown) refl

delivery_back : (d : Delivery) (base stream : List ℕ) → IsTaken true d → delivery_at true (delivery_data d base stream) ≡ Ok d
delivery_back Poll base stream is = refl
delivery_back (Push endpoint url authorization) base stream is = push_back endpoint url authorization is

pub description_back : (t : Option (List ℕ)) → where_given (text_at (codes "description")) (option_map (λ u. string u) t) ≡ Ok t
description_back None = refl
description_back (Some t) = refl

texts_back : (texts : List (List ℕ)) → texts_of (items_of (map (λ t. string t) texts)) ≡ Some texts
texts_back [] = refl
texts_back (text ∷ texts) = ap (text_before (Some text)) (texts_back texts)

pub requested_back : (r : Option (List (List ℕ))) → where_given (texts_at (codes "events_requested")) (option_map texts_data r) ≡ Ok r
requested_back None = refl
requested_back (Some texts) = rw (texts_back texts) refl

-- ---- the want

pub read_back : ConfigurationsAreReadBack
unfolding want_of
read_back conf base is =
    rw (
      delivery_found conf.requested conf.description conf base,
      delivery_back conf.delivery base conf.stream is,
      description_found conf.requested conf.description conf base,
      description_back conf.description,
      requested_found conf.requested conf.description conf base,
      requested_back conf.requested,
    ) refl
