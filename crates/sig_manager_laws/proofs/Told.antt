-- What the transmitter tells of configurations is canonical and shallow.
use Rattle.std.proofs.Common.{◌<◌, ◌++◌, ℕ, List, [], ◌∷◌, map, All, Option, IsUtf8, refl, arith, codes}
use Rattle.std.specs.Prelude.{option_map}
use Rattle.std.proofs.lemmas.List.Elements.{All-filter, All-cons, All-nil, All-head, All-tail}
use Rattle.std.proofs.lemmas.Str.{IsUtf8-append}
use Rattle.serde_json.specs.Data.{string, Members, depth, items_depth, members_depth}
use Rattle.serde_json.specs.View.{items_of}
use Rattle.sig_json.specs.Canon.{IsCanonical, MembersAreCanonical}
use Rattle.sig_event.specs.Types.{published_types, uri_of_type}
use Rattle.sig_event.specs.declared.event_type.EventType.{EventType}
use Rattle.sig_terms.specs.Fitting.{is_requested}
use Rattle.sig_terms.specs.declared.configuration.StreamConf.{StreamConf}
use Rattle.sig_terms.specs.declared.want.Delivery.{Delivery}
use Rattle.sig_terms.specs.declared.want.Delivery.TheVariants.{Poll, Push}
use Rattle.sig_owing.proofs.UriTexts.{known_utf8}
use Rattle.sig_stream.specs.Configurations.{audience_data, conf_data, delivered, delivery_data, fixed_members, poll_url, put_given, supported, texts_data}
use Rattle.sig_txroutes.specs.Documents.{confs_data}
use Rattle.sig_manager_laws.specs.Heard.{IsTold}
use Rattle.sig_manager_laws.specs.Written.{AreTexts, HasTexts}
use Rattle.sig_manager_laws.proofs.Canonical.{ascii, each_given, each_shallow, given_canonical, given_shallow, push_canonical, push_shallow, texts_canonical, texts_shallow}

-- ---- lists of texts

uris_utf8 : (types : List EventType) → AreTexts (map uri_of_type types)
uris_utf8 [] = All-nil IsUtf8
uris_utf8 (type ∷ types) = All-cons IsUtf8 (uri_of_type type) (map uri_of_type types) (known_utf8 type) (uris_utf8 types)

supported_texts : AreTexts supported
supported_texts = uris_utf8 published_types

delivered_texts : (requested : Option (List (List ℕ))) → AreTexts (delivered requested)
delivered_texts requested = All-filter (λ uri. is_requested uri requested) IsUtf8 supported supported_texts

audience_canonical : (aud : List (List ℕ)) → AreTexts aud → IsCanonical (audience_data aud)
audience_canonical [] h = tt
audience_canonical (text ∷ []) h = All-head IsUtf8 text [] h
audience_canonical (text ∷ other ∷ texts) h = texts_canonical (text ∷ other ∷ texts) h

audience_shallow : (aud : List (List ℕ)) → depth (audience_data aud) < 2
audience_shallow [] = omega arith
audience_shallow (text ∷ []) = omega arith
audience_shallow (text ∷ other ∷ texts) = texts_shallow (text ∷ other ∷ texts)

-- ---- the delivery

poll_url_utf8 : (base stream : List ℕ) → IsUtf8 base → IsUtf8 stream → IsUtf8 (poll_url base stream)
poll_url_utf8 base stream one two =
    IsUtf8-append (base ++ codes "/poll/") stream (IsUtf8-append base (codes "/poll/") one (ascii _ refl)) two

delivery_canonical : (d : Delivery) (base stream : List ℕ) → IsUtf8 base → IsUtf8 stream → HasTexts d → IsCanonical (delivery_data d base stream)
delivery_canonical Poll base stream one two h = (ascii _ refl, poll_url_utf8 base stream one two, (refl, tt), (ascii _ refl, ascii _ refl, tt, tt))
delivery_canonical (Push endpoint url authorization) base stream one two h = push_canonical url authorization h.0 h.1

delivery_shallow : (d : Delivery) (base stream : List ℕ) → depth (delivery_data d base stream) < 2
delivery_shallow Poll base stream = omega arith
delivery_shallow (Push endpoint url authorization) base stream = push_shallow url authorization

-- ---- a configuration

fixed_canonical : (conf : StreamConf) (base : List ℕ) → IsUtf8 base → IsTold conf → MembersAreCanonical (fixed_members conf base)
fixed_canonical conf base one h = (
  ascii _ refl,
  audience_canonical conf.aud h.aud,
  (refl, (refl, (refl, (refl, (refl, (refl, tt)))))),
  (
    ascii _ refl,
    delivery_canonical conf.delivery base conf.stream one h.stream h.written.delivery,
    (refl, (refl, (refl, (refl, (refl, tt))))),
    (
      ascii _ refl,
      texts_canonical (delivered conf.requested) (delivered_texts conf.requested),
      (refl, (refl, (refl, (refl, tt)))),
      (
        ascii _ refl,
        texts_canonical supported supported_texts,
        (refl, (refl, (refl, tt))),
        (
          ascii _ refl,
          h.iss,
          (refl, (refl, tt)),
          (
            ascii _ refl,
            h.interval,
            (refl, tt),
            (ascii _ refl, h.stream, tt, tt),
          ),
        ),
      ),
    ),
  ),
)

fixed_shallow : (conf : StreamConf) (base : List ℕ) → members_depth (fixed_members conf base) < 2
fixed_shallow conf base =
    omega (arith, audience_shallow conf.aud, delivery_shallow conf.delivery base conf.stream, texts_shallow (delivered conf.requested), texts_shallow supported)

conf_canonical : (conf : StreamConf) (base : List ℕ) → IsUtf8 base → IsTold conf → IsCanonical (conf_data conf base)
conf_canonical conf base one h =
    given_canonical (codes "description") (option_map (λ t. string t) conf.description) _ (ascii _ refl)
    (each_given IsUtf8 IsCanonical (λ t. string t) conf.description (λ t is. is) h.written.description)
    (given_canonical (codes "events_requested") (option_map texts_data conf.requested) (fixed_members conf base) (ascii _ refl)
    (each_given AreTexts IsCanonical texts_data conf.requested texts_canonical h.written.requested)
    (fixed_canonical conf base one h))

abbrev settable : StreamConf → List ℕ → Members
settable conf base =
    put_given (codes "description") (option_map (λ t. string t) conf.description)
    (put_given (codes "events_requested") (option_map texts_data conf.requested) (fixed_members conf base))

conf_shallow : (conf : StreamConf) (base : List ℕ) → depth (conf_data conf base) < 3
conf_shallow conf base =
    let below : members_depth (settable conf base) < 2 =
    given_shallow 2 (codes "description") (option_map (λ t. string t) conf.description) _
    (each_shallow 2 (λ t. string t) conf.description (λ t. omega arith))
    (given_shallow 2 (codes "events_requested") (option_map texts_data conf.requested) (fixed_members conf base)
    (each_shallow 2 texts_data conf.requested texts_shallow) (fixed_shallow conf base)) in
    omega (arith, below)

-- ---- all of them

pub confs_canonical : (confs : List StreamConf) (base : List ℕ) → IsUtf8 base → All IsTold confs → IsCanonical (confs_data confs base)
confs_canonical [] base one h = tt
confs_canonical (conf ∷ confs) base one h =
    (conf_canonical conf base one (All-head IsTold conf confs h), confs_canonical confs base one (All-tail IsTold conf confs h))

items_shallow : (confs : List StreamConf) (base : List ℕ) → items_depth (items_of (map (λ conf. conf_data conf base) confs)) < 3
items_shallow [] base = omega arith
items_shallow (conf ∷ confs) base = omega (arith, conf_shallow conf base, items_shallow confs base)

pub confs_shallow : (confs : List StreamConf) (base : List ℕ) → depth (confs_data confs base) < 4
confs_shallow confs base = omega (arith, items_shallow confs base)
