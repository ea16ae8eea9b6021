-- A stream delivers an event exactly where its type is published and was asked for.
use Rattle.std.proofs.Common.{◌≡◌, ◌∙◌, ap, sym, subst, ℕ, List, [], ◌∷◌, true, bytes_eq, Option, Some, None, is_some, refl, inl, inr}
use Rattle.std.specs.Prelude.{Contains, IfSome}
use Rattle.std.specs.List.{list_any}
use Rattle.std.proofs.lemmas.Bool.{and_from, and_parts, or_cases, or_left, or_right}
use Rattle.sig_json.specs.Listed.{listed}
use Rattle.sig_event.specs.Types.{event_types, is_published, published_types, type_of, uri_of_type}
use Rattle.sig_event.specs.declared.event_type.EventType.{EventType}
use Rattle.sig_event.specs.declared.event_type.EventType.TheVariants.{Verification, StreamUpdated}
use Rattle.sig_event.proofs.ReadsEvents.{lists_published}
use Rattle.sig_terms.specs.Fitting.{delivers, is_published_uri, is_requested}
use Rattle.sig_terms.specs.declared.configuration.StreamConf.{StreamConf}
use Rattle.sig_history.proofs.StreamLemmas.{same_text, text_itself}
use Rattle.sig_fact_laws.specs.Due.{IsDelivered}
use Rattle.sig_fact_laws.proofs.MemberLemmas.{found_passes, later_there, none_there, one_found, same_there, there_cases}

-- ---- types that are published

-- the URI is that of a type of the list
record IsListedType (uri : List ℕ) : Type 0 where
  type : EventType
  there : Contains published_types type
  spelled : uri_of_type type ≡ uri

-- of the types with this URI, if any is listed, the first that is known is published
listed_first : (uri : List ℕ) (type : EventType) → Contains published_types type → uri_of_type type ≡ uri
    → (first : EventType) × (listed uri_of_type published_types uri ≡ Some first) × (type_of uri ≡ Some first)
unfolding listed event_types
listed_first uri type there is =
    one_found (λ x. bytes_eq uri (uri_of_type x)) published_types (Verification ∷ StreamUpdated ∷ []) type there (text_itself uri (uri_of_type type) (sym is))

listed_is : (uri : List ℕ) (type : EventType) → listed uri_of_type published_types uri ≡ Some type → Contains published_types type × (uri_of_type type ≡ uri)
unfolding listed
listed_is uri type is =
    let found = found_passes (λ x. bytes_eq uri (uri_of_type x)) published_types type is in
    (found.0, sym (same_text uri (uri_of_type type) found.1))

known_is : (uri : List ℕ) (type : EventType) → type_of uri ≡ Some type → uri_of_type type ≡ uri
unfolding listed
known_is uri type is =
    sym (same_text uri (uri_of_type type) (found_passes (λ x. bytes_eq uri (uri_of_type x)) event_types type is).1)

published_is : (type : EventType) → Contains published_types type → is_published (Some type) ≡ true
published_is type there =
    let (first, is, known) = listed_first (uri_of_type type) type there refl in
    sym (lists_published type) ∙ ap is_some is

listed_some : (uri : List ℕ) (o : Option EventType) → listed uri_of_type published_types uri ≡ o → is_some o ≡ true → IsListedType uri
listed_some uri None is some = cc some
listed_some uri (Some type) is some = let both = listed_is uri type is in record { type = type; there = both.0; spelled = both.1 }

published_listed : (uri : List ℕ) (o : Option EventType) → type_of uri ≡ o → is_published o ≡ true → IsListedType uri
published_listed uri None is h = cc h
published_listed uri (Some type) is h =
    subst IsListedType (known_is uri type is) (listed_some (uri_of_type type) (listed uri_of_type published_types (uri_of_type type)) refl (lists_published type ∙ h))

listed_published : (uri : List ℕ) → IsListedType uri → is_published_uri uri ≡ true
listed_published uri l =
    let (first, is, known) = listed_first uri l.type l.there l.spelled in
    ap is_published known ∙ published_is first (listed_is uri first is).0

-- ---- types that were asked for

asked_there : (uri : List ℕ) (uris : List (List ℕ)) → list_any (bytes_eq uri) uris ≡ true → Contains uris uri
asked_there uri [] h = cc h
asked_there uri (u ∷ us) h = elim (or_cases (bytes_eq uri u) (list_any (bytes_eq uri) us) h) [
  | inl this ↦ same_there u uri us (sym (same_text uri u this))
  | inr later ↦ later_there u uri us (asked_there uri us later)
]

there_asked : (uri : List ℕ) (uris : List (List ℕ)) → Contains uris uri → list_any (bytes_eq uri) uris ≡ true
there_asked uri [] h = absurd (none_there uri h)
there_asked uri (u ∷ us) h = elim (there_cases u uri us h) [
  | inl same ↦ or_left (bytes_eq uri u) (list_any (bytes_eq uri) us) (text_itself uri u (sym same))
  | inr later ↦ or_right (bytes_eq uri u) (list_any (bytes_eq uri) us) (there_asked uri us later)
]

requested_wanted : (uri : List ℕ) (o : Option (List (List ℕ))) → is_requested uri o ≡ true → IfSome o (λ uris. Contains uris uri)
requested_wanted uri None h = tt
requested_wanted uri (Some uris) h = asked_there uri uris h

wanted_requested : (uri : List ℕ) (o : Option (List (List ℕ))) → IfSome o (λ uris. Contains uris uri) → is_requested uri o ≡ true
wanted_requested uri None h = refl
wanted_requested uri (Some uris) h = there_asked uri uris h

-- ---- both

pub delivers_means : (conf : StreamConf) (uri : List ℕ) → delivers conf uri ≡ true → IsDelivered conf.requested uri
delivers_means conf uri h =
    let both = and_parts (is_published_uri uri) (is_requested uri conf.requested) h in
    let l : IsListedType uri = published_listed uri (type_of uri) refl both.0 in
    record { type = l.type; supported = l.there; spelled = l.spelled; wanted = requested_wanted uri conf.requested both.1 }

pub delivers_where : (conf : StreamConf) (uri : List ℕ) → IsDelivered conf.requested uri → delivers conf uri ≡ true
delivers_where conf uri h =
    and_from (is_published_uri uri) (is_requested uri conf.requested)
    (listed_published uri (record { type = h.type; there = h.supported; spelled = h.spelled }))
    (wanted_requested uri conf.requested h.wanted)
