-- Which events and subjects a stream has (OpenID Shared Signals Framework 1.0, sections 7 and 8.1.1).
use Rattle.std.specs.Prelude.{ℕ, List, Bool, true, not, ◌&&◌, Option, Some, None, bytes_eq}
use Rattle.std.specs.List.{list_any}
use Rattle.sig_subject.specs.Matching.{is_identical, is_matching}
use Rattle.sig_subject.specs.declared.subject.Subject.{Subject}
use Rattle.sig_event.specs.Types.{is_published, type_of}
use Rattle.sig_terms.specs.declared.configuration.StreamConf.{StreamConf}
use Rattle.sig_terms.specs.declared.want.Defaults.{Defaults}
use Rattle.sig_terms.specs.declared.want.Defaults.TheVariants as defaults

-- whether it is the URI of a type that transmitters publish
abbrev pub is_published_uri : List ℕ → Bool
is_published_uri uri = is_published (type_of uri)

-- whether an event type was asked for; where none was named, all were
abbrev pub is_requested : List ℕ → Option (List (List ℕ)) → Bool
is_requested uri None = true
is_requested uri (Some uris) = list_any (bytes_eq uri) uris

-- whether a stream delivers events of a URI
abbrev pub delivers : StreamConf → List ℕ → Bool
delivers conf uri = is_published_uri uri && is_requested uri conf.requested

-- whether a subject is one of a stream's: under all, where it is identical to no listed one; under none, where it matches one
abbrev pub fits : Defaults → List Subject → Subject → Bool
fits defaults.All listed subject = not (list_any (is_identical subject) listed)
fits defaults.None listed subject = list_any (is_matching subject) listed
