-- Rules that settings may hold, and calls that requests and scripts make.
use Rattle.std.specs.Prelude.{◌≡◌, ◌≤◌, ◌+◌, ℕ, Bool, true, ◌&&◌, Option, Some, None, IfSome, IsUtf8}
use Rattle.std.specs.List.{list_all}
use Rattle.std.specs.Str.{is_utf8}
use Rattle.sig_subject.specs.Written.{IsProperSubject}
use Rattle.sig_event.specs.News.{IsProperNews}
use Rattle.sig_terms.specs.declared.rules.Client.{Client}
use Rattle.sig_terms.specs.declared.rules.Rules.{Rules}
use Rattle.sig_terms.specs.declared.want.Delivery.{Delivery}
use Rattle.sig_terms.specs.declared.want.Delivery.TheVariants as delivery
use Rattle.sig_terms.specs.declared.want.Want.{Want}
use Rattle.sig_terms.specs.declared.call.Call.{Call}
use Rattle.sig_terms.specs.declared.call.Call.TheVariants.{Metadata, Create, ReadAll, Read, Patch, Put, Delete, GetStatus, SetStatus, Add, Remove, Verify, Poll, Publish, OperatorStatus, OperatorDelete, Streams, Refused, Figures, Deliver, Hand, Settle}
use Rattle.sig_stream.specs.Endpoints.{endpoint_of}
use Rattle.sig_history.specs.Sizes.{delivery_bytes, given_bytes, requested_bytes, requested_items}
use Rattle.sig_history.specs.Sound.{is_client_name}
use Rattle.sig_calls.specs.declared.limits.TheConstants.{WANT_BYTES, WANT_ITEMS}

-- a client's name is one, and its audience is texts
abbrev pub is_proper_client : Client → Bool
is_proper_client c = is_client_name c.name && list_all is_utf8 c.aud

-- rules that settings may hold
abbrev pub is_proper_rules : Rules → Bool
is_proper_rules rules = is_utf8 rules.issuer && list_all is_proper_client rules.clients

abbrev pub IsProperRules : Rules → Type 0
IsProperRules rules = is_proper_rules rules ≡ true

-- the endpoint of a delivery is the one that its url spells (RFC 3986, section 3)
abbrev pub IsSpelled : Delivery → Type 0
IsSpelled delivery.Poll = Unit {0}
IsSpelled (delivery.Push endpoint url authorization) = endpoint_of url ≡ Some endpoint

-- the bytes of the url and the authorization, where a delivery is wanted
abbrev pub wanted_bytes : Option Delivery → ℕ
wanted_bytes None = 0
wanted_bytes (Some d) = delivery_bytes d

-- the bytes of all texts of what is wanted: the requested ones, the url, the authorization and the description
abbrev pub want_bytes : Want → ℕ
want_bytes want = requested_bytes want.requested + wanted_bytes want.delivery + given_bytes want.description

-- what is wanted of a stream: the endpoint is the url's, and the texts and the list are within the limits
pub record IsProperWant (want : Want) : Type 0 where
  pub spelled : IfSome want.delivery IsSpelled
  pub bytes : want_bytes want ≤ WANT_BYTES
  pub items : requested_items want.requested ≤ WANT_ITEMS

-- a call that requests and scripts make: what it wants is proper, its subject too, and its news, and its texts are in UTF-8
-- where a token says them
abbrev pub IsProperCall : Call → Type 0
IsProperCall Metadata = Unit {0}
IsProperCall (Create client want) = IsProperWant want
IsProperCall (ReadAll client) = Unit {0}
IsProperCall (Read client stream) = Unit {0}
IsProperCall (Patch client stream want) = IsProperWant want
IsProperCall (Put client stream want) = IsProperWant want
IsProperCall (Delete client stream) = Unit {0}
IsProperCall (GetStatus client stream) = Unit {0}
IsProperCall (SetStatus client stream status reason) = IfSome reason IsUtf8
IsProperCall (Add client stream subject) = IsProperSubject subject
IsProperCall (Remove client stream subject) = IsProperSubject subject
IsProperCall (Verify client stream state) = IfSome state IsUtf8
IsProperCall (Poll client stream ask) = Unit {0}
IsProperCall (Publish id news) = IsProperNews news
IsProperCall (OperatorStatus stream status reason) = IfSome reason IsUtf8
IsProperCall (OperatorDelete stream) = Unit {0}
IsProperCall (Streams from) = Unit {0}
IsProperCall (Refused from) = Unit {0}
IsProperCall Figures = Unit {0}
IsProperCall (Deliver stream) = Unit {0}
IsProperCall (Hand streams) = Unit {0}
IsProperCall (Settle stream number outcome) = Unit {0}
