-- Facts that fit a history.
use Rattle.std.specs.Prelude.{◌≡◌, ℕ, List, [], ◌∷◌, ◌+◌, ◌==◌, Bool, true, not, ◌&&◌, ◌||◌, Option, bytes_eq, length, max, nat_lt, nat_le}
use Rattle.std.specs.List.{list_any, list_all}
use Rattle.sig_json.specs.declared.limits.TheConstants.{LAST_NUMBER, PAYLOAD_BYTES, STREAMS_PER_CLIENT, CLIENT_NAME_BYTES}
use Rattle.sig_set.specs.Written.{payload_text_of}
use Rattle.sig_terms.specs.declared.fact.Fact.{Fact}
use Rattle.sig_terms.specs.declared.fact.Fact.TheVariants.{Created, Configured, StatusSet, Listed, Unlisted, Deleted, Published, Settled, Asked}
use Rattle.sig_terms.specs.declared.fact.SettledItem.{SettledItem}
use Rattle.sig_terms.specs.declared.want.Delivery.{Delivery}
use Rattle.sig_history.specs.declared.limits.TheConstants.{SETTING_BYTES, SETTING_ITEMS}
use Rattle.sig_history.specs.Streams.{Parts, Made, client_in, stream_name, created_by, stands, streams_of}
use Rattle.sig_history.specs.Facts.{made_by}
use Rattle.sig_history.specs.Owed.{Sum, names_number, owed_by, sum_of}
use Rattle.sig_history.specs.Sizes.{delivery_bytes, given_bytes, requested_bytes, requested_items}

-- a character of a client's name: `a-z` or `0-9`
abbrev pub is_name_character : ℕ → Bool
is_name_character b = (nat_le 97 b && nat_le b 122) || (nat_le 48 b && nat_le b 57)

-- a client's name
abbrev pub is_client_name : List ℕ → Bool
is_client_name name =
    nat_lt 0 (length name) && nat_le (length name) CLIENT_NAME_BYTES && list_all is_name_character name

-- the name is that of the client's next stream, which may be made
abbrev pub is_next : Parts → List ℕ → List ℕ → Bool
is_next parts client stream =
    is_client_name client
    && bytes_eq stream (stream_name client (created_by client parts.created + 1))
    && nat_lt (streams_of client parts.streams) STREAMS_PER_CLIENT
    && nat_lt (created_by client parts.created) LAST_NUMBER

-- whether a token to be made would get a number that is too great
abbrev pub is_past : Made → Bool
is_past t = nat_lt LAST_NUMBER t.number

-- the bytes of the largest payload of tokens to be made
abbrev pub largest : List Made → ℕ
largest [] = 0
largest (t ∷ ts) = max (length (payload_text_of t.claims)) (largest ts)

-- whether a payload has more bytes than a token may have
abbrev pub is_long : List Made → Bool
is_long tokens = nat_lt PAYLOAD_BYTES (largest tokens)

-- tokens that may be made: their numbers and their payloads are within the limits
abbrev pub may_be_made : List Made → Bool
may_be_made tokens = not (list_any is_past tokens) && not (is_long tokens)

-- whether a token of this number is among them
abbrev pub has_number : ℕ → List Made → Bool
has_number number tokens = list_any (λ (t : Made). t.number == number) tokens

-- each number is named once
abbrev pub each_once : List SettledItem → Bool
each_once [] = true
each_once (i ∷ items) = not (names_number i.number items) && each_once items

-- each number is one of a token that is owed
abbrev pub are_owed : List SettledItem → List Made → Bool
are_owed items owed = list_all (λ (i : SettledItem). has_number i.number owed) items

-- what a receiver sets of a stream is within the limits: what it requests, where its tokens are sent, and its own words
abbrev pub is_small : Option (List (List ℕ)) → Delivery → Option (List ℕ) → Bool
is_small requested delivery description =
    nat_le (requested_bytes requested) SETTING_BYTES
    && nat_le (requested_items requested) SETTING_ITEMS
    && nat_le (delivery_bytes delivery) SETTING_BYTES
    && nat_le (given_bytes description) SETTING_BYTES

-- whether the streams and tokens that a fact names are there, and what it brings may be brought
abbrev pub is_apt : Sum → Fact → Bool
is_apt sum (Created conf time) =
    is_next sum.parts (client_in conf.stream) conf.stream && is_small conf.requested conf.delivery conf.description
is_apt sum (Configured stream requested delivery description) =
    stands stream sum.parts.streams && is_small requested delivery description
is_apt sum (StatusSet stream status reason operator time) = stands stream sum.parts.streams
is_apt sum (Listed stream subject) = stands stream sum.parts.streams
is_apt sum (Unlisted stream subject) = stands stream sum.parts.streams
is_apt sum (Deleted stream) = stands stream sum.parts.streams
is_apt sum (Published id news time) = true
is_apt sum (Settled stream items) =
    stands stream sum.parts.streams && are_owed items (owed_by sum stream) && each_once items
is_apt sum (Asked stream state time) = stands stream sum.parts.streams

-- a fact may follow what a history came to: it is apt, and the tokens that it makes may be made
abbrev pub is_fitting : Sum → Fact → Bool
is_fitting sum f = may_be_made (made_by sum.parts f) && is_apt sum f

abbrev pub Fits : Sum → Fact → Type 0
Fits sum f = is_fitting sum f ≡ true

-- each fact fits what the facts before it come to
abbrev pub is_sound : Sum → List Fact → Bool
is_sound base [] = true
is_sound base (f ∷ fs) = is_fitting base f && is_sound (sum_of base (f ∷ [])) fs
