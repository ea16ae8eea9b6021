-- What a body wants of a stream: the members that a receiver supplies of a configuration (OpenID Shared Signals Framework 1.0, section
-- 8.1.1). They are read in order, and the first that is wrong is the fault.
use Rattle.std.specs.Prelude.{ℕ, List, [], ◌∷◌, ◌&&◌, ◌||◌, ◌==◌, Bool, not, length, nat_le, Option, Some, None, option_and_then, option_map, Result, Ok, Err, ok_or, bytes_eq, codes, if◌then◌else◌}
use Rattle.std.specs.Char.{is_ascii_graphic}
use Rattle.std.specs.List.{list_all, list_any}
use Rattle.serde_json.specs.Data.{Data, Items, no_items, item}
use Rattle.serde_json.specs.Find.{as_array, as_str}
use Rattle.sig_json.specs.Json.{member_of, text_member}
use Rattle.sig_json.specs.Members.{and_test, is_object}
use Rattle.sig_terms.specs.declared.endpoint.Endpoint.{Endpoint}
use Rattle.sig_terms.specs.declared.want.Delivery.{Delivery}
use Rattle.sig_terms.specs.declared.want.Delivery.TheVariants.{Poll, Push}
use Rattle.sig_terms.specs.declared.want.Want.{Want}
use Rattle.sig_stream.specs.declared.want_fault.WantFault.{WantFault}
use Rattle.sig_stream.specs.declared.want_fault.WantFault.TheVariants as fault
use Rattle.sig_stream.specs.declared.limits.TheConstants.{AUTHORIZATION_BYTES, ENDPOINT_URL_BYTES}
use Rattle.sig_stream.specs.Endpoints.{endpoint_of}
use Rattle.sig_stream.specs.Steps.{◌>>=◌, where_given}

-- ---- kinds of members

-- a text
abbrev pub text_at : List ℕ → Data → Result (List ℕ) WantFault
text_at name d = ok_or (as_str d) (fault.Member name)

-- a text before others
abbrev pub text_before : Option (List ℕ) → Option (List (List ℕ)) → Option (List (List ℕ))
text_before None texts = None
text_before (Some text) texts = option_map (λ ts. text ∷ ts) texts

-- the texts of a list, where it has nothing else
abbrev pub texts_of : Items → Option (List (List ℕ))
texts_of no_items = Some []
texts_of (item d ds) = text_before (as_str d) (texts_of ds)

-- a list of texts
abbrev pub texts_at : List ℕ → Data → Result (List (List ℕ)) WantFault
texts_at name d = ok_or (option_and_then texts_of (as_array d)) (fault.Member name)

-- visible ASCII or a space, as a field's value has (RFC 9110, section 5.5)
abbrev pub is_field_byte : ℕ → Bool
is_field_byte b = is_ascii_graphic b || b == 32

-- no more of them than there may be
abbrev pub is_field : List ℕ → Bool
is_field text = nat_le (length text) AUTHORIZATION_BYTES && list_all is_field_byte text

-- the text of a field, which may be empty
abbrev pub field_of : List ℕ → Option (List ℕ)
field_of text = if is_field text then Some text else None

abbrev pub field_at : List ℕ → Data → Result (List ℕ) WantFault
field_at name d = ok_or (option_and_then field_of (as_str d)) (fault.Member name)

-- ---- the delivery (OpenID Shared Signals Framework 1.0, section 6.1)

-- delivery by push (RFC 8935) and by poll (RFC 8936)
abbrev pub push_method : List ℕ
push_method = codes "urn:ietf:rfc:8935"

abbrev pub poll_method : List ℕ
poll_method = codes "urn:ietf:rfc:8936"

-- the value is this text
abbrev pub is_text : List ℕ → Data → Bool
is_text text d = and_test (bytes_eq text) (as_str d)

-- an endpoint that can be reached: `https` needs the gateway
abbrev pub if_reached : Bool → Endpoint → Option Endpoint
if_reached gateway e = if not e.secure || gateway then Some e else None

-- the byte `#`, at which a fragment begins (RFC 3986, section 3.5)
abbrev pub is_hash : ℕ → Bool
is_hash b = b == 35

-- a URL of no more bytes than there may be, without a fragment, which the target of a request can't have (RFC 9110, section 7.1)
abbrev pub is_endpoint_url : List ℕ → Bool
is_endpoint_url url = nat_le (length url) ENDPOINT_URL_BYTES && not (list_any is_hash url)

-- the endpoint that such a URL spells
abbrev pub endpoint_in : List ℕ → Option Endpoint
endpoint_in url = if is_endpoint_url url then endpoint_of url else None

abbrev pub reached : Bool → List ℕ → Option Endpoint
reached gateway url = option_and_then (if_reached gateway) (endpoint_in url)

-- by push: where to, and what each request says for its authorization
abbrev pub push_of : Bool → Data → Result Delivery WantFault
push_of gateway d = do
  url ← ok_or (text_member (codes "endpoint_url") d) fault.Endpoint
  endpoint ← ok_or (reached gateway url) fault.Endpoint
  authorization ← where_given (field_at (codes "authorization_header")) (member_of (codes "authorization_header") d)
  Ok (Push endpoint url authorization)

-- by the method; with none by poll, of which nothing else is read
abbrev pub delivery_by : Bool → Data → Option Data → Result Delivery WantFault
delivery_by gateway d None = Ok Poll
delivery_by gateway d (Some method) =
    if is_text push_method method then push_of gateway d else if is_text poll_method method then Ok Poll else Err fault.Method

abbrev pub delivery_at : Bool → Data → Result Delivery WantFault
delivery_at gateway d = if is_object d then delivery_by gateway d (member_of (codes "method") d) else Err (fault.Member (codes "delivery"))

-- ---- the want

-- what a body wants, by the members that it gives
abbrev pub want_by : Bool → Data → Result Want WantFault
want_by gateway body = do
  delivery ← where_given (delivery_at gateway) (member_of (codes "delivery") body)
  description ← where_given (text_at (codes "description")) (member_of (codes "description") body)
  requested ← where_given (texts_at (codes "events_requested")) (member_of (codes "events_requested") body)
  Ok (record { requested = requested; delivery = delivery; description = description })

-- what a body wants, and the first fault where it is no object or a member is wrong
unfoldable pub want_of : Bool → Data → Result Want WantFault
want_of gateway body = if is_object body then want_by gateway body else Err (fault.Member (codes "body"))
