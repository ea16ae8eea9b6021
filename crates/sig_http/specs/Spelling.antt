-- The one spelling in which a message is written (RFC 9112).
use Rattle.std.specs.Prelude.{ℕ, ◌==◌, nat_lt, nat_le, Bool, ◌&&◌, List, [], ◌∷◌, ◌++◌, length, if◌then◌else◌, Option, Some, None, unwrap_or, codes, decimal}
use Rattle.std.specs.List.{flat_map}
use Rattle.http.specs.StatusCode.{reason_phrase}
use Rattle.sig_outside.specs.declared.place.Place.{Place}
use Rattle.sig_http.specs.declared.message.Header.{Header}
use Rattle.sig_http.specs.declared.message.Request.{Request}
use Rattle.sig_http.specs.declared.message.Response.{Response}

-- CR LF
abbrev pub line_end : List ℕ
line_end = codes "\r\n"

-- a field line (RFC 9112, section 5)
abbrev pub field_line : List ℕ → List ℕ → List ℕ
field_line name value = name ++ codes ": " ++ value ++ line_end

-- the length of a body, the end of the head and the body
abbrev pub length_and_body : List ℕ → List ℕ
length_and_body body = field_line (codes "content-length") (decimal (length body)) ++ line_end ++ body

-- `?` and a query that isn't empty
abbrev pub query_part : List ℕ → List ℕ
query_part [] = []
query_part (b ∷ query) = codes "?" ++ (b ∷ query)

-- the line of a request (RFC 9112, section 3)
unfoldable pub request_line : Request → List ℕ
request_line request = request.method ++ codes " " ++ request.path ++ query_part request.query ++ codes " HTTP/1.1\r\n"

-- a host and a port (RFC 9110, section 7.2)
abbrev pub place_text : Place → List ℕ
place_text place = place.host ++ codes ":" ++ decimal place.port

-- the field `authorization`, where there is one
abbrev pub authorization : Option (List ℕ) → List ℕ
authorization None = []
authorization (Some value) = field_line (codes "authorization") value

-- a field line where this holds
abbrev pub line_if : Bool → List ℕ → List ℕ → List ℕ
line_if condition name value = if condition then field_line name value else []

-- a request to a place, with a body of this kind
unfoldable pub request_spelling : Place → Request → List ℕ → Bool → List ℕ
request_spelling place request kind language =
    request_line request
    ++ field_line (codes "host") (place_text place)
    ++ authorization request.bearer
    ++ field_line (codes "content-type") kind
    ++ line_if language (codes "content-language") (codes "en")
    ++ field_line (codes "accept") (codes "application/json")
    ++ field_line (codes "connection") (codes "close")
    ++ length_and_body request.body

-- the phrase of a status, and nothing for one without (RFC 9110, section 15)
abbrev pub phrase : ℕ → List ℕ
phrase status = if nat_le 100 status && nat_lt status 1000 then unwrap_or (reason_phrase status) [] else []

-- the status line (RFC 9112, section 4)
abbrev pub status_line : ℕ → List ℕ
status_line status = codes "HTTP/1.1 " ++ decimal status ++ codes " " ++ phrase status ++ line_end

abbrev pub header_line : Header → List ℕ
header_line header = field_line header.name header.value

abbrev pub field_lines : List Header → List ℕ
field_lines headers = flat_map header_line headers

-- the end of a head and the body: a response of status 204 says no length and has no body (RFC 9110, section 8.6)
abbrev pub rest_of : ℕ → List ℕ → List ℕ
rest_of status body = if status == 204 then line_end else length_and_body body

-- a response
unfoldable pub response_spelling : Response → List ℕ
response_spelling response =
    status_line response.status
    ++ field_lines response.headers
    ++ line_if response.close (codes "connection") (codes "close")
    ++ rest_of response.status response.body
