-- The responses with which a server answers a request that can't be read, or that its routes refuse.
use Rattle.std.specs.Prelude.{ℕ, Bool, true, false, ◌&&◌, bytes_eq, List, [], ◌∷◌, ◌++◌, Option, Some, None, codes}
use Rattle.std.specs.List.{list_any}
use Rattle.serde_json.specs.Data.{string}
use Rattle.serde_json.specs.Written.{compact_text}
use Rattle.sig_http.specs.declared.fault.HttpFault.{HttpFault}
use Rattle.sig_http.specs.declared.fault.HttpFault.TheVariants.{Head, Host, HeadLong, Length, BodyLong, Coding, Expect, Cut, Link, Memory}
use Rattle.sig_http.specs.declared.fault.HttpRefusal.{HttpRefusal}
use Rattle.sig_http.specs.declared.fault.HttpRefusal.TheVariants as refusals
use Rattle.sig_http.specs.declared.message.Header.{Header}
use Rattle.sig_http.specs.declared.message.Response.{Response}

-- a field that says that the body is JSON (RFC 8259, section 11), and one that says that no cache may keep the response (RFC
-- 9111, section 5.2.2.5)
abbrev pub is_json : Header
is_json = record { name = codes "content-type"; value = codes "application/json" }

abbrev pub no_store : Header
no_store = record { name = codes "cache-control"; value = codes "no-store" }

-- whether a response says so of itself
abbrev pub says_no_store : Response → Bool
says_no_store response = list_any (λ (h : Header). bytes_eq h.name (codes "cache-control") && bytes_eq h.value (codes "no-store")) response.headers

-- a response without a body, and one with this body in JSON, which no cache may keep. They leave the link open
abbrev pub empty : ℕ → Response
empty status = record { status = status; headers = no_store ∷ []; close = false; body = [] }

abbrev pub json : ℕ → List ℕ → Response
json status body = record { status = status; headers = is_json ∷ no_store ∷ []; close = false; body = body }

-- a closing response without a body
abbrev pub closing : ℕ → Response
closing status = record (empty status) { close = true }

-- a closing response of status 400 with this JSON body
abbrev pub bad_request : List ℕ → Response
bad_request body = record (json 400 body) { close = true }

-- the response to a fault (RFC 9110, sections 15.5.1, 15.5.14, 15.5.16, 15.5.18; RFC 6585, section 5). What can't be read
-- says nothing of a token, so it has no code of RFC 8935, section 2.4
abbrev pub closing_of : HttpFault → Option Response
closing_of Head = Some (bad_request (codes "{\"description\":\"head\"}"))
closing_of Host = Some (bad_request (codes "{\"description\":\"host\"}"))
closing_of HeadLong = Some (closing 431)
closing_of Length = Some (bad_request (codes "{\"description\":\"length\"}"))
closing_of BodyLong = Some (closing 413)
closing_of Coding = Some (closing 415)
closing_of Expect = Some (closing 417)
closing_of Cut = None
closing_of Link = None
closing_of Memory = None

-- a response without a body that has this field too
abbrev pub saying : ℕ → List ℕ → List ℕ → Response
saying status name value = record { status = status; headers = (record { name = name; value = value }) ∷ no_store ∷ []; close = false; body = [] }

-- the body that names a place by its JSON text (RFC 8935, section 2.3)
abbrev pub bad_body : List ℕ → List ℕ
bad_body text = codes "{\"description\":" ++ text ++ codes ",\"err\":\"invalid_request\"}"

-- a response of status 400 with it
abbrev pub bad_at : List ℕ → Response
bad_at place = json 400 (bad_body (compact_text (string place)))

-- the response to a refusal of the routes (RFC 9110, sections 15.5.1, 15.5.2, 15.5.5, 15.5.6; RFC 6750, section 3)
abbrev pub refused_with : HttpRefusal → Option Response
refused_with refusals.Path = Some (empty 404)
refused_with (refusals.Method allow) = Some (saying 405 (codes "allow") allow)
refused_with refusals.Auth = Some (saying 401 (codes "www-authenticate") (codes "Bearer"))
refused_with (refusals.Bad place) = Some (bad_at place)
refused_with refusals.Memory = None
