-- What a transmitter is asked, and where the request leads.
use Rattle.std.specs.Prelude.{ℕ, List, ◌++◌, ◌&&◌, Bool, false, is_none, Option, Some, codes, if◌then◌else◌}
use Rattle.sig_outside.specs.declared.place.Place.{Place}
use Rattle.sig_http.specs.Spelling.{request_spelling}
use Rattle.sig_http.specs.declared.message.Request.{Request}
use Rattle.sig_declared.specs.declared.provider.Provider.{Provider}

-- to the transmitter's own place, and to the gateway where it is https
abbrev pub place_of : Provider → Option Place
place_of provider = if provider.endpoint.secure then provider.gateway else Some provider.endpoint.place

-- a transmitter is https, and there is no gateway to it
abbrev pub lacks_gateway : Provider → Bool
lacks_gateway provider = provider.endpoint.secure && is_none provider.gateway

-- the request with the bearer that the transmitter knows (RFC 6750, section 2.1)
abbrev pub shown : Provider → Request → Request
shown provider r = record {
  method = r.method;
  path = r.path;
  query = r.query;
  bearer = Some (codes "Bearer " ++ provider.bearer);
  close = r.close;
  body = r.body;
}

-- the kind of its body
abbrev pub body_kind : List ℕ
body_kind = codes "application/json"

-- what is written of it: the transmitter's host is named also where the gateway is dialled
abbrev pub request_text : Provider → Request → List ℕ
request_text provider r = request_spelling provider.endpoint.place (shown provider r) body_kind false
