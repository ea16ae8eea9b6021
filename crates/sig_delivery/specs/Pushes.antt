-- The request that pushes a token, and the response that refuses one (RFC 8935, sections 2.1, 2.3 and 2.4).
use Rattle.std.specs.Prelude.{ℕ, List, [], ◌∷◌, true, false, Option, Some, None, option_map, codes}
use Rattle.serde_json.specs.Data.{Data, string, object, no_members, member}
use Rattle.serde_json.specs.Written.{compact_text}
use Rattle.httparse.specs.Grammar.{trim_ows}
use Rattle.sig_jws.specs.declared.key.Key.{Key}
use Rattle.sig_http.specs.Answering.{is_json, no_store}
use Rattle.sig_http.specs.Message.{bearer_of}
use Rattle.sig_http.specs.declared.message.Request.{Request}
use Rattle.sig_http.specs.declared.message.Response.{Response}
use Rattle.sig_set.specs.declared.refusal.Code.{Code}
use Rattle.sig_set.specs.declared.refusal.Spot.{Spot}
use Rattle.sig_set.specs.Spelled.{code_text, spot_text}
use Rattle.sig_set.specs.Written.{token_text}
use Rattle.sig_terms.specs.declared.endpoint.Endpoint.{Endpoint}
use Rattle.sig_terms.specs.declared.token.Token.{Token}

-- the path of an endpoint, nothing where there is none
abbrev pub path_in : Option Endpoint → List ℕ
path_in None = []
path_in (Some e) = e.path

-- the push of a token: its signed text, posted to its endpoint (section 2.1), with its stream's authorization as it stands
abbrev pub push_of : Token → Key → Request
push_of token key = record {
  method = codes "POST";
  path = path_in token.endpoint;
  query = [];
  bearer = token.authorization;
  close = true;
  body = token_text token.claims key;
}

-- the kind of its body
abbrev pub push_kind : List ℕ
push_kind = codes "application/secevent+jwt"

-- what is read of it: its bearer is what follows the word `Bearer` of the authorization
abbrev pub push_read : Token → Key → Request
push_read token key = record (push_of token key) { bearer = bearer_of (option_map trim_ows token.authorization) }

-- what is said of a refused token (section 2.3): the code, and the spot at which its judgement ended
abbrev pub refusal_data : Code → Spot → Data
refusal_data code spot = object (member (codes "description") (string (spot_text spot)) (member (codes "err") (string (code_text code)) no_members))

-- the response to a refused token, in English
abbrev pub coded_of : Code → Spot → Response
coded_of code spot = record {
  status = 400;
  headers =
      is_json
      ∷ record { name = codes "content-language"; value = codes "en" }
      ∷ no_store
      ∷ [];
  close = false;
  body = compact_text (refusal_data code spot);
}
