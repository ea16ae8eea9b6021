-- The responses to the answers of a transmitter, each of one status (OpenID Shared Signals Framework 1.0, section 8.1; RFC 8936,
-- section 2.5; RFC 9110, section 15). Each but that of the metadata has a secret or tells a state, and no cache may keep it.
use Rattle.std.specs.Prelude.{ℕ, List, [], ◌∷◌, Bool, false, codes}
use Rattle.serde_json.specs.Data.{Data}
use Rattle.serde_json.specs.Written.{compact_text}
use Rattle.sig_http.specs.Answering.{bad_at, empty, is_json, json}
use Rattle.sig_http.specs.declared.message.Response.{Response}
use Rattle.sig_terms.specs.declared.answer.Answer.{Answer}
use Rattle.sig_terms.specs.declared.answer.Answer.TheVariants as answer
use Rattle.sig_terms.specs.declared.configuration.StreamConf.{StreamConf}
use Rattle.sig_terms.specs.declared.rules.Rules.{Rules}
use Rattle.sig_terms.specs.declared.token.Token.{Token}
use Rattle.sig_stream.specs.Configurations.{conf_data}
use Rattle.sig_delivery.specs.Sets.{sets_text}
use Rattle.sig_txroutes.specs.Documents.{confs_data, metadata, published_data, refused_data, standings_data, status_data}
use Rattle.sig_txroutes.specs.Metrics.{figured}

-- the response that tells what the transmitter offers, which is told to anybody and which a cache may keep
abbrev pub offering : Rules → Response
offering rules = record { status = 200; headers = is_json ∷ []; close = false; body = compact_text (metadata rules) }

-- a response that tells a value
abbrev pub telling : ℕ → Data → Response
telling status d = json status (compact_text d)

-- the response that tells a configuration
abbrev pub configured : ℕ → StreamConf → Rules → Response
configured status conf rules = telling status (conf_data conf rules.base)

-- a page of tokens, signed (RFC 8936, section 2.5)
abbrev pub page : List Token → Bool → Rules → Response
page tokens more rules = json 200 (sets_text tokens more rules.key)

-- the table. What a round of pushes is handed and what is settled is told to no request
abbrev pub reply : Answer → Rules → Response
reply answer.Meta rules = offering rules
reply (answer.Made conf) rules = configured 201 conf rules
reply (answer.Conf conf) rules = configured 200 conf rules
reply (answer.Confs confs) rules = telling 200 (confs_data confs rules.base)
reply answer.Gone rules = empty 204
reply (answer.State stream status reason token) rules = telling 200 (status_data stream status reason)
reply answer.Added rules = empty 200
reply answer.Removed rules = empty 204
reply (answer.Asked stream number) rules = empty 204
reply (answer.Sets tokens more) rules = page tokens more rules
reply (answer.Published store_id tokens) rules = telling 200 (published_data store_id tokens)
reply (answer.Standings next standings) rules = telling 200 (standings_data next standings)
reply (answer.Refused next tokens) rules = telling 200 (refused_data next tokens)
reply (answer.Figures publications standings) rules = figured publications standings
reply (answer.Delivering stream) rules = empty 202
reply (answer.Handed tokens) rules = empty 500
reply (answer.Settled count) rules = empty 500
reply answer.NotFound rules = empty 404
reply answer.TooMany rules = empty 409
reply answer.Conflict rules = empty 409
reply answer.Disabled rules = empty 409
reply (answer.Early until) rules = empty 429
reply (answer.Long size) rules = bad_at (codes "long")
