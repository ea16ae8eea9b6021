-- Each limit of the product by its figure, as the documents have it, so that a changed constant is a changed statement.
use Rattle.std.specs.Prelude.{◌≡◌, ◌*◌, ◌^◌, [], ◌∷◌}
use Rattle.sig_json.specs.declared.limits.TheConstants.{LAST_NUMBER, TOKEN_BYTES, PAYLOAD_BYTES, HEAD_BYTES, HEADER_FIELDS, REQUEST_BODY_BYTES, RESPONSE_BODY_BYTES, STREAMS_PER_CLIENT, CLIENTS, ISSUERS, PRINCIPALS, KEYS_PER_ISSUER, LINKS_AT_ONCE, REQUESTS_PER_LINK, TOKENS_PER_PAGE, KEY_BYTES_LEAST, KEY_BYTES_MOST, KEY_NAME_BYTES, CLIENT_NAME_BYTES, SETTINGS_BYTES, SCRIPT_LINE_BYTES, ROWS_PER_PAGE, INTERVAL_SECONDS, GATHERED_BYTES}
use Rattle.sig_jws.specs.declared.mac.TheConstants.{MAC_BYTES}
use Rattle.sig_number.specs.declared.modulus.TheConstants.{MODULUS_BYTES_LEAST, MODULUS_BYTES_MOST}
use Rattle.sig_http.specs.declared.limits.TheConstants.{CHUNK_LINE_BYTES, CHUNK_DIGITS, TRAILER_BYTES}
use Rattle.sig_http.specs.Chunks.{frame_bytes}
use Rattle.sig_http.specs.Taking.{taken_bytes}
use Rattle.sig_dial.specs.Reading.{exchange_bytes}
use Rattle.sig_dial.specs.declared.limits.TheConstants.{INTERIM_RESPONSES}
use Rattle.sig_watch.specs.declared.limits.TheConstants.{LINKS_PER_WATCH}
use Rattle.sig_system.specs.declared.deadline.TheConstants.{LINK_MILLISECONDS, REQUEST_MILLISECONDS, IDLE_MILLISECONDS, HURRY_MILLISECONDS, EXCHANGE_MILLISECONDS, READ_MILLISECONDS, WRITE_MILLISECONDS}
use Rattle.sig_system.specs.declared.tcp_link.TheConstants.{REST_MILLISECONDS, REST_READS, REST_BYTES}
use Rattle.sig_system.specs.declared.timing.TheConstants.{LOOK_MILLISECONDS}
use Rattle.sig_system.specs.declared.tcp_door.TheConstants.{ACCEPT_MILLISECONDS, LACK_MILLISECONDS, LACKING_ACCEPTS}
use Rattle.sig_system.specs.declared.tcp_side.TheConstants.{DIAL_SECONDS, DIAL_ADDRESSES}
use Rattle.sig_stream.specs.declared.limits.TheConstants.{AUTHORIZATION_BYTES, ENDPOINT_URL_BYTES}
use Rattle.sig_history.specs.declared.limits.TheConstants.{CODE_BYTES, REFUSED_KEPT, SETTING_BYTES, SETTING_ITEMS}
use Rattle.sig_calls.specs.declared.limits.TheConstants.{REFUSED_PER_PAGE, WANT_BYTES, WANT_ITEMS}
use Rattle.sig_journal.specs.declared.layout.TheConstants.{GATE_OPEN, MAGIC, VERSION, HEADER_BYTES, STORE_ID_BYTES, RECORD_HEAD_BYTES}

-- the sizes of HTTP messages
pub record MessageFigures : Type 0 where
  pub head : HEAD_BYTES ≡ 16384
  pub fields : HEADER_FIELDS ≡ 64
  pub request : REQUEST_BODY_BYTES ≡ 65536
  pub response : RESPONSE_BODY_BYTES ≡ 524288
  pub line : CHUNK_LINE_BYTES ≡ 256
  pub digits : CHUNK_DIGITS ≡ 16
  pub trailer : TRAILER_BYTES ≡ 1024
  pub interim : INTERIM_RESPONSES ≡ 5
  pub beside_request : frame_bytes REQUEST_BODY_BYTES ≡ 7424
  pub beside_response : frame_bytes RESPONSE_BODY_BYTES ≡ 50432
  pub taken_request : taken_bytes REQUEST_BODY_BYTES ≡ 93440
  pub taken_response : taken_bytes RESPONSE_BODY_BYTES ≡ 595200
  pub exchange : exchange_bytes ≡ 3571200

-- how many links there are, and how long each lasts
pub record LinkFigures : Type 0 where
  pub at_once : LINKS_AT_ONCE ≡ 64
  pub requests : REQUESTS_PER_LINK ≡ 16
  pub watch : LINKS_PER_WATCH ≡ 65536
  pub link : LINK_MILLISECONDS ≡ 60000
  pub request : REQUEST_MILLISECONDS ≡ 15000
  pub idle : IDLE_MILLISECONDS ≡ 15000
  pub read : READ_MILLISECONDS ≡ 30000
  pub write : WRITE_MILLISECONDS ≡ 30000
  pub exchange : EXCHANGE_MILLISECONDS ≡ 15000
  pub dial : DIAL_SECONDS ≡ 5
  pub addresses : DIAL_ADDRESSES ≡ 4
  pub hurry : HURRY_MILLISECONDS ≡ 250
  pub look : LOOK_MILLISECONDS ≡ 250
  pub rest : REST_MILLISECONDS ≡ 250
  pub rest_reads : REST_READS ≡ 8
  pub rest_bytes : REST_BYTES ≡ 8192
  pub accept : ACCEPT_MILLISECONDS ≡ 1000
  pub lack : LACK_MILLISECONDS ≡ 100
  pub lacking : LACK_MILLISECONDS * LACKING_ACCEPTS ≡ 60000

-- the sizes of tokens and keys, and the greatest number
pub record TokenFigures : Type 0 where
  pub token : TOKEN_BYTES ≡ 8192
  pub payload : PAYLOAD_BYTES ≡ 6000
  pub key_least : KEY_BYTES_LEAST ≡ 32
  pub key_most : KEY_BYTES_MOST ≡ 64
  pub key_name : KEY_NAME_BYTES ≡ 64
  pub mac : MAC_BYTES ≡ 32
  pub modulus_least : MODULUS_BYTES_LEAST ≡ 256
  pub modulus_most : MODULUS_BYTES_MOST ≡ 512
  pub last : LAST_NUMBER ≡ 2 ^ 62

-- what clients may have and set
pub record StreamFigures : Type 0 where
  pub streams : STREAMS_PER_CLIENT ≡ 16
  pub name : CLIENT_NAME_BYTES ≡ 32
  pub page : TOKENS_PER_PAGE ≡ 32
  pub interval : INTERVAL_SECONDS ≡ 86400
  pub url : ENDPOINT_URL_BYTES ≡ 2048
  pub authorization : AUTHORIZATION_BYTES ≡ 8192
  pub want_bytes : WANT_BYTES ≡ 655360
  pub want_items : WANT_ITEMS ≡ 655360
  pub setting_bytes : SETTING_BYTES ≡ 2 ^ 28
  pub setting_items : SETTING_ITEMS ≡ 2 ^ 28
  pub refused : REFUSED_KEPT ≡ 10000
  pub refused_page : REFUSED_PER_PAGE ≡ 100
  pub code : CODE_BYTES ≡ 64

-- what settings, scripts and pages of rows may have
pub record SettingFigures : Type 0 where
  pub settings : SETTINGS_BYTES ≡ 1048576
  pub clients : CLIENTS ≡ 64
  pub issuers : ISSUERS ≡ 64
  pub principals : PRINCIPALS ≡ 64
  pub keys : KEYS_PER_ISSUER ≡ 4
  pub script_line : SCRIPT_LINE_BYTES ≡ 65536
  pub rows : ROWS_PER_PAGE ≡ 256
  pub gathered : GATHERED_BYTES ≡ 65536

-- where things stand in a store
pub record StoreFigures : Type 0 where
  pub magic : MAGIC ≡ 83 ∷ 73 ∷ 71 ∷ 74 ∷ []
  pub version : VERSION ≡ 1
  pub header : HEADER_BYTES ≡ 35
  pub name : STORE_ID_BYTES ≡ 16
  pub record_head : RECORD_HEAD_BYTES ≡ 5
  pub gate : GATE_OPEN ≡ 90
