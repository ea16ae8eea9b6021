-- How many bytes the payloads of a fact's tokens have: what they all say alike, and what each stream adds.
use Rattle.std.specs.Prelude.{ℕ, List, [], ◌∷◌, ◌+◌, ◌-◌, length, max, if◌then◌else◌}
use Rattle.std.specs.Fmt.{decimal}
use Rattle.json.specs.Print.{escape}
use Rattle.serde_json.specs.Written.{compact_text}
use Rattle.sig_set.specs.Written.{audience_data, payload_text_of}
use Rattle.sig_event.specs.declared.claims.Claims.{Claims}
use Rattle.sig_event.specs.declared.news.News.{News}
use Rattle.sig_terms.specs.declared.configuration.StreamConf.{StreamConf}
use Rattle.sig_terms.specs.declared.fact.Fact.{Fact}
use Rattle.sig_history.specs.Streams.{Stream, jti_of}
use Rattle.sig_history.specs.Facts.{is_told}

-- a text in a JSON string, without the quotes
abbrev pub escaped_bytes : List ℕ → ℕ
escaped_bytes text = length (escape text)

-- a list of texts, of which there is at least one
abbrev pub texts_bytes : List (List ℕ) → ℕ
texts_bytes [] = 1
texts_bytes (text ∷ texts) = escaped_bytes text + 3 + texts_bytes texts

abbrev pub audience_bytes : List (List ℕ) → ℕ
audience_bytes aud = length (compact_text (audience_data aud))

-- what all tokens of a fact say alike: by nobody, for nobody, and numbered 0 of a stream with no name
abbrev pub shared_claims : List ℕ → ℕ → News → Claims
shared_claims store_id time n = record {
  iss = [];
  jti = jti_of store_id [] 0;
  iat = time;
  aud = [];
  subject = n.subject;
  events = n.event ∷ [];
}

abbrev pub shared_bytes : List ℕ → ℕ → News → ℕ
shared_bytes store_id time n = length (payload_text_of (shared_claims store_id time n))

-- what a stream's token adds to that; the empty list and the digit of 0 are there already
abbrev pub own_bytes : StreamConf → ℕ → ℕ
own_bytes conf number = audience_bytes conf.aud + (escaped_bytes conf.iss + escaped_bytes conf.stream) + length (decimal number) - 3

-- the payload that a stream's token would have, 0 where it would get none
abbrev pub size_on : ℕ → Fact → Stream → ℕ
size_on shared f s = if is_told f s then shared + own_bytes s.conf (s.made + 1) else 0

-- the largest of these
abbrev pub most_on : ℕ → Fact → List Stream → ℕ
most_on shared f [] = 0
most_on shared f (s ∷ ss) = max (size_on shared f s) (most_on shared f ss)
