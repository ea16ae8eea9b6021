-- The tokens that a fact makes on some streams, read off the streams as the ledger holds them.
use Rattle.std.specs.Prelude.{ℕ, List, ◌+◌, ◌≤◌, Bool, ◌&&◌, flat_map, nat_lt}
use Rattle.sig_json.specs.declared.limits.TheConstants.{LAST_NUMBER}
use Rattle.sig_terms.specs.declared.fact.Fact.{Fact}
use Rattle.sig_history.specs.Streams.{Stream, Made}
use Rattle.sig_history.specs.Facts.{is_told, token_for}
use Rattle.sig_accounts.specs.Owings.{Balance}

-- the tokens that a fact makes on these streams
abbrev pub tokens_on : List ℕ → Fact → List Stream → List Made
tokens_on store_id f streams = flat_map (token_for store_id f) streams

-- a stream that the fact tells, and whose next number is too great
abbrev pub is_full : Fact → Stream → Bool
is_full f s = is_told f s && nat_lt LAST_NUMBER (s.made + 1)

-- the stream of an account
abbrev pub stream_of : Balance → Stream
stream_of b = b.owing.stream

-- the number of its last token is one
abbrev pub IsNumbered : Balance → Type 0
IsNumbered b = b.owing.stream.made ≤ LAST_NUMBER
