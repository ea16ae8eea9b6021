-- The word that a key is written as.
use Rattle.std.specs.Prelude.{ℕ, List, length, nat_le, ◌&&◌, if◌then◌else◌, Option, Some, None, option_and_then}
use Rattle.std.specs.Result.{result_ok}
use Rattle.base64.specs.Engines.{url_safe_no_pad}
use Rattle.base64.specs.GeneralPurpose.{decode_of}
use Rattle.sig_json.specs.declared.limits.TheConstants.{KEY_BYTES_LEAST, KEY_BYTES_MOST}

-- bytes, where there are as many as a key may have
abbrev pub sized_key : List ℕ → Option (List ℕ)
sized_key bytes = if nat_le KEY_BYTES_LEAST (length bytes) && nat_le (length bytes) KEY_BYTES_MOST then Some bytes else None

-- the key whose encoding a word is (RFC 4648, section 5, without padding)
abbrev pub key_word_of : List ℕ → Option (List ℕ)
key_word_of word = option_and_then sized_key (result_ok (decode_of url_safe_no_pad word))
