-- Keys of settings: `{"k", "kid"}` (RFC 7517, section 4; RFC 7518, section 6.4).
use Rattle.std.specs.Prelude.{ℕ, ◌&&◌, ◌||◌, ◌==◌, List, length, Bool, nat_lt, nat_le, Result, Ok, option_and_then, codes}
use Rattle.std.specs.Char.{is_ascii_alphanumeric}
use Rattle.std.specs.List.{list_all}
use Rattle.serde_json.specs.Data.{Data}
use Rattle.serde_json.specs.Find.{as_str}
use Rattle.sig_json.specs.declared.limits.TheConstants.{KEY_NAME_BYTES}
use Rattle.sig_jws.specs.declared.key.Key.{Key}
use Rattle.sig_jws.specs.Key.{key_word_of}
use Rattle.sig_stream.specs.Steps.{◌>>=◌}
use Rattle.sig_settings.specs.declared.fault.ValueFault.{ValueFault}
use Rattle.sig_settings.specs.Members.{found, is_whole, member_at, optional_at}
use Rattle.sig_settings.specs.Texts.{text_where}

-- 32 to 64 bytes in base64url without padding
abbrev pub key_bytes_at : Data → Result (List ℕ) ValueFault
key_bytes_at d = found (option_and_then key_word_of (as_str d))

-- a letter, a digit, `.`, `_` or `-`
abbrev pub is_key_name_byte : ℕ → Bool
is_key_name_byte b = is_ascii_alphanumeric b || b == 46 || b == 95 || b == 45

-- one to 64 of them
abbrev pub is_key_name : List ℕ → Bool
is_key_name name = nat_lt 0 (length name) && nat_le (length name) KEY_NAME_BYTES && list_all is_key_name_byte name

abbrev pub key_name_at : Data → Result (List ℕ) ValueFault
key_name_at d = text_where is_key_name d

-- a key with its name, where it has one
abbrev pub key_at : Data → Result Key ValueFault
key_at d = do
  whole ← is_whole d
  bytes ← member_at key_bytes_at (codes "k") d
  kid ← optional_at key_name_at (codes "kid") d
  Ok (record { kid = kid; bytes = bytes })
