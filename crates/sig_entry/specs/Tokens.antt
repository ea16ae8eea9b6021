-- The receiver's record of a token: 01, and the token as a count and so many bytes.
use Rattle.std.specs.Prelude.{◌==◌, ℕ, List, ◌++◌, Bool, true, Option, Some, None, Result, if◌then◌else◌}
use Rattle.sig_fields.specs.declared.fault.DecodeFault.{DecodeFault}
use Rattle.sig_fields.specs.Kinds as kinds
use Rattle.sig_fields.specs.Reading.{ruled, ◌>>=◌}
use Rattle.sig_fields.specs.Whole.{whole}

-- the one kind of a receiver's records
abbrev pub kind_in : ℕ → Option Bool
kind_in b = if b == 1 then Some true else None

abbrev pub token_spelling : List ℕ → List ℕ
token_spelling token = kinds.byte_bytes 1 ++ kinds.text_bytes token

abbrev pub read_token : List ℕ → Result (List ℕ × List ℕ) (List ℕ)
read_token = do
  is_token ← ruled kind_in kinds.byte
  kinds.sized

-- the token that bytes spell, or the offset as of a fact's bytes
abbrev pub decoded_token : List ℕ → Result (List ℕ) DecodeFault
decoded_token = whole read_token
