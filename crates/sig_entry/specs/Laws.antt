-- What holds of the bytes of facts and of tokens.
use Rattle.std.specs.Prelude.{◌<◌, ◌^◌, ℕ, List, length}
use Rattle.sig_fields.specs.Whole.{IsExact}
use Rattle.sig_entry.specs.Facts.{decoded, spelling_of}
use Rattle.sig_entry.specs.Proper.{IsProperFact}
use Rattle.sig_entry.specs.Tokens.{decoded_token, token_spelling}

-- a proper fact is decoded of its spelling; what is decoded is a proper fact, and the bytes are its spelling; and no spelling begins with another
abbrev pub FactsAreExact : Type 0
FactsAreExact = IsExact IsProperFact spelling_of decoded

-- the same of tokens of fewer than 2^32 bytes
abbrev pub TokensAreExact : Type 0
TokensAreExact = IsExact (λ (token : List ℕ). length token < 2 ^ 32) token_spelling decoded_token
