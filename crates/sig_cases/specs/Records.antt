-- What lines on records are answered, by what the calls answer.
use Rattle.std.specs.Prelude.{ℕ, List, [], ◌++◌, Result, Ok, Err, codes, decimal}
use Rattle.sig_fields.specs.declared.fault.DecodeFault.{DecodeFault}
use Rattle.sig_fields.specs.declared.fault.DecodeFault.TheVariants.{Bad, Memory}
use Rattle.sig_terms.specs.declared.fact.Fact.{Fact}
use Rattle.sig_entry.specs.Facts.{spelling_of}
use Rattle.sig_entry.specs.Tokens.{token_spelling}
use Rattle.sig_lines.specs.Spelled.{encoded, said}

-- bytes that are encoded again
abbrev pub again : List ℕ → List ℕ
again bytes = said (codes "ok") (encoded bytes)

-- the offset of the first part that is cut or breaks its rule
abbrev pub bad_at : ℕ → List ℕ
bad_at at = codes "bad " ++ decimal at

abbrev pub fact_again : Fact → List ℕ
fact_again f = again (spelling_of f)

-- of a fact that is decoded of bytes
abbrev pub fact_told : Result Fact DecodeFault → List ℕ
fact_told (Ok f) = fact_again f
fact_told (Err (Bad at)) = bad_at at
fact_told (Err Memory) = []

-- of a token that is decoded of bytes
abbrev pub token_told : Result (List ℕ) DecodeFault → List ℕ
token_told (Ok t) = again (token_spelling t)
token_told (Err (Bad at)) = bad_at at
token_told (Err Memory) = []
