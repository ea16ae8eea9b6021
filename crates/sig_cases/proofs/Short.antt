-- A token that is decoded of a record is short enough to be encoded again.
use Rattle.std.proofs.Common.{◌≡◌, ◌<◌, ◌^◌, ℕ, List, length}
use Rattle.std.specs.Prelude.{Ok}
use Rattle.sig_fields.specs.Agreeing.{AreBytes}
use Rattle.sig_fields.proofs.Exact.{agrees_exact}
use Rattle.sig_entry.specs.Tokens as tokens
use Rattle.sig_entry.proofs.TokenLemmas.{tokens_agree}

pub decoded_is_short : (bytes token : List ℕ) → AreBytes bytes → tokens.decoded_token bytes ≡ Ok token → length token < 2 ^ 32
decoded_is_short bytes token are is =
    ((agrees_exact (λ (t : List ℕ). length t < 2 ^ 32) tokens.token_spelling tokens.read_token tokens_agree).spells bytes token are is).0
