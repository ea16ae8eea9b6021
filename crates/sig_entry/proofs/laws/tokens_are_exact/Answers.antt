use Rattle.sig_fields.proofs.Exact.{agrees_exact}
use Rattle.std.proofs.Common.{◌<◌, ◌^◌, List, ℕ, length}
use Rattle.sig_entry.specs.Tokens as tokens
use Rattle.sig_entry.proofs.TokenLemmas.{tokens_agree}
use Rattle.sig_entry.proofs.laws.tokens_are_exact.Goals as goal

pub returns : goal.returns
returns c = agrees_exact (λ (t : List ℕ). length t < 2 ^ 32) tokens.token_spelling tokens.read_token tokens_agree
