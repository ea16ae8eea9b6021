use Rattle.std.proofs.Common.{◌<◌, ◌^◌, List, ℕ, length}
use Rattle.sig_fields.specs.Kinds.{sized, text_bytes}
use Rattle.sig_fields.proofs.Agreeing.{sized_agrees}
use Rattle.sig_fields.proofs.Exact.{agrees_exact}
use Rattle.sig_fields.proofs.laws.bytes_are_exact.Goals as goal

pub returns : goal.returns
returns c = agrees_exact (λ (bytes : List ℕ). length bytes < 2 ^ 32) text_bytes sized sized_agrees
