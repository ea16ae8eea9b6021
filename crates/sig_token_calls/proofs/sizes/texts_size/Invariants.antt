use Rattle.std.proofs.Common.{◌≡◌, ◌+◌, drop}
use Rattle.sig_token_calls.specs.Sizes.{texts_bytes}
use Rattle.sig_token_calls.proofs.sizes.texts_size.Given as goal

abbrev pub invariant-loop-text : goal.invariant-loop-text
invariant-loop-text l = l.size + texts_bytes (drop l.text-index l.texts) ≡ 1 + texts_bytes l.texts
