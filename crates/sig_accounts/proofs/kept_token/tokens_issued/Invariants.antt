use Rattle.std.proofs.Common.{◌≡◌, take}
use Rattle.sig_accounts.proofs.kept_token.tokens_issued.Given as goal

abbrev pub invariant-loop-token : goal.invariant-loop-token
invariant-loop-token l = l.tokens.items ≡ take l.token-index l.list
