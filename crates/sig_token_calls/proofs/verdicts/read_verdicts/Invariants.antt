use Rattle.std.proofs.Common.{take, nat_eq}
use Rattle.indexmap.specs.IndexMap.{get}
use Rattle.sig_token_calls.specs.Verdicts.{AreRead}
use Rattle.sig_token_calls.proofs.verdicts.read_verdicts.Given as goal

abbrev pub invariant-loop-error : goal.invariant-loop-error
invariant-loop-error l = AreRead l.prefix l.ask.acks (take l.error-index l.errors) (get nat_eq l.verdicts)
