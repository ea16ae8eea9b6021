use Rattle.std.proofs.Common.{◌≡◌, length}
use Rattle.sig_delivery.specs.Entries.{payload_entries}
use Rattle.sig_delivery.proofs.PutTokens.{put_payloads}
use Rattle.sig_delivery.proofs.sets_writing.all_payloads.Given as goal

abbrev pub invariant-loop-token : goal.invariant-loop-token
invariant-loop-token l = payload_entries l.tokens ≡ put_payloads l.left l.payloads.entries

abbrev pub decreases-loop-token : goal.decreases-loop-token
decreases-loop-token l = length l.left
