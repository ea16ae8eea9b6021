use Rattle.std.proofs.Common.{◌≡◌, drop, map, max}
use Rattle.sig_token_calls.specs.Sizes.{most_on}
use Rattle.sig_token_calls.specs.Tokens.{stream_of}
use Rattle.sig_token_calls.proofs.payloads.largest_on.Given as goal

abbrev pub invariant-loop-place : goal.invariant-loop-place
invariant-loop-place l =
    max l.most (most_on l.shared l.addressed.fact (map stream_of (drop l.place l.accounts))) ≡ most_on l.shared l.addressed.fact (map stream_of l.accounts)
