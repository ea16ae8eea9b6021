use Rattle.std.proofs.Common.{◌≡◌, drop, map}
use Rattle.std.specs.List.{list_any}
use Rattle.sig_token_calls.specs.Tokens.{is_full, stream_of}
use Rattle.sig_token_calls.proofs.making.any_full.Given as goal

abbrev pub invariant-loop-place : goal.invariant-loop-place
invariant-loop-place l =
    list_any (is_full l.addressed.fact) (map stream_of l.accounts) ≡ list_any (is_full l.addressed.fact) (map stream_of (drop l.place l.accounts))
