use Rattle.std.proofs.Common.{◌≡◌, map, take}
use Rattle.sig_history.specs.Streams.{is_due}
use Rattle.sig_accounts.specs.Owings.{owing_in, stream_in}
use Rattle.sig_accounts.proofs.told_streams.told_by_news.Given as goal

abbrev pub invariant-loop-place : goal.invariant-loop-place
invariant-loop-place l = l.marks.items ≡ map (is_due l.news) (map stream_in (map owing_in (take l.place l.accounts)))
