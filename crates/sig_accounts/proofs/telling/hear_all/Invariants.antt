use Rattle.std.proofs.Common.{◌≡◌, ℕ, ◌≤◌, ◌++◌, take, drop, map, get_or}
use Rattle.sig_event.specs.declared.news.News.{News}
use Rattle.sig_history.specs.Streams.{is_due}
use Rattle.sig_accounts.specs.Owings.{Balance, owing_heard, owing_in, stream_in}
use Rattle.sig_accounts.proofs.telling.hear_all.Given as goal

abbrev pub invariant-loop-place : goal.invariant-loop-place
invariant-loop-place l = record {
  so_far : (n : News) → l.told ≡ map (is_due n) (map stream_in (map owing_in l.fn.accounts))
      → map owing_in l.accounts
      ≡ map (owing_heard n l.time l.publication) (take l.place (map owing_in l.fn.accounts)) ++ drop l.place (map owing_in l.fn.accounts);
  rest : (k : ℕ) (d : Balance) → l.place ≤ k → get_or l.accounts k d ≡ get_or l.fn.accounts k d;
}
