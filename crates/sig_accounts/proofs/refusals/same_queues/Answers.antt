use Rattle.std.proofs.Common.{◌≡◌, true, arith, rules}
use Rattle.sig_accounts.specs.Reported.{refused_at}
use Rattle.sig_accounts.proofs.SameLemmas.{alike_at, alike_length}
use Rattle.sig_accounts.proofs.refusals.same_queues.Goals as goal

pub returns-then-not-same_refusal : goal.returns-then-not-same_refusal
returns-then-not-same_refusal c = (
  λ is. cc,
  λ same.
      let told : c.same_refusal.result ≡ true = c.same_refusal.ensures.1 (alike_at (refused_at c.args.published.now) c.args.some.now.items c.args.others.now.items
      c.loop-i.i c.index.result.now c.index-in-loop-i.result.now
      (omega (arith, alike_length (refused_at c.args.published.now) c.args.some.now.items c.args.others.now.items same)) c.index.ensures c.index-in-loop-i.ensures same) in
      search (rules, told, c.if-not-same_refusal.true),
)
