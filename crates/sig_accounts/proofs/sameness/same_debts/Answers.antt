use Rattle.std.proofs.Common.{◌≡◌, true, arith, rules}
use Rattle.sig_accounts.specs.Owings.{told_by}
use Rattle.sig_accounts.proofs.SameLemmas.{alike_at, alike_length}
use Rattle.sig_accounts.proofs.sameness.same_debts.Goals as goal

pub returns-then-not-same_debt : goal.returns-then-not-same_debt
returns-then-not-same_debt c = (
  λ is. cc,
  λ same.
      let told : c.same_debt.result ≡ true = c.same_debt.ensures.1 (alike_at (told_by c.args.published.now c.args.stream.now) c.args.some.now c.args.others.now
      c.loop-i.i c.index-some-i.result c.index-others-i.result
      (omega (arith, alike_length (told_by c.args.published.now c.args.stream.now) c.args.some.now c.args.others.now same)) c.index-some-i.is c.index-others-i.is same) in
      search (rules, told, c.if-not-same_debt.true),
)
