use Rattle.std.proofs.Common.{◌≡◌, ◌∙◌, sym, map, true, arith, refl, rules}
use Rattle.sig_accounts.specs.Owings.{Balance, Telling, telling_of}
use Rattle.sig_accounts.proofs.SameLemmas.{alike_all, alike_at, alike_length, placed_at, told_twice}
use Rattle.sig_accounts.proofs.sameness.same_accounts.Goals as goal

pub same_account-requires-clause-one : goal.same_account-requires-clause-one
same_account-requires-clause-one c =
    placed_at _ c.args.some.now c.loop-i.i c.index-some-i.result (omega arith) c.index-some-i.is c.requires.some

pub same_account-requires-clause-other : goal.same_account-requires-clause-other
same_account-requires-clause-other c =
    placed_at _ c.args.others.now c.loop-i.i c.index-others-i.result (omega arith) c.index-others-i.is c.requires.others

pub returns-then-not-same_account : goal.returns-then-not-same_account
returns-then-not-same_account c = (
  λ is. cc,
  λ same.
      let f : Balance → Telling = λ b. telling_of c.args.published.now b.owing in
      let both : map f c.args.some.now ≡ map f c.args.others.now =
      sym (told_twice c.args.published.now c.args.some.now) ∙ same ∙ told_twice c.args.published.now c.args.others.now in
      let told : c.same_account.result ≡ true = c.same_account.ensures.1 (alike_at f c.args.some.now c.args.others.now
      c.loop-i.i c.index-some-i.result c.index-others-i.result (omega (arith, alike_length f c.args.some.now c.args.others.now both))
      c.index-some-i.is c.index-others-i.is both) in
      search (rules, told, c.if-not-same_account.true),
)

pub returns : goal.returns
returns c = (
  λ is.
      told_twice c.args.published.now c.args.some.now
      ∙ alike_all (λ (b : Balance). telling_of c.args.published.now b.owing) c.args.some.now c.args.others.now c.loop-i.i (omega arith) (omega arith) c.loop-i.invariant
      ∙ sym (told_twice c.args.published.now c.args.others.now),
  λ same. refl,
)
