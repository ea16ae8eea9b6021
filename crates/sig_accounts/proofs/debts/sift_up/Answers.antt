use Rattle.std.proofs.Common.{◌∙◌, ap, sym, ◌-◌, nat_eq, arith, rules}
use Rattle.indexmap.specs.IndexSet.{contains}
use Rattle.sig_accounts.specs.declared.debt.Debt.{Debt}
use Rattle.sig_accounts.specs.Debts.{is_left}
use Rattle.sig_accounts.proofs.DebtLemmas.{kept_step}
use Rattle.sig_accounts.proofs.debts.sift_up.Goals as goal

pub loop-read-preserved-then-not-contains : goal.loop-read-preserved-then-not-contains
loop-read-preserved-then-not-contains c =
    let both = kept_step (is_left (contains nat_eq c.args.numbers.now)) c.loop-read.read c.loop-read.kept (c.loop-read.read - 1) (c.loop-read.kept - 1)
    c.args.debts.now c.loop-read.debts c.swap.new.self c.index-debts-read.result (omega arith) (omega arith) (omega arith) (omega arith) c.loop-read.auto.debts
    c.loop-read.invariant.front c.loop-read.invariant.left
    (ap (λ (d : Debt). is_left (contains nat_eq c.args.numbers.now) d) (sym c.index-debts-read.is) ∙ search (rules, c.contains.ensures, c.if-not-contains.true))
    c.swap.ensures.after in
    record {
      from = omega arith;
      order = omega arith;
      within = omega arith;
      front = both.0;
      left = both.1;
    }
