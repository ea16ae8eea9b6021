use Rattle.std.proofs.Common.{◌∙◌, ap, drop, nat_eq, take, ◌+◌, arith}
use Rattle.indexmap.specs.IndexSet.{contains}
use Rattle.sig_accounts.specs.Debts.{is_left, Queue}
use Rattle.sig_accounts.proofs.DebtLemmas.{cut_off, written}
use Rattle.sig_accounts.proofs.debts.Debts.settle_back.Goals as goal

pub returns : goal.returns
returns c =
    cut_off (is_left (contains nat_eq c.args.numbers.now)) c.self.inside.first c.sift_from-left.result c.as_mut_slice.result.now c.sift_from-left.new.debts
    c.truncate.new.self.items c.args.self.now.debts
    c.sift_from-left.ensures.left
    (c.truncate.ensures.items ∙ ap (take (c.self.inside.first + c.sift_from-left.result)) (written c.self.inside.list.len c.sift_from-left.new.debts _ (omega arith)))
    (ap (drop c.self.inside.first) c.as_mut_slice.ensures.value ∙ ap (λ (q : Queue). q.debts) c.self.view_is)
