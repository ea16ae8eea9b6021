use Rattle.sig_accounts.proofs.ListsLemmas.{idle_now}
use Rattle.sig_accounts.proofs.lists.let_go.Goals as goal

pub returns-then-is_idle : goal.returns-then-is_idle
returns-then-is_idle c = λ s.
    idle_now s c.args.subject.now c.args.lists.now.entries c.swap_remove.new.self.entries (c.is_idle.ensures c.if-is_idle.true) (c.swap_remove.ensures.updates.0 s)
