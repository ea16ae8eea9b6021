use Rattle.std.proofs.Common.{◌∙◌, ◌-◌, ◌^◌, ap, min}
use Rattle.sig_outbox.specs.State.{State}
use Rattle.sig_outbox.specs.Totals.{owed_in_all}
use Rattle.sig_outbox.proofs.TotalLemmas.{owed_is}
use Rattle.sig_outbox.proofs.outbox.Outbox.owed_in_all.Goals as goal

pub returns : goal.returns
returns c =
    c.owed_together.ensures
    ∙ ap (λ n. min n (2 ^ 64 - 1))
    (owed_is c.self.inside.ledger.books c.accounts.result.now c.accounts.ensures.accounts)
    ∙ ap (λ (s : State). min (owed_in_all s.sum) (2 ^ 64 - 1)) c.self.view_is
