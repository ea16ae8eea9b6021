use Rattle.sig_entry.specs.Facts.{decoded}
use Rattle.sig_txnode.proofs.LoadLemmas.{applied, not_applied}
use Rattle.sig_txnode.proofs.loading.take_up.Goals as goal

pub returns-in-Ok-clause-takes : goal.returns-in-Ok-clause-takes
returns-in-Ok-clause-takes c =
    applied c.args.outbox.now.sum c.apply.new.self.sum c.in-Ok.fact (decoded c.args.payload.now) c.apply.result c.in-Ok.ensures c.apply.ensures.fits c.apply.ensures.takes

pub returns-in-Ok-clause-bad : goal.returns-in-Ok-clause-bad
returns-in-Ok-clause-bad c =
    not_applied c.args.outbox.now.sum c.in-Ok.fact (decoded c.args.payload.now) c.apply.result c.in-Ok.ensures c.apply.ensures.fits
