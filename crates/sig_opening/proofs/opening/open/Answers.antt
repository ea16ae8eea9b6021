use Rattle.sig_opening.proofs.FilesLemmas.{store_halts}
use Rattle.sig_opening.proofs.opening.open.Goals as goal

pub returns-in-Ok-load-clause-opens : goal.returns-in-Ok-load-clause-opens
returns-in-Ok-load-clause-opens g c = c.in-Ok-load.ensures.opens _ _ c.in-Ok.ensures.told.0 c.in-Ok.ensures.told.1

pub returns-in-Err-load-clause-halts : goal.returns-in-Err-load-clause-halts
returns-in-Err-load-clause-halts g c =
    store_halts g.E.Stored.means c.in-Err-load.fault _ _ _ _ _ _ _ c.of_load.ensures c.in-Ok.ensures.steady (c.in-Err-load.ensures.halts _ _ c.in-Ok.ensures.told.0 c.in-Ok.ensures.told.1)
