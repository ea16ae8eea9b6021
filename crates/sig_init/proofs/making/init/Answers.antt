use Rattle.std.proofs.Common.{sym, ◌∙◌}
use Rattle.sig_init.proofs.NameLemmas.{names_differ}
use Rattle.sig_init.proofs.making.init.Goals as goal

pub init_files-requires-after_bounds : goal.init_files-requires-after_bounds
init_files-requires-after_bounds g c κs within =
    λ same. names_differ c.args.store.now (sym c.in-Ok.ensures.a ∙ same ∙ c.in-Ok.ensures.b)
