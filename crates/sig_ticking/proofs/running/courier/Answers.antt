use Rattle.std.proofs.Common.{◌∙◌, sym}
use Rattle.sig_init.proofs.NameLemmas.{names_differ}
use Rattle.sig_ticking.proofs.RunLemmas.{couriers_named}
use Rattle.sig_ticking.proofs.running.courier.Goals as goal

pub courier_store-requires-clause-apart : goal.courier_store-requires-clause-apart
courier_store-requires-clause-apart g c κs within =
    λ same. names_differ c.args.store.now (sym c.in-Ok-file_names.ensures.a ∙ same ∙ c.in-Ok-file_names.ensures.b)

pub returns-in-Ok-file_names-clause-couriers : goal.returns-in-Ok-file_names-clause-couriers
returns-in-Ok-file_names-clause-couriers g c =
    couriers_named g.X.Outside.held g.X.Outside.sides g.X.Outside.sides_back (g.X.Outside.settings_of c.args.outside.now c.args.settings.now)
    c.in-Ok.said c.courier_store.result _ _ _ _ c.args.outside.now c.settings_from.new.outside c.courier_store.new.outside _ _
    c.in-Ok-file_names.ensures.a c.in-Ok-file_names.ensures.b c.in-Ok.ensures.stores.0 c.in-Ok.ensures.sides.0 c.in-Ok.ensures.sides.2 c.in-Ok.ensures.says c.courier_store.ensures.couriers
