use Rattle.std.proofs.Common.{◌∙◌, sym}
use Rattle.sig_init.proofs.NameLemmas.{names_differ}
use Rattle.sig_serve.proofs.ServingLemmas.{missing_named, serves_named}
use Rattle.sig_serve.proofs.serving.serve.Goals as goal

pub serve_store-requires-clause-apart : goal.serve_store-requires-clause-apart
serve_store-requires-clause-apart g c κs within =
    λ same. names_differ c.args.store.now (sym c.in-Ok-file_names.ensures.a ∙ same ∙ c.in-Ok-file_names.ensures.b)

pub returns-in-Ok-file_names-clause-serves : goal.returns-in-Ok-file_names-clause-serves
returns-in-Ok-file_names-clause-serves g c =
    serves_named g.X.Outside.held g.X.Outside.doors g.X.Outside.doors_back (g.X.Outside.settings_of c.args.outside.now c.args.settings.now)
    c.in-Ok.said c.serve_store.result c.args.watches _ _ _ _ c.args.outside.now c.settings_from.new.outside c.serve_store.new.outside
    c.in-Ok-file_names.ensures.a c.in-Ok-file_names.ensures.b c.in-Ok.ensures.stores.0 c.in-Ok.ensures.doors.0 c.in-Ok.ensures.doors.2 c.in-Ok.ensures.says c.serve_store.ensures.serves

pub returns-in-Ok-file_names-clause-missing : goal.returns-in-Ok-file_names-clause-missing
returns-in-Ok-file_names-clause-missing g c =
    missing_named g.X.Outside.held g.X.Outside.doors g.X.Outside.doors_back (g.X.Outside.settings_of c.args.outside.now c.args.settings.now)
    c.in-Ok.said c.serve_store.result _ _ _ _ _ _ c.args.outside.now c.settings_from.new.outside c.serve_store.new.outside
    c.in-Ok-file_names.ensures.a c.in-Ok-file_names.ensures.b c.in-Ok.ensures.stores.3 c.in-Ok.ensures.stores.0 c.in-Ok.ensures.doors.0 c.in-Ok.ensures.doors.2 c.in-Ok.ensures.says c.serve_store.ensures.missing
