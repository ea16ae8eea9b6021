use Rattle.std.proofs.Common.{◌∙◌, sym}
use Rattle.sig_init.proofs.NameLemmas.{names_differ}
use Rattle.sig_receive.proofs.FetchLemmas.{fetches_named}
use Rattle.sig_receive.proofs.SettingsLemmas.{says_fetch}
use Rattle.sig_receive.proofs.fetching.fetch.Goals as goal

pub fetch_store-requires-clause-apart : goal.fetch_store-requires-clause-apart
fetch_store-requires-clause-apart g c κs within =
    λ same. names_differ c.args.store.now (sym c.in-Ok-file_names.ensures.a ∙ same ∙ c.in-Ok-file_names.ensures.b)

pub returns-in-Ok-file_names-clause-fetches : goal.returns-in-Ok-file_names-clause-fetches
returns-in-Ok-file_names-clause-fetches g c =
    fetches_named g.X.Outside.held g.X.Outside.sides g.X.Outside.sides_back (g.X.Outside.settings_of c.args.outside.now c.args.settings.now)
    (record { said = c.in-Ok.said; peer = c.in-Ok-peer_of.peer }) c.fetch_store.result c.args.rounds _ _ _ _ c.args.outside.now c.settings_from.new.outside c.fetch_store.new.outside
    c.in-Ok-file_names.ensures.a c.in-Ok-file_names.ensures.b c.in-Ok.ensures.stores.0 c.in-Ok.ensures.sides.0 c.in-Ok.ensures.sides.2
    (says_fetch _ c.in-Ok.said c.in-Ok-peer_of.peer c.in-Ok.ensures.says c.in-Ok-peer_of.ensures.named) c.fetch_store.ensures.fetches
