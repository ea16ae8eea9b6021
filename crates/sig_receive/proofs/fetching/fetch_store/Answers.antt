use Rattle.std.proofs.Common.{◌∙◌, sym, arith}
use Rattle.sig_outside.proofs.CauseLemmas.{later_rose}
use Rattle.sig_opening.proofs.EndLemmas.{not_missing}
use Rattle.sig_opening.proofs.FilesLemmas.{same_told}
use Rattle.sig_receive.specs.declared.ending.FetchEnd.TheVariants.{SettingsFailed, Refused, NoStore, NetworkFailed, Damaged}
use Rattle.sig_receive.proofs.FetchEndLemmas.{load_damaged, load_early, load_ends, load_failed, load_missing, load_other}
use Rattle.sig_receive.proofs.FetchLemmas.{at_sides, fetches_store, rounds_network, rounds_other, rounds_store, stays_told}
use Rattle.sig_receive.proofs.RoundLemmas.{sides_same}
use Rattle.sig_receive.proofs.fetching.fetch_store.Goals as goal

pub returns-in-Ok-clause-settings_failed : goal.returns-in-Ok-clause-settings_failed
returns-in-Ok-clause-settings_failed g c = λ is. rounds_other c.make_rounds-node.result.fetched _ SettingsFailed c.of_rounds.ensures (λ k. k) is

pub returns-in-Ok-clause-refused : goal.returns-in-Ok-clause-refused
returns-in-Ok-clause-refused g c = λ member is. rounds_other c.make_rounds-node.result.fetched _ (Refused member) c.of_rounds.ensures (λ k. k) is

pub returns-in-Ok-clause-damaged : goal.returns-in-Ok-clause-damaged
returns-in-Ok-clause-damaged g c = λ file at is. absurd (rounds_other c.make_rounds-node.result.fetched _ (Damaged file at) c.of_rounds.ensures (λ k. k) is)

pub returns-in-Ok-clause-no_store : goal.returns-in-Ok-clause-no_store
returns-in-Ok-clause-no_store g c = λ is. absurd (rounds_other c.make_rounds-node.result.fetched _ NoStore c.of_rounds.ensures (λ k. k) is)

pub returns-in-Ok-clause-missing : goal.returns-in-Ok-clause-missing
returns-in-Ok-clause-missing g c = λ lacks. absurd (not_missing _ _ c.in-Ok.ensures.found lacks)

pub returns-in-Ok-clause-store_failed : goal.returns-in-Ok-clause-store_failed
returns-in-Ok-clause-store_failed g c = λ is.
    later_rose _ _ _ c.in-Ok.ensures.later
    (later_rose _ _ _ (omega (arith, c.make_rounds-node.ensures.stores.2))
    (c.give_back.ensures.counted (rounds_store c.make_rounds-node.result.fetched _ _ c.of_rounds.ensures is c.make_rounds-node.ensures.breaks)))

pub returns-in-Ok-clause-network_failed : goal.returns-in-Ok-clause-network_failed
returns-in-Ok-clause-network_failed g c = λ is.
    let rose = rounds_network c.make_rounds-node.result.fetched _ _ _ c.of_rounds.ensures is c.make_rounds-node.ensures.network in
    omega (arith, c.in-Ok.ensures.network, rose, c.give_back.ensures.network)

pub returns-in-Ok-clause-fetches : goal.returns-in-Ok-clause-fetches
returns-in-Ok-clause-fetches g c =
    let before = c.in-Ok.ensures.sides in
    let after = c.give_back.ensures.sides in
    fetches_store g.X.D.Disk.told g.X.D.Disk.seen (record { said = c.args.said; peer = c.args.peer.now }) _ _ _ _ _ _ _ _ _ _ c.make_rounds-node.result.fetched c.in-Ok.ensures.opens
    (at_sides g.X.D.Disk.told c.args.peer.now _ _ _ _ _ _ _ _ (sides_same _ _ _ _ before.0 before.2) (sides_same _ _ _ _ (sym after.0) (sym after.2)) c.make_rounds-node.ensures.makes)
    c.of_rounds.ensures c.make_rounds-node.ensures.breaks c.give_back.ensures.tells c.give_back.ensures.a c.give_back.ensures.b

pub returns-in-Ok-clause-back : goal.returns-in-Ok-clause-back
returns-in-Ok-clause-back g c =
    stays_told g.X.D.Disk.told g.X.D.Disk.seen _ c.args.peer.now _ _ _ _ _ _ _ _ _ _ c.in-Ok.ensures.opens c.make_rounds-node.ensures.makes c.give_back.ensures.a c.give_back.ensures.b

pub returns-clause-settings_failed : goal.returns-clause-settings_failed
returns-clause-settings_failed g c = λ is. load_other c.in-Err.cause SettingsFailed (λ k. k) (sym c.of_unopened.ensures ∙ is)

pub returns-clause-refused : goal.returns-clause-refused
returns-clause-refused g c = λ member is. load_other c.in-Err.cause (Refused member) (λ k. k) (sym c.of_unopened.ensures ∙ is)

pub returns-clause-store_failed : goal.returns-clause-store_failed
returns-clause-store_failed g c = λ is. load_failed c.in-Err.cause _ _ _ _ _ c.in-Err.ensures.halts (sym c.of_unopened.ensures ∙ is)

pub returns-clause-no_store : goal.returns-clause-no_store
returns-clause-no_store g c = λ is. load_missing c.in-Err.cause _ _ _ _ _ c.in-Err.ensures.halts (sym c.of_unopened.ensures ∙ is)

pub returns-clause-missing : goal.returns-clause-missing
returns-clause-missing g c = λ lacks. (
  load_early c.in-Err.cause _ c.of_unopened.ensures,
  record { files = c.in-Err.ensures.back; sides = sides_same _ _ _ _ c.in-Err.ensures.sides.0 c.in-Err.ensures.sides.2 },
)

pub returns-clause-damaged : goal.returns-clause-damaged
returns-clause-damaged g c = λ file at is. load_damaged c.in-Err.cause _ _ _ _ _ c.in-Err.ensures.halts file at (sym c.of_unopened.ensures ∙ is)

pub returns-clause-network_failed : goal.returns-clause-network_failed
returns-clause-network_failed g c = λ is. absurd (load_other c.in-Err.cause NetworkFailed (λ k. k) (sym c.of_unopened.ensures ∙ is))

pub returns-clause-fetches : goal.returns-clause-fetches
returns-clause-fetches g c =
    load_ends c.in-Err.cause _ _ _ c.of_unopened.ensures (record { files = c.in-Err.ensures.back; sides = sides_same _ _ _ _ c.in-Err.ensures.sides.0 c.in-Err.ensures.sides.2 })

pub returns-clause-back : goal.returns-clause-back
returns-clause-back g c = (same_told _ _ c.in-Err.ensures.back.0, same_told _ _ c.in-Err.ensures.back.1)
