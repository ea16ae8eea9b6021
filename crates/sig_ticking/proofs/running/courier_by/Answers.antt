use Rattle.std.proofs.Common.{◌∙◌, sym, refl, arith}
use Rattle.sig_outside.proofs.CauseLemmas.{later_rose}
use Rattle.sig_opening.proofs.EndLemmas.{not_missing}
use Rattle.sig_opening.proofs.FilesLemmas.{same_told}
use Rattle.sig_ticking.specs.declared.ending.CourierEnd.TheVariants.{SettingsFailed, Refused, NoStore, Damaged}
use Rattle.sig_ticking.proofs.EndLemmas.{load_damaged, load_early, load_ends, load_failed, load_missing, load_other}
use Rattle.sig_ticking.proofs.RunLemmas.{at_sides, couriers_store, stays_told, ticks_other, ticks_store}
use Rattle.sig_ticking.proofs.running.courier_by.Goals as goal

pub returns-in-Ok-clause-settings_failed : goal.returns-in-Ok-clause-settings_failed
returns-in-Ok-clause-settings_failed g c = λ is. ticks_other g.X.D.Disk.told c.args.by.now c.make_ticks-node.result.end SettingsFailed _ _ _ _ _ _ _ _ c.make_ticks-node.ensures.makes (λ k. k) is

pub returns-in-Ok-clause-refused : goal.returns-in-Ok-clause-refused
returns-in-Ok-clause-refused g c = λ member is. ticks_other g.X.D.Disk.told c.args.by.now c.make_ticks-node.result.end (Refused member) _ _ _ _ _ _ _ _ c.make_ticks-node.ensures.makes (λ k. k) is

pub returns-in-Ok-clause-damaged : goal.returns-in-Ok-clause-damaged
returns-in-Ok-clause-damaged g c = λ file place is. absurd (ticks_other g.X.D.Disk.told c.args.by.now c.make_ticks-node.result.end (Damaged file place) _ _ _ _ _ _ _ _ c.make_ticks-node.ensures.makes (λ k. k) is)

pub returns-in-Ok-clause-no_store : goal.returns-in-Ok-clause-no_store
returns-in-Ok-clause-no_store g c = λ is. absurd (ticks_other g.X.D.Disk.told c.args.by.now c.make_ticks-node.result.end NoStore _ _ _ _ _ _ _ _ c.make_ticks-node.ensures.makes (λ k. k) is)

pub returns-in-Ok-clause-missing : goal.returns-in-Ok-clause-missing
returns-in-Ok-clause-missing g c = λ lacks. absurd (not_missing _ _ c.in-Ok.ensures.found lacks)

pub returns-in-Ok-clause-store_failed : goal.returns-in-Ok-clause-store_failed
returns-in-Ok-clause-store_failed g c = λ is.
    later_rose _ _ _ c.in-Ok.ensures.later
    (later_rose _ _ _ (omega (arith, c.make_ticks-node.ensures.stores.2))
    (c.give_back.ensures.counted (ticks_store c.make_ticks-node.result.end _ is c.make_ticks-node.ensures.breaks)))

pub returns-in-Ok-clause-couriers : goal.returns-in-Ok-clause-couriers
returns-in-Ok-clause-couriers g c =
    let before = c.in-Ok.ensures.sides in
    let after = c.give_back.ensures.sides in
    couriers_store g.X.D.Disk.told g.X.D.Disk.seen c.args.rules c.make_ticks-node.result.end _ _ _ _ _ _ _ _ _ _ _ _ c.in-Ok.ensures.opens
    (at_sides g.X.D.Disk.told c.args.by.now c.args.rules c.make_ticks-node.result.end _ _ _ _ _ _ _ _ _ _ _ _ c.requires.same before.0 before.2 (sym after.0) (sym after.2) c.make_ticks-node.ensures.makes)
    c.make_ticks-node.ensures.breaks c.give_back.ensures.tells c.give_back.ensures.a c.give_back.ensures.b

pub returns-in-Ok-clause-back : goal.returns-in-Ok-clause-back
returns-in-Ok-clause-back g c =
    stays_told g.X.D.Disk.told g.X.D.Disk.seen c.args.rules c.args.by.now c.make_ticks-node.result.end _ _ _ _ _ _ _ _ _ _ _ _ c.in-Ok.ensures.opens c.make_ticks-node.ensures.makes c.give_back.ensures.a c.give_back.ensures.b

pub returns-in-Err-clause-settings_failed : goal.returns-in-Err-clause-settings_failed
returns-in-Err-clause-settings_failed g c = λ is. load_other c.in-Err.cause SettingsFailed (λ k. k) (sym c.of_unopened.ensures ∙ is)

pub returns-in-Err-clause-refused : goal.returns-in-Err-clause-refused
returns-in-Err-clause-refused g c = λ member is. load_other c.in-Err.cause (Refused member) (λ k. k) (sym c.of_unopened.ensures ∙ is)

pub returns-in-Err-clause-store_failed : goal.returns-in-Err-clause-store_failed
returns-in-Err-clause-store_failed g c = λ is. load_failed c.in-Err.cause _ _ _ _ _ c.in-Err.ensures.halts (sym c.of_unopened.ensures ∙ is)

pub returns-in-Err-clause-no_store : goal.returns-in-Err-clause-no_store
returns-in-Err-clause-no_store g c = λ is. load_missing c.in-Err.cause _ _ _ _ _ c.in-Err.ensures.halts (sym c.of_unopened.ensures ∙ is)

pub returns-in-Err-clause-missing : goal.returns-in-Err-clause-missing
returns-in-Err-clause-missing g c = λ lacks. (
  load_early c.in-Err.cause _ c.of_unopened.ensures,
  record { files = c.in-Err.ensures.back; ahead = c.in-Err.ensures.sides.0; back = c.in-Err.ensures.sides.2; unused = refl },
)

pub returns-in-Err-clause-damaged : goal.returns-in-Err-clause-damaged
returns-in-Err-clause-damaged g c = λ file place is. load_damaged c.in-Err.cause _ _ _ _ _ c.in-Err.ensures.halts file place (sym c.of_unopened.ensures ∙ is)

pub returns-in-Err-clause-couriers : goal.returns-in-Err-clause-couriers
returns-in-Err-clause-couriers g c =
    load_ends c.in-Err.cause _ _ _ c.of_unopened.ensures (record { files = c.in-Err.ensures.back; ahead = c.in-Err.ensures.sides.0; back = c.in-Err.ensures.sides.2; unused = refl })

pub returns-in-Err-clause-back : goal.returns-in-Err-clause-back
returns-in-Err-clause-back g c = (same_told _ _ c.in-Err.ensures.back.0, same_told _ _ c.in-Err.ensures.back.1)
