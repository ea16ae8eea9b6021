use Rattle.std.proofs.Common.{rules, ◌≡◌, ◌∙◌, ap, Err}
use Rattle.sig_journal.specs.declared.node_fault.NodeFault.TheVariants.{Memory}
use Rattle.sig_tick.specs.Listing.{pushes_listed}
use Rattle.sig_tick.proofs.TickLemmas.{ticks_on, ticks_starved, ticks_unlisted}
use Rattle.sig_tick.proofs.ticking.tick_over.Goals as goal

pub returns-in_err-list : goal.returns-in_err-list
returns-in_err-list g c =
    let is : c.from_residual.result ≡ Err c.in_err-list.field-0.0 = search rules in
    rw is (ticks_unlisted c.args.rules.now _ _ c.now.result _ _ _ _ _ c.in_err-list.field-0.0
    (record { time = c.now.ensures.time; ahead = c.now.ensures.others.0; sent = c.now.ensures.others.1; faults = c.now.ensures.faults })
    c.new.ensures.items c.in_err-list.ensures.listed)

pub returns-in_err-streams : goal.returns-in_err-streams
returns-in_err-streams g c =
    let is : c.from_residual-in_err-streams.result ≡ Err Memory = search rules in
    rw is (ticks_starved c.args.rules.now _ _ c.now.result _ _ _ _ _ _
    (record { time = c.now.ensures.time; ahead = c.now.ensures.others.0; sent = c.now.ensures.others.1; faults = c.now.ensures.faults })
    c.new.ensures.items c.in_ok-list.ensures.listed)

pub returns-in_err-attempts : goal.returns-in_err-attempts
returns-in_err-attempts g c =
    let is : c.from_residual-in_err-attempts.result ≡ Err c.in_err-attempts.field-0.0 = search rules in
    let t = c.in_err-attempts.ensures.tried in
    rw is (ticks_on c.args.rules.now _ _ _ c.now.result _ _ _ _ _ _ _ _ _ _ c.as_slice-2.result.now t.0 _ (Err c.in_err-attempts.field-0.0)
    (record { time = c.now.ensures.time; ahead = c.now.ensures.others.0; sent = c.now.ensures.others.1; faults = c.now.ensures.faults })
    c.new.ensures.items c.in_ok-list.ensures.listed
    (c.as_slice-2.ensures.value ∙ c.in_ok-streams.ensures ∙ ap pushes_listed c.as_slice.ensures.value)
    c.in_ok-list.ensures.link c.in_ok-list.ensures.now t.2 tt)

pub returns : goal.returns
returns g c =
    let t = c.in_ok-attempts.ensures.tried in
    ticks_on c.args.rules.now _ _ _ c.now.result _ _ _ _ _ _ _ _ _ _ c.as_slice-2.result.now t.0 _ _
    (record { time = c.now.ensures.time; ahead = c.now.ensures.others.0; sent = c.now.ensures.others.1; faults = c.now.ensures.faults })
    c.new.ensures.items c.in_ok-list.ensures.listed
    (c.as_slice-2.ensures.value ∙ c.in_ok-streams.ensures ∙ ap pushes_listed c.as_slice.ensures.value)
    c.in_ok-list.ensures.link c.in_ok-list.ensures.now t.2 (c.of.ensures ∙ t.1)
