use Rattle.std.proofs.Common.{◌∙◌, refl, []}
use Rattle.sig_watch.proofs.DoorLemmas.{door_failed}
use Rattle.sig_opening.specs.declared.ending.ServeEnd.TheVariants.{Done, StoreFailed, NetworkFailed, Disagree}
use Rattle.sig_opening.proofs.WatchLemmas.{agree_none, agree_one, goes_on, if_none, if_shut, stops_before, stops_with}
use Rattle.sig_serve.specs.Door.{with_door}
use Rattle.sig_serve.specs.Watches.{IsWatch, tells_of}
use Rattle.sig_serve.proofs.RunLemmas.{watch_is}
use Rattle.sig_serve.proofs.watches.run_watch.Goals as goal

pub returns-in-Done-clause-goes_on : goal.returns-in-Done-clause-goes_on
returns-in-Done-clause-goes_on g c =
    let watch = watch_is g.D.Disk.told g.D.Disk.seen g.D.Disk.may_leave c.args.node c.in-Done.node c.in-Done.report _ _ _ c.in-Done.ensures.follows c.in-Done.ensures.history c.in-Done.ensures.links in
    if_none c.end_after.result _ (goes_on (IsWatch c.args.node.rules) tells_of _ _ watch.0 watch.3 (watch.2 ∙ c.in-Done.ensures.links.ends.0))

pub returns-in-Done-clause-stops : goal.returns-in-Done-clause-stops
returns-in-Done-clause-stops g c =
    let watch = watch_is g.D.Disk.told g.D.Disk.seen g.D.Disk.may_leave c.args.node c.in-Done.node c.in-Done.report _ _ _ c.in-Done.ensures.follows c.in-Done.ensures.history c.in-Done.ensures.links in
    if_shut c.in-Done.report.shut c.end_after.result _ c.end_after.ensures
    (λ shut. stops_with (IsWatch c.args.node.rules) tells_of Done _ _ watch.0 tt (λ memory. absurd cc) (λ done. watch.1 ∙ shut) watch.3 (agree_one tells_of watch.0 (watch.2 ∙ c.in-Done.ensures.links.ends.0)))

pub returns-in-DoorFault-clause-stops : goal.returns-in-DoorFault-clause-stops
returns-in-DoorFault-clause-stops g c =
    let watch = watch_is g.D.Disk.told g.D.Disk.seen g.D.Disk.may_leave c.args.node c.in-DoorFault.node c.in-DoorFault.report _ _ _ c.in-DoorFault.ensures.follows c.in-DoorFault.ensures.history c.in-DoorFault.ensures.links in
    stops_with (IsWatch c.args.node.rules) tells_of NetworkFailed _ _ watch.0 tt (λ memory. absurd cc) (λ done. absurd cc) watch.3 (agree_one tells_of watch.0 (watch.2 ∙ c.in-DoorFault.ensures.links.ends.0))

pub returns-in-DoorFault-clause-network : goal.returns-in-DoorFault-clause-network
returns-in-DoorFault-clause-network g c = λ is. door_failed _ _ _ _ _ c.in-DoorFault.ensures.links.ends.2 c.in-DoorFault.ensures.links.attends

pub returns-in-Broken-clause-stops : goal.returns-in-Broken-clause-stops
returns-in-Broken-clause-stops g c =
    let watch = watch_is g.D.Disk.told g.D.Disk.seen g.D.Disk.may_leave c.args.node c.in-Broken.node c.in-Broken.report _ _ _ c.in-Broken.ensures.follows c.in-Broken.ensures.history c.in-Broken.ensures.links in
    stops_with (IsWatch c.args.node.rules) tells_of StoreFailed _ _ watch.0 tt (λ memory. absurd cc) (λ done. absurd cc) watch.3 (agree_one tells_of watch.0 (watch.2 ∙ c.in-Broken.ensures.links.ends.0))

pub returns-in-Halted-clause-goes_on : goal.returns-in-Halted-clause-goes_on
returns-in-Halted-clause-goes_on g c =
    let watch = watch_is g.D.Disk.told g.D.Disk.seen g.D.Disk.may_leave c.args.node c.in-Halted.node c.in-Halted.report _ _ _ c.in-Halted.ensures.follows c.in-Halted.ensures.history c.in-Halted.ensures.links in
    goes_on (IsWatch c.args.node.rules) tells_of _ _ watch.0 watch.3 (watch.2 ∙ c.in-Halted.ensures.links.ends.0)

pub returns-in-Disagree-clause-stops : goal.returns-in-Disagree-clause-stops
returns-in-Disagree-clause-stops g c =
    let watch = watch_is g.D.Disk.told g.D.Disk.seen g.D.Disk.may_leave c.args.node c.in-Disagree.node c.in-Disagree.report _ _ _ c.in-Disagree.ensures.follows c.in-Disagree.ensures.history c.in-Disagree.ensures.links in
    stops_with (IsWatch c.args.node.rules) tells_of (Disagree c.in-Disagree.differ) _ _ watch.0 tt (λ memory. absurd cc) (λ done. absurd cc) watch.3
    (record { before = []; last = watch.0; parts = refl; agree = agree_none tells_of; differs = watch.2 ∙ c.in-Disagree.ensures.links.ends })

pub returns-in-Memory-clause-stops : goal.returns-in-Memory-clause-stops
returns-in-Memory-clause-stops g c =
    let same = c.in-Memory.ensures.memory in
    stops_before (IsWatch c.args.node.rules) tells_of _ _
    (λ i. with_door g.D.Disk.told (same.0 i) (g.A.Door.view (same.1 i)))
