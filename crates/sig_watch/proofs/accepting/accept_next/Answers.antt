use Rattle.std.proofs.Common.{◌∙◌, refl, sym, ap, None, Some}
use Rattle.sig_serving.specs.declared.stop.Stop.TheVariants.{Shut, Failed}
use Rattle.sig_watch.specs.Happening.{open_link}
use Rattle.sig_watch.specs.Sights.{Sight}
use Rattle.sig_watch.proofs.AcceptLemmas.{comes, gives, of_link, of_shut, of_waited, view_faulty, view_same}
use Rattle.sig_watch.proofs.PassLemmas.{came, joined, room_left, stays, until}
use Rattle.sig_watch.proofs.accepting.accept_next.Goals as goal

pub returns-in-Ok-Link-clause-passes : goal.returns-in-Ok-Link-clause-passes
returns-in-Ok-Link-clause-passes g c =
    let serves = g.H.Host.serves c.args.host.now in
    let answer = c.in-Ok-Link.ensures in
    let is = c.in-Ok-Link.field-0-is in
    let next = gives _ _ _ _ _ _ c.of.ensures (of_link _ _ _ _ is answer.next) (of_link _ _ _ _ is answer.begins) (of_link _ _ _ _ is answer.whole) (of_link _ _ _ _ is answer.lends) answer.others answer.cause.stays in
    until serves _ _ None _ _ _ _ _
    (joined serves _ _ _ _ _ _
    (came serves _ (g.V.Visitor.seen_of c.of.result) _ _
    (comes _ _ (g.V.Visitor.seen_of c.of.result) (ap (λ (s : Sight). s.is_errand) c.of.ensures) next, refl, refl, room_left (λ r. open_link r.number (g.V.Visitor.seen_of r.child.promise.came.value)) c.args.course.now.live.items _ c.requires.room.1))
    c.take_in.ensures.passes)
    refl

pub returns-in-Ok-Waited-clause-passes : goal.returns-in-Ok-Waited-clause-passes
returns-in-Ok-Waited-clause-passes g c =
    let answer = c.in-Ok-Waited.ensures in
    let told = of_waited _ _ c.in-Ok-Waited.field-0-is answer.waited in
    until (g.H.Host.serves c.args.host.now) _ _ None _ _ _ _ _ (stays (g.H.Host.serves c.args.host.now) _ _)
    (view_same _ _ (told.1 ∙ sym told.0) told.2 answer.others answer.cause.stays)

pub returns-in-Ok-Shut-clause-passes : goal.returns-in-Ok-Shut-clause-passes
returns-in-Ok-Shut-clause-passes g c =
    let answer = c.in-Ok-Shut.ensures in
    let told = of_shut _ _ c.in-Ok-Shut.field-0-is answer.shut in
    until (g.H.Host.serves c.args.host.now) _ _ (Some Shut) _ _ _ _ _ (stays (g.H.Host.serves c.args.host.now) _ _)
    (c.requires.room.0, told.0, view_same _ _ told.1 told.2 answer.others answer.cause.stays)

pub returns-in-Err-clause-passes : goal.returns-in-Err-clause-passes
returns-in-Err-clause-passes g c =
    let answer = c.in-Err.ensures in
    until (g.H.Host.serves c.args.host.now) _ _ (Some Failed) _ (g.A.Door.view c.args.door.now) (g.A.Door.view c.accept.new.self) _ _ (stays (g.H.Host.serves c.args.host.now) _ _)
    (c.requires.room.0, record { cause = answer.cause.failed; same = view_faulty (g.A.Door.view c.args.door.now) (g.A.Door.view c.accept.new.self) answer.none.0 answer.none.1 answer.others })
