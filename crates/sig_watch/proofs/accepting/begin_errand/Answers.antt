use Rattle.std.proofs.Common.{refl, ap}
use Rattle.sig_watch.specs.Happening.{open_link}
use Rattle.sig_watch.specs.Sights.{Sight}
use Rattle.sig_watch.proofs.AcceptLemmas.{errand_comes}
use Rattle.sig_watch.proofs.PassLemmas.{came, joined, room_left}
use Rattle.sig_watch.proofs.accepting.begin_errand.Goals as goal

pub returns-clause-passes : goal.returns-clause-passes
returns-clause-passes g c =
    let serves = g.H.Host.serves c.args.host.now in
    let seen = g.V.Visitor.seen_of in
    joined serves _ _ _ _ _ _
    (came serves _ (seen c.of_errand.result) _ _
    (errand_comes _ _ (seen c.of_errand.result) (ap (λ (s : Sight). s.is_errand) c.of_errand.ensures) c.own_side-side.ensures, refl, refl, room_left (λ r. open_link r.number (seen r.child.promise.came.value)) c.args.course.now.live.items _ c.requires.room.1))
    c.take_in.ensures.passes
