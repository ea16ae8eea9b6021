use Rattle.std.proofs.Common.{◌≡◌, map, refl, sym, subst}
use Rattle.sig_watch.specs.Happening.{IsWithout, OpenLink, open_link}
use Rattle.sig_watch.specs.Returning.{IsBack}
use Rattle.sig_watch.specs.Sights.{IfErrand, Sight}
use Rattle.sig_watch.proofs.PassLemmas.{went, without}
use Rattle.sig_watch.proofs.returning.give_back.Goals as goal

pub returns-clause-passes : goal.returns-clause-passes
returns-clause-passes g c =
    let serves = g.H.Host.serves c.args.host.now in
    let seen = g.V.Visitor.seen_of in
    let items = c.args.course.now.live.items in
    let x = c.remove-running.result in
    let gone = c.finish-visit.result in
    let host = subst (λ r. r.child.promise.host.value ≡ c.args.host.now) (sym c.remove-running.ensures.value) (c.requires.hosts c.args.at x c.requires.here) in
    let served = subst (λ h. g.H.Host.serves h x.number gone.log (seen x.child.promise.came.value) (seen gone.visit)) host c.finish-visit.ensures.serves in
    let one : OpenLink = open_link x.number (seen x.child.promise.came.value) in
    let taken = without (λ r. open_link r.number (seen r.child.promise.came.value)) items c.args.at x c.requires.here c.remove-running.ensures.value in
    let old = g.A.Door.view c.args.door.now in
    let new = g.A.Door.view c.take_back.new.door in
    let back = subst (λ (s : Sight). IfErrand s.is_errand (new ≡ old) (IsBack s old new)) c.into_guest.ensures c.take_back.ensures in
    went serves _ _ one gone.log (seen gone.visit) _ _ c.push_reserved.ensures.items
    ((c.finish-visit.ensures.kind, back), served, refl, subst (λ l. IsWithout (map (λ r. open_link r.number (seen r.child.promise.came.value)) items) one (map (λ r. open_link r.number (seen r.child.promise.came.value)) l)) (sym c.remove-running.ensures.items) taken)
