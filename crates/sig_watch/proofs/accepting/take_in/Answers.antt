use Rattle.std.proofs.Common.{◌≡◌, ◌+◌, [], refl, sym, subst}
use Rattle.std.proofs.lemmas.List.{append-nil}
use Rattle.sig_watch.specs.Happening.{OpenLink, open_link}
use Rattle.sig_watch.specs.Returning.{IsBack}
use Rattle.sig_watch.specs.Sights.{IfErrand, Sight}
use Rattle.sig_watch.proofs.PassLemmas.{went}
use Rattle.sig_watch.proofs.accepting.take_in.Goals as goal

pub returns-in-Err-clause-passes : goal.returns-in-Err-clause-passes
returns-in-Err-clause-passes g c =
    let seen = g.V.Visitor.seen_of in
    let gone = c.in-Err.gone in
    let old = g.A.Door.view c.args.door.now in
    let new = g.A.Door.view c.take_back.new.door in
    let one : OpenLink = open_link (c.args.course.now.count + 1) (seen c.args.visit) in
    let back = subst (λ (s : Sight). IfErrand s.is_errand (new ≡ old) (IsBack s old new)) c.into_guest.ensures c.take_back.ensures in
    went (g.H.Host.serves c.args.host.now) _ _ one gone.log (seen gone.visit) _ _ c.push_reserved-in-Err.ensures.items
    ((c.in-Err.ensures.kind, back), c.in-Err.ensures.err, refl, (_, [], refl, sym (append-nil _)))
