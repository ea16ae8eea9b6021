use Rattle.std.proofs.Common.{◌≡◌, map, length}
use Rattle.std.specs.Prelude.{All}
use Rattle.sig_watch.specs.Happening.{moment, open_link}
use Rattle.sig_watch.specs.Passing.{Passes}
use Rattle.sig_watch.proofs.returning.give_all_back.Given as goal

abbrev pub invariant-loop-door : goal.invariant-loop-door
invariant-loop-door g l = record {
  hosts : All (λ r. r.child.promise.host.value ≡ l.host) l.course.live.items;
  passes : Passes (g.H.Host.serves l.host) l.fn.course.logs.items l.course.logs.items
      (moment (g.A.Door.view l.fn.door) l.fn.course.count (map (λ r. open_link r.number (g.V.Visitor.seen_of r.child.promise.came.value)) l.fn.course.live.items))
      (moment (g.A.Door.view l.door) l.course.count (map (λ r. open_link r.number (g.V.Visitor.seen_of r.child.promise.came.value)) l.course.live.items));
  same : l.course.count ≡ l.fn.course.count;
}

abbrev pub decreases-loop-door : goal.decreases-loop-door
decreases-loop-door g l = length l.course.live.items
