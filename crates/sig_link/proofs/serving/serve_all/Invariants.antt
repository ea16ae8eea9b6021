use Rattle.std.proofs.Common.{◌≡◌, ◌≤◌, ◌-◌}
use Rattle.sig_json.specs.declared.limits.TheConstants.{REQUESTS_PER_LINK}
use Rattle.sig_serving.specs.Line.{seen}
use Rattle.sig_link.specs.Serving.{Standing}
use Rattle.sig_link.specs.Work.{moment_of}
use Rattle.sig_link.proofs.serving.serve_all.Given as goal

abbrev pub invariant-loop-work : goal.invariant-loop-work
invariant-loop-work g l = record {
  few : l.work.answered ≤ REQUESTS_PER_LINK;
  link : l.work.link ≡ l.fn.work.link;
  place : g.L.Link.dialled l.stream ≡ g.L.Link.dialled l.fn.stream;
  standing : Standing g.E.End.meaning l.rules l.fn.work.link l.work.answered
      (moment_of l.fn.work (seen g.L.Source.left g.L.Sink.written g.L.Source.faults g.L.Sink.faults l.fn.stream) (g.S.Side.view l.fn.side) (g.E.End.told l.fn.taker))
      (moment_of l.work (seen g.L.Source.left g.L.Sink.written g.L.Source.faults g.L.Sink.faults l.stream) (g.S.Side.view l.side) (g.E.End.told l.taker));
}

abbrev pub decreases-loop-work : goal.decreases-loop-work
decreases-loop-work g l = REQUESTS_PER_LINK - l.work.answered
