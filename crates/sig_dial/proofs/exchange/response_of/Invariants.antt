use Rattle.std.proofs.Common.{◌≡◌, ◌≤◌, ◌+◌, ◌-◌, ◌*◌}
use Rattle.sig_dial.specs.declared.limits.TheConstants.{INTERIM_RESPONSES}
use Rattle.sig_json.specs.declared.limits.TheConstants.{RESPONSE_BODY_BYTES}
use Rattle.sig_http.specs.Taking.{TakesAtMost, taken_bytes}
use Rattle.sig_dial.proofs.ExchangeLemmas.{PassedOf}
use Rattle.sig_dial.proofs.StoppingLemmas.{StopsOf}
use Rattle.sig_dial.proofs.exchange.response_of.Given as goal

abbrev pub invariant-loop-passed : goal.invariant-loop-passed
invariant-loop-passed g l = record {
  few : l.passed ≤ INTERIM_RESPONSES + 1;
  passed : PassedOf l.passed (g.L.Source.left l.fn.link) l.kept (g.L.Source.left l.link);
  stops : StopsOf (g.L.Source.left l.fn.link) (g.L.Source.left l.link);
  most : TakesAtMost (l.passed * taken_bytes RESPONSE_BODY_BYTES) (g.L.Source.left l.fn.link) (g.L.Source.left l.link);
  reads : g.L.Source.faults l.link ≡ g.L.Source.faults l.fn.link;
  puts : g.L.Sink.faults l.link ≡ g.L.Sink.faults l.fn.link;
  writes : g.L.Sink.written l.link ≡ g.L.Sink.written l.fn.link;
  place : g.L.Link.dialled l.link ≡ g.L.Link.dialled l.fn.link;
}

abbrev pub decreases-loop-passed : goal.decreases-loop-passed
decreases-loop-passed g l = INTERIM_RESPONSES + 1 - l.passed
