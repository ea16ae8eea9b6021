use Rattle.std.proofs.Common.{◌≡◌, ◌≤◌, ◌-◌, ◌+◌, length, drop, max}
use Rattle.sig_json.specs.declared.limits.TheConstants.{HEAD_BYTES}
use Rattle.sig_http.specs.declared.limits.TheConstants.{PIECE_BYTES}
use Rattle.sig_http.specs.Taking.{DrawsWhile, IsOpenSection}
use Rattle.sig_http.specs.Section.{start, section_from}
use Rattle.sig_http.proofs.reading.take_section.Given as goal

abbrev pub invariant-pieces : goal.invariant-pieces
invariant-pieces g l = record {
  awaits : DrawsWhile IsOpenSection l.fn.held.items l.held.items (g.S.Source.left l.fn.source) (g.S.Source.left l.source);
  told : section_from start l.held.items ≡ section_from l.scan (drop l.judged l.held.items);
  counted : l.scan.bytes ≡ l.judged;
  judged : l.judged ≤ length l.held.items;
  few : length l.held.items ≤ l.judged + max (length l.fn.held.items) PIECE_BYTES;
  within : l.scan.bytes ≤ HEAD_BYTES;
  beside : g.S.Source.beside l.source ≡ g.S.Source.beside l.fn.source;
  steady : g.S.Source.faults l.source ≡ g.S.Source.faults l.fn.source;
}

abbrev pub decreases-pieces : goal.decreases-pieces
decreases-pieces g l = HEAD_BYTES - l.scan.bytes + (1 - (length l.held.items - l.judged))
