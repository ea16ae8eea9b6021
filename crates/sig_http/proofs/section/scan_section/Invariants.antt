use Rattle.std.proofs.Common.{◌≡◌, ◌≤◌, ◌+◌, drop}
use Rattle.sig_json.specs.declared.limits.TheConstants.{HEAD_BYTES}
use Rattle.sig_http.specs.Section.{section_from}
use Rattle.sig_http.proofs.section.scan_section.Given as goal

abbrev pub invariant-loop-byte : goal.invariant-loop-byte
invariant-loop-byte l = record {
  told : section_from l.fn.from l.bytes ≡ section_from l.scan (drop l.byte-index l.bytes);
  counted : l.scan.bytes ≡ l.fn.from.bytes + l.byte-index;
  within : l.scan.bytes ≤ HEAD_BYTES;
}
