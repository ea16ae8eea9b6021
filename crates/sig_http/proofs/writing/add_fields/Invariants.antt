use Rattle.std.proofs.Common.{◌≡◌, ◌++◌, drop}
use Rattle.sig_http.specs.Spelling.{field_lines}
use Rattle.sig_http.proofs.writing.add_fields.Given as goal

abbrev pub invariant-loop-header : goal.invariant-loop-header
invariant-loop-header l = l.text ++ field_lines (drop l.header-index l.headers) ≡ l.fn.text ++ field_lines l.headers
