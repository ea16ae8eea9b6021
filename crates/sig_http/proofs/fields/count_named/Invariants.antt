use Rattle.std.proofs.Common.{◌≡◌, ◌≤◌, ◌+◌, drop}
use Rattle.std.specs.List.{count_by}
use Rattle.sig_http.specs.Fields.{fields_at, is_named}
use Rattle.sig_http.proofs.fields.count_named.Given as goal

abbrev pub invariant-loop-header : goal.invariant-loop-header
invariant-loop-header l = record {
  value : count_by (is_named l.name) (fields_at l.bytes l.headers) ≡ l.count + count_by (is_named l.name) (fields_at l.bytes (drop l.header-index l.headers));
  bound : l.count ≤ l.header-index;
}
