use Rattle.std.proofs.Common.{◌≡◌, drop}
use Rattle.sig_http.specs.Fields.{fields_at, first_value}
use Rattle.sig_http.proofs.fields.first_value.Given as goal

abbrev pub invariant-loop-header : goal.invariant-loop-header
invariant-loop-header l = first_value l.name (fields_at l.bytes l.headers) ≡ first_value l.name (fields_at l.bytes (drop l.header-index l.headers))
