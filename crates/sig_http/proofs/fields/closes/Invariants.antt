use Rattle.std.proofs.Common.{◌≡◌, drop}
use Rattle.sig_http.specs.Fields.{fields_at, closes}
use Rattle.sig_http.proofs.fields.closes.Given as goal

abbrev pub invariant-loop-header : goal.invariant-loop-header
invariant-loop-header l = closes (fields_at l.bytes l.headers) ≡ closes (fields_at l.bytes (drop l.header-index l.headers))
