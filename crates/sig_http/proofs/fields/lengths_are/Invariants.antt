use Rattle.std.proofs.Common.{◌≡◌, drop}
use Rattle.sig_http.specs.Fields.{fields_at, lengths_are}
use Rattle.sig_http.proofs.fields.lengths_are.Given as goal

abbrev pub invariant-loop-header : goal.invariant-loop-header
invariant-loop-header l = lengths_are l.first (fields_at l.bytes l.headers) ≡ lengths_are l.first (fields_at l.bytes (drop l.header-index l.headers))
