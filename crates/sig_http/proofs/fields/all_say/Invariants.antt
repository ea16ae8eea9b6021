use Rattle.std.proofs.Common.{◌≡◌, drop}
use Rattle.sig_http.specs.Fields.{fields_at, all_say}
use Rattle.sig_http.proofs.fields.all_say.Given as goal

abbrev pub invariant-loop-header : goal.invariant-loop-header
invariant-loop-header l = all_say l.name l.word (fields_at l.bytes l.headers) ≡ all_say l.name l.word (fields_at l.bytes (drop l.header-index l.headers))
