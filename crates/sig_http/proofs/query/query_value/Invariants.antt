use Rattle.std.proofs.Common.{◌≡◌}
use Rattle.form_urlencoded.specs.Form.{raw_pairs}
use Rattle.form_urlencoded.specs.Parse.{raw_pairs_left}
use Rattle.sig_http.specs.Query.{first_named}
use Rattle.sig_http.proofs.query.query_value.Given as goal

abbrev pub invariant-loop-key : goal.invariant-loop-key
invariant-loop-key l = first_named l.fn.name (raw_pairs l.fn.query) ≡ first_named l.fn.name (raw_pairs_left l.key-iterator)
