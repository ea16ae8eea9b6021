use Rattle.std.proofs.Common.{◌≡◌, drop}
use Rattle.std.specs.List.{list_any}
use Rattle.sig_subject.specs.Matching.{is_identical}
use Rattle.sig_terms.proofs.fitting.lists_identical.Given as goal

abbrev pub invariant-loop-other : goal.invariant-loop-other
invariant-loop-other l = list_any (is_identical l.subject) l.listed ≡ list_any (is_identical l.subject) (drop l.other-index l.listed)
