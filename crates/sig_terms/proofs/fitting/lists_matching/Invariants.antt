use Rattle.std.proofs.Common.{◌≡◌, drop}
use Rattle.std.specs.List.{list_any}
use Rattle.sig_subject.specs.Matching.{is_matching}
use Rattle.sig_terms.proofs.fitting.lists_matching.Given as goal

abbrev pub invariant-loop-other : goal.invariant-loop-other
invariant-loop-other l = list_any (is_matching l.subject) l.listed ≡ list_any (is_matching l.subject) (drop l.other-index l.listed)
