use Rattle.std.proofs.Common.{◌≡◌}
use Rattle.serde_json.specs.View.{members_view}
use Rattle.sig_subject.specs.Reading.{has_part}
use Rattle.sig_subject.specs.Subjects.{parts_of}
use Rattle.sig_subject.proofs.names.has_one_part.Given as goal

abbrev pub invariant-loop-part : goal.invariant-loop-part
invariant-loop-part l = has_part (parts_of (members_view l.members.entries)) ≡ has_part (parts_of (members_view l.part-iterator))
