use Rattle.serde_json.specs.View.{members_view}
use Rattle.sig_subject.proofs.Deciding.{Reads}
use Rattle.sig_subject.specs.Reading.{part_by, part_checks}
use Rattle.sig_subject.specs.Subjects.{parts_of}
use Rattle.sig_subject.proofs.reading.parts_from.Given as goal

abbrev pub invariant-loop-name : goal.invariant-loop-name
invariant-loop-name l = Reads part_checks part_by (parts_of (members_view l.members.entries)) (parts_of (members_view l.name-iterator)) l.out.items
