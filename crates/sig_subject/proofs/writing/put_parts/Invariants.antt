use Rattle.std.proofs.Common.{◌≡◌, drop, map}
use Rattle.serde_json.specs.View.{members_view}
use Rattle.sig_subject.specs.Written.{part_data, put_all}
use Rattle.sig_subject.proofs.writing.put_parts.Given as goal

abbrev pub invariant-loop-part : goal.invariant-loop-part
invariant-loop-part l = put_all (members_view l.initial.members.entries) (map part_data l.parts) ≡ put_all (members_view l.members.entries) (map part_data (drop l.part-index l.parts))
