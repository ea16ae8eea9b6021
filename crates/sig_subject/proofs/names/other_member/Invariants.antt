use Rattle.std.proofs.Common.{◌≡◌, map}
use Rattle.serde_json.specs.View.{members_view}
use Rattle.sig_subject.specs.Reading.{other_in}
use Rattle.sig_subject.proofs.names.other_member.Given as goal

abbrev pub invariant-loop-name : goal.invariant-loop-name
invariant-loop-name l = other_in (map (λ n. n.now) l.names) (members_view l.members.entries) ≡ other_in (map (λ n. n.now) l.names) (members_view l.name-iterator)
