use Rattle.std.proofs.Common.{◌≡◌, ◌≤◌, ◌-◌, ◌++◌, length, map, drop}
use Rattle.sig_subject.specs.declared.member.Member.{Member}
use Rattle.sig_sessions.specs.Keys.{entries_at, part_key}
use Rattle.sig_sessions.proofs.keys.put_parts.Given as goal

abbrev pub invariant-loop-member : goal.invariant-loop-member
invariant-loop-member l = record {
  room : length l.members - l.member-index ≤ l.places.room;
  rest : l.places.entries ++ entries_at l.place (map (λ (m : Member). part_key m.simple) (drop l.member-index l.members))
      ≡ l.fn.places.entries ++ entries_at l.place (map (λ (m : Member). part_key m.simple) l.members);
}
