use Rattle.std.proofs.Common.{◌≡◌, ◌++◌, false}
use Rattle.serde_json.specs.Written.{members_text}
use Rattle.sig_delivery.specs.Entries.{signed_entries}
use Rattle.sig_delivery.specs.Sets.{listed_members}
use Rattle.sig_delivery.proofs.sets_writing.add_members.Given as goal

abbrev pub invariant-loop-jti : goal.invariant-loop-jti
invariant-loop-jti l =
    l.text ++ members_text l.later (listed_members (signed_entries l.header l.key.bytes l.jti-iterator))
    ≡ l.fn.text ++ members_text false (listed_members (signed_entries l.header l.key.bytes l.payloads.entries))
