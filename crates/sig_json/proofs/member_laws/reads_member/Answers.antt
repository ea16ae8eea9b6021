use Rattle.sig_json.proofs.ReadsMember.{reads_member}
use Rattle.sig_json.proofs.member_laws.reads_member.Goals as goal

pub returns : goal.returns
returns c = reads_member
