use Rattle.std.proofs.Common.{Result, Ok, Err, refl}
use Rattle.sig_receiver.specs.declared.heard.Heard.{Heard}
use Rattle.sig_receiver.specs.Receiver.{received}
use Rattle.sig_journal.specs.declared.node_fault.NodeFault.{NodeFault}
use Rattle.sig_rxnode.specs.declared.journalled.Told.{Told}
use Rattle.sig_rxnode.specs.Answers.{heard_answer}
use Rattle.sig_rxnode.specs.Parts.{holding_of}
use Rattle.sig_rxnode.proofs.Hearing.{causes_over, writes_over}
use Rattle.sig_rxnode.proofs.Mapping.{causes_map, same_texts, writes_map}
use Rattle.sig_rxnode.proofs.journalled.Journalled.hear_twice.Goals as goal

pub returns-in-Ok-clause-writes : goal.returns-in-Ok-clause-writes
returns-in-Ok-clause-writes g c =
    let D = g.D.Disk in
    let told : Heard → Told = λ h. record { answer = c.of.result; copy = c.of-in-Ok.result } in
    let call : Result Heard NodeFault = Ok c.in-Ok.heard in
    writes_over _ _ (holding_of c.args.self.now) (holding_of c.args.self.now) (holding_of c.hear.new.self) (same_texts c.args.trust.now _ _ _ _ (received c.args.self.now.receiver) _ _ c.as_ref.ensures.value c.as_ref-2.ensures.value c.as_slice.ensures) refl _
    D.told D.seen D.may_leave D.moment D.left_since D.stop D.short
    (writes_map _ (holding_of c.args.self.now) (holding_of c.hear.new.self) told D.told D.seen D.may_leave D.moment D.left_since D.stop D.short call c.in-Ok.ensures.writes)

pub returns-in-Ok-clause-causes : goal.returns-in-Ok-clause-causes
returns-in-Ok-clause-causes g c =
    let D = g.D.Disk in
    let told : Heard → Told = λ h. record { answer = c.of.result; copy = c.of-in-Ok.result } in
    let call : Result Heard NodeFault = Ok c.in-Ok.heard in
    causes_over _ _ (holding_of c.args.self.now) (holding_of c.args.self.now) (holding_of c.hear.new.self) (same_texts c.args.trust.now _ _ _ _ (received c.args.self.now.receiver) _ _ c.as_ref.ensures.value c.as_ref-2.ensures.value c.as_slice.ensures) refl _
    D.faults c.args.turn
    (causes_map _ (holding_of c.args.self.now) (holding_of c.hear.new.self) told D.faults c.args.turn call c.in-Ok.ensures.causes)

pub returns-in-Err-clause-writes : goal.returns-in-Err-clause-writes
returns-in-Err-clause-writes g c =
    let D = g.D.Disk in
    let told : Heard → Told = λ h. record { answer = heard_answer h; copy = heard_answer h } in
    let call : Result Heard NodeFault = Err c.in-Err.fault in
    writes_over _ _ (holding_of c.args.self.now) (holding_of c.args.self.now) (holding_of c.hear.new.self) (same_texts c.args.trust.now _ _ _ _ (received c.args.self.now.receiver) _ _ c.as_ref.ensures.value c.as_ref-2.ensures.value c.as_slice.ensures) refl _
    D.told D.seen D.may_leave D.moment D.left_since D.stop D.short
    (writes_map _ (holding_of c.args.self.now) (holding_of c.hear.new.self) told D.told D.seen D.may_leave D.moment D.left_since D.stop D.short call c.in-Err.ensures.writes)

pub returns-in-Err-clause-causes : goal.returns-in-Err-clause-causes
returns-in-Err-clause-causes g c =
    let D = g.D.Disk in
    let told : Heard → Told = λ h. record { answer = heard_answer h; copy = heard_answer h } in
    let call : Result Heard NodeFault = Err c.in-Err.fault in
    causes_over _ _ (holding_of c.args.self.now) (holding_of c.args.self.now) (holding_of c.hear.new.self) (same_texts c.args.trust.now _ _ _ _ (received c.args.self.now.receiver) _ _ c.as_ref.ensures.value c.as_ref-2.ensures.value c.as_slice.ensures) refl _
    D.faults c.args.turn
    (causes_map _ (holding_of c.args.self.now) (holding_of c.hear.new.self) told D.faults c.args.turn call c.in-Err.ensures.causes)
