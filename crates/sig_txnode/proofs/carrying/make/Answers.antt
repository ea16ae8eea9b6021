use Rattle.std.proofs.Common.{◌≡◌, refl, sym, subst, ap, inr, Option, Some, None, Result, Ok, Err}
use Rattle.std.specs.Prelude.{⊤, option_map}
use Rattle.sig_terms.specs.declared.answer.Answer.{Answer}
use Rattle.sig_terms.specs.declared.fact.Fact.{Fact}
use Rattle.sig_journal.specs.declared.node_fault.NodeFault.{NodeFault}
use Rattle.sig_txnode.specs.declared.plan.Change.{Change}
use Rattle.sig_txnode.specs.Answering.{Answered, where_room}
use Rattle.sig_txnode.specs.Planned.{fact_in}
use Rattle.sig_txnode.specs.Taken.{Lasts}
use Rattle.sig_txnode.proofs.CarryLemmas.{carried_same, lasts_same, room_err, room_ok}
use Rattle.sig_txnode.proofs.carrying.make.Goals as goal

pub returns-in-Ok-clause-answered : goal.returns-in-Ok-clause-answered
returns-in-Ok-clause-answered g c =
    let end = c.args.store.now.journal.end in
    let answer = c.args.plan.answer in
    let fact = c.in-Some.change.prepared.fact in
    let is : fact_in c.args.plan ≡ Some fact = ap (option_map (λ (ch : Change). ch.prepared.fact)) c.in-Some.is in
    subst (λ (o : Option Fact). Answered (where_room end answer o) o None c.args.outbox.now.sum c.carry.new.outbox.sum (Ok answer)) (sym is)
    (record { answer = inr (inr (sym (room_ok end fact answer c.in-Ok.field-0 c.in-Ok.ensures.full))); state = c.in-Ok.ensures.state })

pub returns-in-Ok-clause-lasts : goal.returns-in-Ok-clause-lasts
returns-in-Ok-clause-lasts g c =
    let D = g.D.Disk in
    let old = c.args.store.now in
    let new = c.carry.new.store in
    let before = c.args.outbox.now.sum in
    let fact = c.in-Some.change.prepared.fact in
    let is : fact_in c.args.plan ≡ Some fact = ap (option_map (λ (ch : Change). ch.prepared.fact)) c.in-Some.is in
    let call : Result ⊤ NodeFault = Ok c.in-Ok.field-0 in
    let result : Result Answer NodeFault = Ok c.args.plan.answer in
    subst (λ (o : Option Fact). Lasts D.told D.seen D.may_leave D.moment D.left_since D.stop D.short old new before o result) (sym is)
    (lasts_same D.told D.seen D.may_leave D.moment D.left_since D.stop D.short old new before (Some fact) call result refl (λ _. tt) c.in-Ok.ensures.lasts)

pub returns-clause-answered : goal.returns-clause-answered
returns-clause-answered g c =
    let end = c.args.store.now.journal.end in
    let answer = c.args.plan.answer in
    let fact = c.in-Some.change.prepared.fact in
    let is : fact_in c.args.plan ≡ Some fact = ap (option_map (λ (ch : Change). ch.prepared.fact)) c.in-Some.is in
    subst (λ (o : Option Fact). Answered (where_room end answer o) o None c.args.outbox.now.sum c.carry.new.outbox.sum (Err c.in-Err.fault)) (sym is)
    (record { answer = room_err end fact answer c.in-Err.fault c.in-Err.ensures.full; state = c.in-Err.ensures.state })

pub returns-clause-lasts : goal.returns-clause-lasts
returns-clause-lasts g c =
    let D = g.D.Disk in
    let old = c.args.store.now in
    let new = c.carry.new.store in
    let before = c.args.outbox.now.sum in
    let fact = c.in-Some.change.prepared.fact in
    let is : fact_in c.args.plan ≡ Some fact = ap (option_map (λ (ch : Change). ch.prepared.fact)) c.in-Some.is in
    let call : Result ⊤ NodeFault = Err c.in-Err.fault in
    let result : Result Answer NodeFault = Err c.in-Err.fault in
    subst (λ (o : Option Fact). Lasts D.told D.seen D.may_leave D.moment D.left_since D.stop D.short old new before o result) (sym is)
    (lasts_same D.told D.seen D.may_leave D.moment D.left_since D.stop D.short old new before (Some fact) call result refl (carried_same Answer ⊤ c.in-Err.fault) c.in-Err.ensures.lasts)
