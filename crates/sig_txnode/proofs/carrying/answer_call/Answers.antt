use Rattle.std.proofs.Common.{◌≡◌, sym, subst, ap, rules, ℕ, Option, None, Result, Ok, Err, IfOk}
use Rattle.sig_terms.specs.declared.answer.Answer.{Answer}
use Rattle.sig_terms.specs.declared.fact.Fact.{Fact}
use Rattle.sig_calls.specs.Table.{change_of, prepared_of}
use Rattle.sig_journal.specs.declared.node_fault.NodeFault.{NodeFault}
use Rattle.sig_txnode.specs.Answering.{IsAnswered, answer_at, answer_with, where_room}
use Rattle.sig_txnode.specs.Given.{KeepsChange, answer_in}
use Rattle.sig_txnode.specs.Planned.{fact_in, reply_with}
use Rattle.sig_txnode.proofs.AnswerLemmas.{answered_as, not_store, planned_reply, refused_answer, reply_change}
use Rattle.sig_txnode.proofs.CarryLemmas.{carried_store, lasts_as, lasts_idle}
use Rattle.sig_txnode.proofs.carrying.answer_call.Goals as goal

pub returns-in-Ok-clause-answered : goal.returns-in-Ok-clause-answered
returns-in-Ok-clause-answered g c =
    let sum = c.args.outbox.now.sum in
    let end = c.args.store.now.journal.end in
    let plan = c.in-Ok.plan in
    let whole : c.args.store.now.broken_at ≡ None = search rules in
    let is : prepared_of c.args.rules.now sum c.args.call.now c.args.now ≡ Ok (reply_with plan) =
    planned_reply (prepared_of c.args.rules.now sum c.args.call.now c.args.now) (reply_with plan) c.in-Ok.ensures.answers in
    answered_as (answer_at c.args.rules.now sum end c.args.call.now c.args.now) (where_room end plan.answer (fact_in plan)) (change_of c.args.rules.now sum c.args.call.now c.args.now) (fact_in plan)
    c.args.store.now.broken_at sum c.plan_for.new.outbox.sum c.make.new.outbox.sum (answer_in c.make.result)
    (ap (answer_with end) is) (reply_change c.args.rules.now sum c.args.call.now c.args.now (reply_with plan) is) whole c.plan_for.ensures.state c.make.ensures.answered

pub returns-in-Ok-clause-given : goal.returns-in-Ok-clause-given
returns-in-Ok-clause-given g c =
    let sum = c.args.outbox.now.sum in
    let plan = c.in-Ok.plan in
    let is : prepared_of c.args.rules.now sum c.args.call.now c.args.now ≡ Ok (reply_with plan) =
    planned_reply (prepared_of c.args.rules.now sum c.args.call.now c.args.now) (reply_with plan) c.in-Ok.ensures.answers in
    subst (λ (o : Option Fact). IfOk c.make.result (KeepsChange o)) (sym (reply_change c.args.rules.now sum c.args.call.now c.args.now (reply_with plan) is)) c.make.ensures.given

pub returns-in-Err-clause-lasts : goal.returns-in-Err-clause-lasts
returns-in-Err-clause-lasts g c =
    let D = g.D.Disk in
    let sum = c.args.outbox.now.sum in
    let result : Result Answer NodeFault = Err c.in-Err.fault in
    lasts_idle D.told D.seen D.may_leave D.moment D.left_since D.stop D.short g.met.D.Disk.only_now c.args.store.now sum (change_of c.args.rules.now sum c.args.call.now c.args.now) result
    c.broken_at.ensures.stored c.requires.stands tt
    (λ whole carried. absurd (carried_store Answer c.in-Err.fault (not_store (prepared_of c.args.rules.now sum c.args.call.now c.args.now) c.in-Err.fault c.in-Err.ensures.answers) carried))

pub returns-in-Ok-clause-stands : goal.returns-in-Ok-clause-stands
returns-in-Ok-clause-stands g c = c.make.ensures.stands

pub returns-in-Ok-clause-lasts : goal.returns-in-Ok-clause-lasts
returns-in-Ok-clause-lasts g c =
    let D = g.D.Disk in
    let sum = c.args.outbox.now.sum in
    let plan = c.in-Ok.plan in
    let is : prepared_of c.args.rules.now sum c.args.call.now c.args.now ≡ Ok (reply_with plan) =
    planned_reply (prepared_of c.args.rules.now sum c.args.call.now c.args.now) (reply_with plan) c.in-Ok.ensures.answers in
    lasts_as D.told D.seen D.may_leave D.moment D.left_since D.stop D.short c.args.store.now c.make.new.store sum c.plan_for.new.outbox.sum (change_of c.args.rules.now sum c.args.call.now c.args.now) (fact_in plan) (answer_in c.make.result)
    (reply_change c.args.rules.now sum c.args.call.now c.args.now (reply_with plan) is) c.plan_for.ensures.state c.make.ensures.lasts

pub returns-in-Ok-clause-refused : goal.returns-in-Ok-clause-refused
returns-in-Ok-clause-refused g c = c.make.ensures.refused

pub returns-in-Err-clause-answered : goal.returns-in-Err-clause-answered
returns-in-Err-clause-answered g c =
    let sum = c.args.outbox.now.sum in
    let end = c.args.store.now.journal.end in
    let whole : c.args.store.now.broken_at ≡ None = search rules in
    record {
      answer = subst (λ (b : Option ℕ). IsAnswered b (answer_at c.args.rules.now sum end c.args.call.now c.args.now) (Err c.in-Err.fault)) (sym whole)
          (refused_answer end (prepared_of c.args.rules.now sum c.args.call.now c.args.now) c.in-Err.fault c.in-Err.ensures.answers);
      state = c.plan_for.ensures.state;
    }
