use Rattle.std.proofs.Common.{◌∙◌, ◌+◌, ◌++◌, refl, sym, subst, ap, List, length, Result, Err, append-nil}
use Rattle.std.specs.Option.{option_to_list}
use Rattle.sig_terms.specs.declared.answer.Answer.{Answer}
use Rattle.sig_terms.specs.declared.call.Call.{Call}
use Rattle.sig_terms.specs.declared.fact.Fact.{Fact}
use Rattle.sig_calls.specs.Table.{change_of}
use Rattle.sig_journal.specs.declared.node_fault.NodeFault.{NodeFault}
use Rattle.sig_journal.specs.declared.node_fault.NodeFault.TheVariants.{Memory}
use Rattle.sig_txnode.specs.declared.turn.Turn.{Turn}
use Rattle.sig_txnode.specs.Answering.{Answered, answer_at, when_ok}
use Rattle.sig_txnode.specs.Taken.{Lasts, Refused}
use Rattle.sig_txnode.specs.Turns.{with_turn}
use Rattle.sig_txnode.proofs.AnswerLemmas.{memory_answer}
use Rattle.sig_txnode.proofs.CarryLemmas.{lasts_idle, refused_idle}
use Rattle.sig_txnode.proofs.keeping.take_turn.Goals as goal

pub returns-in-Ok-clause-answered : goal.returns-in-Ok-clause-answered
returns-in-Ok-clause-answered g c =
    let sum = c.args.held.now.outbox.sum in
    subst (λ (k : Call). Answered (answer_at c.args.rules.now sum c.args.held.now.store.journal.end k c.args.time) (change_of c.args.rules.now sum k c.args.time) c.args.held.now.store.broken_at sum c.keep_turn.new.held.outbox.sum c.keep_turn.result.result)
    c.in-Ok.ensures.copied c.keep_turn.ensures.answered

pub returns-in-Ok-clause-turns : goal.returns-in-Ok-clause-turns
returns-in-Ok-clause-turns g c =
    c.keep_turn.ensures.turns ∙ ap (λ (l : List Turn). with_turn l c.args.link c.in-Ok.asked c.args.time c.keep_turn.result.result) c.make_room.ensures.turns
    ∙ ap (λ (k : Call). with_turn c.args.held.now.turns.items c.args.link k c.args.time c.keep_turn.result.result) c.in-Ok.ensures.copied

pub returns-in-Ok-clause-turn : goal.returns-in-Ok-clause-turn
returns-in-Ok-clause-turn g c =
    c.keep_turn.ensures.turn ∙ ap (λ (l : List Turn). l ++ option_to_list c.keep_turn.result.turn) c.make_room.ensures.turns

pub returns-in-Ok-clause-entries : goal.returns-in-Ok-clause-entries
returns-in-Ok-clause-entries g c =
    let change = λ (k : Call). option_to_list (when_ok c.keep_turn.result.result (change_of c.args.rules.now c.args.held.now.outbox.sum k c.args.time)) in
    c.keep_turn.ensures.entries ∙ ap (λ (l : List Fact). l ++ change c.in-Ok.asked) c.make_room.ensures.entries
    ∙ ap (λ (k : Call). c.args.held.now.entries.items ++ change k) c.in-Ok.ensures.copied

pub returns-in-Ok-clause-stands : goal.returns-in-Ok-clause-stands
returns-in-Ok-clause-stands g c = c.keep_turn.ensures.stands

pub returns-in-Ok-clause-lasts : goal.returns-in-Ok-clause-lasts
returns-in-Ok-clause-lasts g c =
    let D = g.D.Disk in
    let sum = c.args.held.now.outbox.sum in
    subst (λ (k : Call). Lasts D.told D.seen D.may_leave D.moment D.left_since D.stop D.short c.args.held.now.store c.keep_turn.new.held.store sum (change_of c.args.rules.now sum k c.args.time) c.keep_turn.result.result)
    c.in-Ok.ensures.copied c.keep_turn.ensures.lasts

pub returns-in-Ok-clause-refused : goal.returns-in-Ok-clause-refused
returns-in-Ok-clause-refused g c =
    subst (λ (l : List Turn). Refused g.D.Disk.faults c.args.held.now.store c.keep_turn.new.held.store (length l + 1) c.keep_turn.result.result) c.make_room.ensures.turns c.keep_turn.ensures.refused

pub returns-in-Err-clause-answered : goal.returns-in-Err-clause-answered
returns-in-Err-clause-answered g c =
    record { answer = memory_answer c.args.held.now.store.broken_at (answer_at c.args.rules.now c.args.held.now.outbox.sum c.args.held.now.store.journal.end c.args.call.now c.args.time); state = refl }

pub returns-in-Err-clause-turns : goal.returns-in-Err-clause-turns
returns-in-Err-clause-turns g c = c.make_room.ensures.turns

pub returns-in-Err-clause-turn : goal.returns-in-Err-clause-turn
returns-in-Err-clause-turn g c = c.make_room.ensures.turns ∙ sym (append-nil c.args.held.now.turns.items)

pub returns-in-Err-clause-entries : goal.returns-in-Err-clause-entries
returns-in-Err-clause-entries g c = c.make_room.ensures.entries ∙ sym (append-nil c.args.held.now.entries.items)

pub returns-in-Err-clause-stands : goal.returns-in-Err-clause-stands
returns-in-Err-clause-stands g c = c.requires.stands

pub returns-in-Err-clause-lasts : goal.returns-in-Err-clause-lasts
returns-in-Err-clause-lasts g c =
    let D = g.D.Disk in
    let sum = c.args.held.now.outbox.sum in
    let result : Result Answer NodeFault = Err Memory in
    lasts_idle D.told D.seen D.may_leave D.moment D.left_since D.stop D.short g.met.D.Disk.only_now c.args.held.now.store sum (change_of c.args.rules.now sum c.args.call.now c.args.time) result
    c.broken_at.ensures.stored c.requires.stands tt (λ whole carried. absurd carried)

pub returns-in-Err-clause-refused : goal.returns-in-Err-clause-refused
returns-in-Err-clause-refused g c =
    let result : Result Answer NodeFault = Err Memory in
    refused_idle g.D.Disk.faults c.args.held.now.store (length c.args.held.now.turns.items + 1) result (λ is. absurd cc)
