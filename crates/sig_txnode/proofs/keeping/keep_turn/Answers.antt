use Rattle.std.proofs.Common.{◌∙◌, ◌++◌, sym, subst, ap, ℕ, Option, Result, Ok, Err, append-nil}
use Rattle.std.specs.Option.{option_to_list}
use Rattle.sig_terms.specs.declared.answer.Answer.{Answer}
use Rattle.sig_terms.specs.declared.fact.Fact.{Fact}
use Rattle.sig_journal.specs.declared.node_fault.NodeFault.{NodeFault}
use Rattle.sig_txnode.specs.Taken.{Refused}
use Rattle.sig_txnode.specs.Turns.{with_turn}
use Rattle.sig_txnode.proofs.keeping.keep_turn.Goals as goal

pub returns-in-Ok-clause-answered : goal.returns-in-Ok-clause-answered
returns-in-Ok-clause-answered g c = c.in-Ok.ensures.answered

pub returns-in-Ok-clause-turns : goal.returns-in-Ok-clause-turns
returns-in-Ok-clause-turns g c =
    c.put_turn.ensures.turns ∙ ap (λ (a : Answer). with_turn c.args.held.now.turns.items c.args.link c.args.call c.args.time (Ok a)) c.in-Ok.ensures.given.answer

pub returns-in-Ok-clause-turn : goal.returns-in-Ok-clause-turn
returns-in-Ok-clause-turn g c = c.put_turn.ensures.turn

pub returns-in-Ok-clause-entries : goal.returns-in-Ok-clause-entries
returns-in-Ok-clause-entries g c =
    c.keep_entry.ensures ∙ ap (λ (o : Option Fact). c.args.held.now.entries.items ++ option_to_list o) c.in-Ok.ensures.given.entry

pub returns-in-Ok-clause-stands : goal.returns-in-Ok-clause-stands
returns-in-Ok-clause-stands g c = c.answer_call.ensures.stands

pub returns-in-Ok-clause-lasts : goal.returns-in-Ok-clause-lasts
returns-in-Ok-clause-lasts g c = c.in-Ok.ensures.lasts

pub returns-in-Ok-clause-refused : goal.returns-in-Ok-clause-refused
returns-in-Ok-clause-refused g c =
    let result : Result Answer NodeFault = Ok c.in-Ok.given.answer in
    subst (λ (n : ℕ). Refused g.D.Disk.faults c.args.held.now.store c.answer_call.new.store n result) c.next_number-number.ensures c.in-Ok.ensures.refused

pub returns-in-Err-clause-answered : goal.returns-in-Err-clause-answered
returns-in-Err-clause-answered g c = c.in-Err.ensures.answered

pub returns-in-Err-clause-turns : goal.returns-in-Err-clause-turns
returns-in-Err-clause-turns g c = c.put_turn-in-Err.ensures.turns

pub returns-in-Err-clause-turn : goal.returns-in-Err-clause-turn
returns-in-Err-clause-turn g c = c.put_turn-in-Err.ensures.turn

pub returns-in-Err-clause-entries : goal.returns-in-Err-clause-entries
returns-in-Err-clause-entries g c = sym (append-nil c.args.held.now.entries.items)

pub returns-in-Err-clause-stands : goal.returns-in-Err-clause-stands
returns-in-Err-clause-stands g c = c.answer_call.ensures.stands

pub returns-in-Err-clause-lasts : goal.returns-in-Err-clause-lasts
returns-in-Err-clause-lasts g c = c.in-Err.ensures.lasts

pub returns-in-Err-clause-refused : goal.returns-in-Err-clause-refused
returns-in-Err-clause-refused g c =
    let result : Result Answer NodeFault = Err c.in-Err.fault in
    subst (λ (n : ℕ). Refused g.D.Disk.faults c.args.held.now.store c.answer_call.new.store n result) c.next_number-number.ensures c.in-Err.ensures.refused
