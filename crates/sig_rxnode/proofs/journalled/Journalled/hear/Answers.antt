use Rattle.std.proofs.Common.{◌≡◌, ◌∙◌, ap, sym, subst, ℕ, List, [], ◌∷◌, Result, Ok, Err, option_copied}
use Rattle.std.proofs.Common.{rules}
use Rattle.std.specs.Prelude.{⊤, is_some}
use Rattle.sig_receiver.specs.declared.heard.Heard.{Heard}
use Rattle.sig_receiver.specs.Receiver.{Received, received}
use Rattle.sig_journal.specs.declared.node_fault.NodeFault.{NodeFault}
use Rattle.sig_rxnode.specs.Answers.{heard_texts}
use Rattle.sig_rxnode.specs.Holding.{Holding}
use Rattle.sig_rxnode.specs.Journals.{Causes, Writes}
use Rattle.sig_rxnode.specs.Parts.{holding_of}
use Rattle.sig_rxnode.proofs.Hearing.{causes_over, heard_step, heard_text, writes_over}
use Rattle.sig_rxnode.proofs.Mapping.{causes_map, writes_map}
use Rattle.sig_rxnode.proofs.journalled.Journalled.hear.Goals as goal

pub journal-requires-clause-step : goal.journal-requires-clause-step
journal-requires-clause-step g c =
    heard_step c.args.trust.now (option_copied c.args.principal) (option_copied c.args.named) (received c.args.self.now.receiver) c.args.text.now c.in_ok-heard.field-0.heard c.in_ok-heard.ensures.heard
    (sym (ap is_some c.in-Some.is) ∙ c.in_ok-heard.ensures.change) (received c.prepare.new.self) c.in_ok-heard.ensures.same

pub returns-in_err-journal-in-Some-clause-writes : goal.returns-in_err-journal-in-Some-clause-writes
returns-in_err-journal-in-Some-clause-writes g c =
    let D = g.D.Disk in
    let make : Received → Holding g.row.D.Denot = λ s. record { store = c.args.self.now.store; state = s; entries = c.args.self.now.entries.items } in
    let texts : List (List ℕ) = heard_texts c.args.trust.now (option_copied c.args.principal) (option_copied c.args.named) (received c.args.self.now.receiver) c.args.text.now in
    let heard : ⊤ → Heard = λ u. c.in_ok-heard.field-0.heard in
    let failed : NodeFault → Result ⊤ NodeFault = λ e. Err e in
    let is : c.from_residual-in_err-journal-in-Some.result ≡ Err c.in_err-journal-in-Some.field-0.0 = search rules in
    subst (λ (r : Result Heard NodeFault). Writes D.told D.seen D.may_leave D.moment D.left_since D.stop D.short texts (holding_of c.args.self.now) (holding_of c.journal.new.self) r) (sym is)
    (writes_over (c.args.text.now ∷ []) texts (make (received c.prepare.new.self)) (holding_of c.args.self.now) (holding_of c.journal.new.self)
    (heard_text c.args.trust.now (option_copied c.args.principal) (option_copied c.args.named) (received c.args.self.now.receiver) c.args.text.now c.in_ok-heard.field-0.heard c.in_ok-heard.ensures.heard (sym (ap is_some c.in-Some.is) ∙ c.in_ok-heard.ensures.change))
    (ap make c.in_ok-heard.ensures.same) _ D.told D.seen D.may_leave D.moment D.left_since D.stop D.short
    (writes_map (c.args.text.now ∷ []) (make (received c.prepare.new.self)) (holding_of c.journal.new.self) heard D.told D.seen D.may_leave D.moment D.left_since D.stop D.short (failed c.in_err-journal-in-Some.field-0.0) c.in_err-journal-in-Some.ensures.writes))

pub returns-in_err-journal-in-Some-clause-causes : goal.returns-in_err-journal-in-Some-clause-causes
returns-in_err-journal-in-Some-clause-causes g c =
    let D = g.D.Disk in
    let make : Received → Holding g.row.D.Denot = λ s. record { store = c.args.self.now.store; state = s; entries = c.args.self.now.entries.items } in
    let texts : List (List ℕ) = heard_texts c.args.trust.now (option_copied c.args.principal) (option_copied c.args.named) (received c.args.self.now.receiver) c.args.text.now in
    let heard : ⊤ → Heard = λ u. c.in_ok-heard.field-0.heard in
    let failed : NodeFault → Result ⊤ NodeFault = λ e. Err e in
    let is : c.from_residual-in_err-journal-in-Some.result ≡ Err c.in_err-journal-in-Some.field-0.0 = search rules in
    subst (λ (r : Result Heard NodeFault). Causes D.faults texts c.args.turn (holding_of c.args.self.now) (holding_of c.journal.new.self) r) (sym is)
    (causes_over (c.args.text.now ∷ []) texts (make (received c.prepare.new.self)) (holding_of c.args.self.now) (holding_of c.journal.new.self)
    (heard_text c.args.trust.now (option_copied c.args.principal) (option_copied c.args.named) (received c.args.self.now.receiver) c.args.text.now c.in_ok-heard.field-0.heard c.in_ok-heard.ensures.heard (sym (ap is_some c.in-Some.is) ∙ c.in_ok-heard.ensures.change))
    (ap make c.in_ok-heard.ensures.same) _ D.faults c.args.turn
    (causes_map (c.args.text.now ∷ []) (make (received c.prepare.new.self)) (holding_of c.journal.new.self) heard D.faults c.args.turn (failed c.in_err-journal-in-Some.field-0.0) c.in_err-journal-in-Some.ensures.causes))

pub returns-in_ok-journal-in-Some-clause-writes : goal.returns-in_ok-journal-in-Some-clause-writes
returns-in_ok-journal-in-Some-clause-writes g c =
    let D = g.D.Disk in
    let make : Received → Holding g.row.D.Denot = λ s. record { store = c.args.self.now.store; state = s; entries = c.args.self.now.entries.items } in
    let texts : List (List ℕ) = heard_texts c.args.trust.now (option_copied c.args.principal) (option_copied c.args.named) (received c.args.self.now.receiver) c.args.text.now in
    let heard : ⊤ → Heard = λ u. c.in_ok-heard.field-0.heard in
    let done : Result ⊤ NodeFault = Ok tt in
    writes_over (c.args.text.now ∷ []) texts (make (received c.prepare.new.self)) (holding_of c.args.self.now) (holding_of c.journal.new.self)
    (heard_text c.args.trust.now (option_copied c.args.principal) (option_copied c.args.named) (received c.args.self.now.receiver) c.args.text.now c.in_ok-heard.field-0.heard c.in_ok-heard.ensures.heard (sym (ap is_some c.in-Some.is) ∙ c.in_ok-heard.ensures.change))
    (ap make c.in_ok-heard.ensures.same) _ D.told D.seen D.may_leave D.moment D.left_since D.stop D.short
    (writes_map (c.args.text.now ∷ []) (make (received c.prepare.new.self)) (holding_of c.journal.new.self) heard D.told D.seen D.may_leave D.moment D.left_since D.stop D.short done c.in_ok-journal-in-Some.ensures.writes)

pub returns-in_ok-journal-in-Some-clause-causes : goal.returns-in_ok-journal-in-Some-clause-causes
returns-in_ok-journal-in-Some-clause-causes g c =
    let D = g.D.Disk in
    let make : Received → Holding g.row.D.Denot = λ s. record { store = c.args.self.now.store; state = s; entries = c.args.self.now.entries.items } in
    let texts : List (List ℕ) = heard_texts c.args.trust.now (option_copied c.args.principal) (option_copied c.args.named) (received c.args.self.now.receiver) c.args.text.now in
    let heard : ⊤ → Heard = λ u. c.in_ok-heard.field-0.heard in
    let done : Result ⊤ NodeFault = Ok tt in
    causes_over (c.args.text.now ∷ []) texts (make (received c.prepare.new.self)) (holding_of c.args.self.now) (holding_of c.journal.new.self)
    (heard_text c.args.trust.now (option_copied c.args.principal) (option_copied c.args.named) (received c.args.self.now.receiver) c.args.text.now c.in_ok-heard.field-0.heard c.in_ok-heard.ensures.heard (sym (ap is_some c.in-Some.is) ∙ c.in_ok-heard.ensures.change))
    (ap make c.in_ok-heard.ensures.same) _ D.faults c.args.turn
    (causes_map (c.args.text.now ∷ []) (make (received c.prepare.new.self)) (holding_of c.journal.new.self) heard D.faults c.args.turn done c.in_ok-journal-in-Some.ensures.causes)
