use Rattle.std.proofs.Common.{◌≡◌, ◌∙◌, ap, sym, subst, ℕ, List, [], ◌∷◌, ◌++◌, Result, Ok, Err, refl}
use Rattle.std.specs.Prelude.{⊤}
use Rattle.sig_journal.specs.declared.journal.AppendFault.{AppendFault}
use Rattle.sig_receiver.specs.Receiver.{received}
use Rattle.sig_journal.specs.Appended.{HasRecord}
use Rattle.sig_journal.specs.declared.node_fault.NodeFault.{NodeFault}
use Rattle.sig_rxnode.specs.Holding.{Holding}
use Rattle.sig_rxnode.specs.Journals.{Causes, Writes}
use Rattle.sig_rxnode.specs.Parts.{holding_of}
use Rattle.sig_rxnode.proofs.Journalling.{holds_after, spelled_causes, spelled_fault, spelled_writes}
use Rattle.sig_rxnode.proofs.journalled.Journalled.journal.Goals as goal

pub returns-in-Ok-clause-writes : goal.returns-in-Ok-clause-writes
returns-in-Ok-clause-writes g c =
    let D = g.D.Disk in
    let call : Result ⊤ AppendFault = Ok tt in
    let new : Holding g.row.D.Denot = record { store = c.append.new.self; state = received c.commit.new.self; entries = c.put.new.self.items } in
    spelled_writes D.told D.seen D.may_leave D.moment D.left_since D.stop D.short D.faults c.args.text.now c.args.turn (holding_of c.args.self.now) new c.requires.holds c.requires.whole c.requires.step
    c.in_ok-framed.field-0.framed c.in_ok-framed.ensures.made.0 call c.in-Ok.ensures.ok c.in-Ok.ensures.leaves c.in-Ok.ensures.files c.in-Ok.ensures.causes

pub returns-in-Ok-clause-causes : goal.returns-in-Ok-clause-causes
returns-in-Ok-clause-causes g c =
    let D = g.D.Disk in
    let call : Result ⊤ AppendFault = Ok tt in
    let new : Holding g.row.D.Denot = record { store = c.append.new.self; state = received c.commit.new.self; entries = c.put.new.self.items } in
    spelled_causes D.told D.seen D.may_leave D.moment D.left_since D.stop D.short D.faults c.args.text.now c.args.turn (holding_of c.args.self.now) new c.requires.holds c.requires.whole c.requires.step
    c.in_ok-framed.field-0.framed c.in_ok-framed.ensures.made.0 call c.in-Ok.ensures.ok c.in-Ok.ensures.leaves c.in-Ok.ensures.files c.in-Ok.ensures.causes

pub returns-in-Ok-clause-holds : goal.returns-in-Ok-clause-holds
returns-in-Ok-clause-holds g c =
    let D = g.D.Disk in
    let new : Holding g.row.D.Denot = record { store = c.append.new.self; state = received c.commit.new.self; entries = c.put.new.self.items } in
    let entries : new.entries ≡ c.args.self.now.entries.items ++ c.args.text.now ∷ [] =
    c.put.ensures ∙ ap (λ (l : List (List ℕ)). l ++ c.in_ok-framed.field-0.entry ∷ []) c.in_ok-framed.ensures.same ∙ ap (λ (t : List ℕ). c.args.self.now.entries.items ++ t ∷ []) c.in_ok-framed.ensures.made.1 in
    holds_after D.told D.seen D.may_leave D.moment D.left_since D.stop D.short D.faults c.args.text.now c.args.turn (holding_of c.args.self.now) new c.requires.holds c.requires.whole c.requires.step
    (subst (λ (p : List ℕ). HasRecord D.told D.seen D.may_leave c.args.self.now.store c.append.new.self p) c.in_ok-framed.ensures.made.0 c.in-Ok.ensures.ok) c.in-Ok.ensures.files
    (c.commit.ensures ∙ c.requires.makes) entries

pub returns-clause-writes : goal.returns-clause-writes
returns-clause-writes g c =
    let D = g.D.Disk in
    let call : Result ⊤ AppendFault = Err c.in-Err.fault in
    let old : Holding g.row.D.Denot = holding_of c.args.self.now in
    let new : Holding g.row.D.Denot = record { store = c.append.new.self; state = received c.args.self.now.receiver; entries = c.record_of.new.entries.items } in
    let failed : NodeFault → Result ⊤ NodeFault = λ e. Err e in
    subst (λ (e : NodeFault). Writes D.told D.seen D.may_leave D.moment D.left_since D.stop D.short (c.args.text.now ∷ []) old new (failed e)) (sym c.of_append.ensures)
    (spelled_writes D.told D.seen D.may_leave D.moment D.left_since D.stop D.short D.faults c.args.text.now c.args.turn old new c.requires.holds c.requires.whole c.requires.step
    c.in_ok-framed.field-0.framed c.in_ok-framed.ensures.made.0 call tt c.in-Err.ensures.leaves c.in-Err.ensures.files c.in-Err.ensures.causes)

pub returns-clause-causes : goal.returns-clause-causes
returns-clause-causes g c =
    let D = g.D.Disk in
    let call : Result ⊤ AppendFault = Err c.in-Err.fault in
    let old : Holding g.row.D.Denot = holding_of c.args.self.now in
    let new : Holding g.row.D.Denot = record { store = c.append.new.self; state = received c.args.self.now.receiver; entries = c.record_of.new.entries.items } in
    let failed : NodeFault → Result ⊤ NodeFault = λ e. Err e in
    subst (λ (e : NodeFault). Causes D.faults (c.args.text.now ∷ []) c.args.turn old new (failed e)) (sym c.of_append.ensures)
    (spelled_causes D.told D.seen D.may_leave D.moment D.left_since D.stop D.short D.faults c.args.text.now c.args.turn old new c.requires.holds c.requires.whole c.requires.step
    c.in_ok-framed.field-0.framed c.in_ok-framed.ensures.made.0 call tt c.in-Err.ensures.leaves c.in-Err.ensures.files c.in-Err.ensures.causes)

pub returns-clause-holds : goal.returns-clause-holds
returns-clause-holds g c =
    let D = g.D.Disk in
    let call : Result ⊤ AppendFault = Err c.in-Err.fault in
    let old : Holding g.row.D.Denot = holding_of c.args.self.now in
    let new : Holding g.row.D.Denot = record { store = c.append.new.self; state = received c.args.self.now.receiver; entries = c.record_of.new.entries.items } in
    spelled_fault D.told D.seen D.may_leave D.moment D.left_since D.stop D.short D.faults c.args.text.now c.args.turn old new c.requires.holds c.requires.whole c.requires.step
    c.in_ok-framed.field-0.framed c.in_ok-framed.ensures.made.0 call tt c.in-Err.ensures.leaves c.in-Err.ensures.files c.in-Err.ensures.causes c.in-Err.fault refl g.met.D.Disk.counts_now refl c.in_ok-framed.ensures.same
