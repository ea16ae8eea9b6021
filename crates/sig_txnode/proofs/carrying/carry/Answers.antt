use Rattle.std.proofs.Common.{◌+◌, refl, sym, subst, ℕ, List, [], ◌∷◌, length, Result, Ok, Err}
use Rattle.std.specs.Prelude.{⊤}
use Rattle.sig_journal.specs.declared.journal.AppendFault.{AppendFault}
use Rattle.sig_journal.specs.declared.journal.AppendFault.TheVariants as append
use Rattle.sig_history.specs.Owed.{Sum, sum_of}
use Rattle.sig_journal.specs.declared.node_fault.NodeFault.{NodeFault}
use Rattle.sig_journal.specs.declared.node_fault.NodeFault.TheVariants as node
use Rattle.sig_journal.specs.Standing.{StandsFor}
use Rattle.sig_journal.proofs.Stands.{durable_of, stands_after, stands_broken}
use Rattle.sig_txnode.specs.Answering.{end_with}
use Rattle.sig_txnode.specs.Records.{sending}
use Rattle.sig_txnode.proofs.CarryLemmas.{IsFullAt, full_err, full_ok, lasts_carried, stands_err, takes_fact}
use Rattle.sig_txnode.proofs.carrying.carry.Goals as goal

pub returns-in-Ok-clause-stands : goal.returns-in-Ok-clause-stands
returns-in-Ok-clause-stands g c =
    let D = g.D.Disk in
    let old = c.args.store.now in
    let before = c.args.outbox.now.sum in
    let fact = c.args.prepared.fact in
    let payload = c.args.framed.now in
    subst (λ (s : Sum). StandsFor sending D.told D.seen D.may_leave c.append.new.self s) (sym c.commit.ensures)
    (stands_after sending D.told D.seen D.may_leave old c.append.new.self before (sum_of before (fact ∷ [])) payload c.requires.stands c.requires.whole (takes_fact before fact payload c.requires.recorded c.requires.ready.0)
    c.append.ensures.files c.in-Ok.ensures.ok)

pub returns-in-Ok-clause-lasts : goal.returns-in-Ok-clause-lasts
returns-in-Ok-clause-lasts g c =
    let D = g.D.Disk in
    let old = c.args.store.now in
    let new = c.append.new.self in
    let before = c.args.outbox.now.sum in
    let fact = c.args.prepared.fact in
    let payload = c.args.framed.now in
    let call : Result ⊤ AppendFault = Ok c.in-Ok.field-0 in
    let result : Result ⊤ NodeFault = Ok tt in
    lasts_carried D.told D.seen D.may_leave D.moment D.left_since D.stop D.short old new before fact payload call result refl c.requires.recorded.bytes
    c.in-Ok.ensures.ok c.in-Ok.ensures.leaves
    (durable_of sending D.told D.seen D.may_leave old new before (sum_of before (fact ∷ [])) payload c.requires.stands c.requires.whole (takes_fact before fact payload c.requires.recorded c.requires.ready.0)
    D.moment D.left_since D.stop D.short call result refl c.in-Ok.ensures.ok c.in-Ok.ensures.leaves c.append.ensures.files)

pub returns-in-Ok-clause-full : goal.returns-in-Ok-clause-full
returns-in-Ok-clause-full g c =
    let end = c.args.store.now.journal.end in
    full_ok tt c.in-Ok.field-0 (end_with end c.args.prepared.fact) (subst (λ (l : List ℕ). IsFullAt {T = ⊤} append.Full (Ok c.in-Ok.field-0) (end + 5 + length l)) c.requires.recorded.bytes c.in-Ok.ensures.causes.full)

pub returns-in-Err-clause-stands : goal.returns-in-Err-clause-stands
returns-in-Err-clause-stands g c =
    let D = g.D.Disk in
    let old = c.args.store.now in
    let new = c.append.new.self in
    let before = c.args.outbox.now.sum in
    let fact = c.args.prepared.fact in
    let payload = c.args.framed.now in
    let call : Result ⊤ AppendFault = Err c.in-Err.fault in
    stands_err D.told D.seen D.may_leave D.faults old new before c.args.turn payload c.in-Err.fault c.in-Err.ensures.causes c.requires.stands
    (stands_broken sending D.told D.seen D.may_leave old new before (sum_of before (fact ∷ [])) payload c.requires.stands c.requires.whole (takes_fact before fact payload c.requires.recorded c.requires.ready.0)
    D.moment D.left_since D.stop D.short D.faults c.args.turn call (c.requires.stored.rests c.requires.whole) g.met.D.Disk.counts_now c.in-Err.ensures.leaves c.append.ensures.files)

pub returns-in-Err-clause-lasts : goal.returns-in-Err-clause-lasts
returns-in-Err-clause-lasts g c =
    let D = g.D.Disk in
    let old = c.args.store.now in
    let new = c.append.new.self in
    let before = c.args.outbox.now.sum in
    let fact = c.args.prepared.fact in
    let payload = c.args.framed.now in
    let call : Result ⊤ AppendFault = Err c.in-Err.fault in
    let result : Result ⊤ NodeFault = Err c.of_append.result in
    lasts_carried D.told D.seen D.may_leave D.moment D.left_since D.stop D.short old new before fact payload call result refl c.requires.recorded.bytes
    tt c.in-Err.ensures.leaves
    (durable_of sending D.told D.seen D.may_leave old new before (sum_of before (fact ∷ [])) payload c.requires.stands c.requires.whole (takes_fact before fact payload c.requires.recorded c.requires.ready.0)
    D.moment D.left_since D.stop D.short call result refl tt c.in-Err.ensures.leaves c.append.ensures.files)

pub returns-in-Err-clause-full : goal.returns-in-Err-clause-full
returns-in-Err-clause-full g c =
    let end = c.args.store.now.journal.end in
    subst (λ (e : NodeFault). IsFullAt {T = ⊤} node.Full (Err e) (end_with end c.args.prepared.fact)) (sym c.of_append.ensures)
    (full_err {T = ⊤} {U = ⊤} c.in-Err.fault (end_with end c.args.prepared.fact) (subst (λ (l : List ℕ). IsFullAt {T = ⊤} append.Full (Err c.in-Err.fault) (end + 5 + length l)) c.requires.recorded.bytes c.in-Err.ensures.causes.full))
