use Rattle.std.proofs.Common.{◌≡◌, sym, subst, Ok, Result}
use Rattle.sig_journal.specs.declared.fault.LoadFault.{LoadFault}
use Rattle.sig_journal.specs.declared.fault.LoadFault.TheVariants.{Store}
use Rattle.sig_journal.specs.declared.kind.Kind.TheVariants.{Tx}
use Rattle.sig_journal.specs.OnlyRead.{OnlyRead}
use Rattle.sig_journal.specs.Store.{Told}
use Rattle.sig_journal.specs.Taking.{loaded}
use Rattle.sig_txnode.specs.Loaded.{GivesState, state_by, told_of}
use Rattle.sig_txnode.specs.Records.{sending}
use Rattle.sig_txnode.proofs.OpenLemmas.{err_of, gives_state, of_files, ok_of, store_opened, told_loaded}
use Rattle.sig_txnode.proofs.node.TxNode.load.Goals as goal

pub opened-requires-clause-told : goal.opened-requires-clause-told
opened-requires-clause-told g c =
    let D = g.D.Disk in
    let l = c.in-Ok.loaded in
    told_loaded D.told D.seen c.args.a c.args.b Tx l.journal (Ok (told_of l)) c.in-Ok.ensures.opens.kind_same
    c.in-Ok.ensures.reads.0.told_same c.in-Ok.ensures.reads.1.told_same c.in-Ok.ensures.reads.0.bytes_same c.in-Ok.ensures.reads.1.bytes_same c.in-Ok.ensures.told

pub returns-in-Ok-clause-told : goal.returns-in-Ok-clause-told
returns-in-Ok-clause-told g c = λ told_a told_b.
    subst (λ (t : Result Told LoadFault). GivesState (loaded sending t) (state_by c.opened.result)) (sym (c.in-Ok.ensures.told told_a told_b))
    (gives_state (loaded sending (Ok (told_of c.in-Ok.loaded))) (state_by c.opened.result) c.opened.ensures.state)

pub returns-in-Ok-clause-begins : goal.returns-in-Ok-clause-begins
returns-in-Ok-clause-begins g c = c.opened.ensures.begins

pub returns-in-Ok-clause-reads : goal.returns-in-Ok-clause-reads
returns-in-Ok-clause-reads g c =
    let D = g.D.Disk in
    of_files (OnlyRead D.told D.seen D.may_leave D.moment D.left_since D.faults c.args.a) (OnlyRead D.told D.seen D.may_leave D.moment D.left_since D.faults c.args.b) c.in-Ok.loaded.journal c.opened.result c.opened.ensures.files
    c.in-Ok.ensures.reads.0 c.in-Ok.ensures.reads.1

pub returns-in-Ok-clause-store : goal.returns-in-Ok-clause-store
returns-in-Ok-clause-store g c = store_opened g.D.Disk.faults c.args.a c.args.b _ _ c.opened.result c.opened.ensures.state

pub returns-in-Ok-clause-steady : goal.returns-in-Ok-clause-steady
returns-in-Ok-clause-steady g c =
    let D = g.D.Disk in
    ok_of _ _ c.opened.result
    (of_files (λ d. D.faults d ≡ D.faults c.args.a) (λ d. D.faults d ≡ D.faults c.args.b) c.in-Ok.loaded.journal c.opened.result c.opened.ensures.files c.in-Ok.ensures.steady.0 c.in-Ok.ensures.steady.1)

pub returns-in-Ok-clause-steady_err : goal.returns-in-Ok-clause-steady_err
returns-in-Ok-clause-steady_err g c =
    let D = g.D.Disk in
    err_of _ _ (λ r. r.fault ≡ Store → ⊥) c.opened.result
    (of_files (λ d. D.faults d ≡ D.faults c.args.a) (λ d. D.faults d ≡ D.faults c.args.b) c.in-Ok.loaded.journal c.opened.result c.opened.ensures.files c.in-Ok.ensures.steady.0 c.in-Ok.ensures.steady.1)
