use Rattle.std.proofs.Common.{◌≡◌, ◌∙◌, ◌+◌, refl, sym, subst, ap, inl, inr, ⊎_elim, ℕ, length, Ok}
use Rattle.sig_history.specs.Owed.{empty_sum}
use Rattle.sig_journal.specs.Journal.{BothTold, IsAtRest, told_store}
use Rattle.sig_journal.specs.Store.{in_file_at}
use Rattle.sig_journal.specs.Standing.{StandsFor}
use Rattle.sig_journal.specs.Stored.{Stored}
use Rattle.sig_journal.specs.Taking.{loaded, state_after}
use Rattle.sig_journal.proofs.LoadSteps.{stands_loaded}
use Rattle.sig_txnode.specs.Records.{sending}
use Rattle.sig_txnode.proofs.NodeLemmas.{new_node}
use Rattle.sig_txnode.proofs.node.opened.Goals as goal

pub returns-in-Ok-clause-state : goal.returns-in-Ok-clause-state
returns-in-Ok-clause-state g c =
    let l = c.args.loaded in
    ap (λ (n : ℕ). in_file_at n (state_after sending.step (empty_sum l.store_id) (35 + length l.snapshot) l.records)) (sym c.requires.file) ∙ c.in-Ok.ensures.state

pub invariant_of-result : goal.invariant_of-result
invariant_of-result g c =
    let D = g.D.Disk in
    let l = c.args.loaded in
    let state = c.in-Ok.outbox.sum in
    let comes : in_file_at _ (state_after sending.step (empty_sum l.store_id) (35 + length l.snapshot) l.records) ≡ Ok state =
    ap (λ (n : ℕ). in_file_at n (state_after sending.step (empty_sum l.store_id) (35 + length l.snapshot) l.records)) (sym c.requires.file) ∙ c.in-Ok.ensures.state in
    let loads : BothTold D.told l.journal → loaded sending (told_store D.seen l.journal) ≡ Ok state = λ both. ap (loaded sending) (c.requires.told both) ∙ comes in
    new_node D.told D.seen D.may_leave c.open.result c.args.rules state c.of.result.value.sum c.new.result.items c.new-in-Ok.result.items
    c.requires.rules c.in-Ok.ensures.whole (ap (λ o. o.sum) c.of.ensures) c.new.ensures c.new-in-Ok.ensures
    (ap (λ (s : Stored g.row.D.Denot). s.broken_at) c.open.ensures) (ap (λ (s : Stored g.row.D.Denot). s.journal.kind) c.open.ensures ∙ c.requires.opens.kind_same)
    (subst (λ (s : Stored g.row.D.Denot). StandsFor sending D.told D.seen D.may_leave s state) (sym c.open.ensures) (stands_loaded sending D.told D.seen D.may_leave l.journal state loads))

pub returns-in-Ok-clause-begins : goal.returns-in-Ok-clause-begins
returns-in-Ok-clause-begins g c =
    let D = g.D.Disk in
    record {
      same_rules = refl;
      base = ap (λ o. o.sum) c.of.ensures;
      entries = c.new.ensures;
      turns = c.new-in-Ok.ensures;
      kind = ap (λ (s : Stored g.row.D.Denot). s.journal.kind) c.open.ensures ∙ c.requires.opens.kind_same;
      whole = ap (λ (s : Stored g.row.D.Denot). s.broken_at) c.open.ensures;
      rests = subst (λ (s : Stored g.row.D.Denot). IsAtRest D.told D.seen D.may_leave s.journal) (sym c.open.ensures) c.requires.opens.rests;
    }

pub returns-in-Ok-clause-files : goal.returns-in-Ok-clause-files
returns-in-Ok-clause-files g c = ap (λ (s : Stored g.row.D.Denot). s.journal) c.open.ensures

pub returns-in-Err-clause-state : goal.returns-in-Err-clause-state
returns-in-Err-clause-state g c =
    let l = c.args.loaded in
    ⊎_elim (λ memory. inl memory)
    (λ bad. inr (ap (λ (n : ℕ). in_file_at n (state_after sending.step (empty_sum l.store_id) (35 + length l.snapshot) l.records)) (sym c.requires.file) ∙ bad)) c.in-Err.ensures.state
