use Rattle.std.proofs.Common.{◌≡◌, ◌∙◌, ◌+◌, ◌<◌, ap, sym, subst, inr, ℕ, List, [], length, take, get_or, Some, None, Err, arith}
use Rattle.std.proofs.lemmas.List.{get_or_read}
use Rattle.sig_history.specs.Owed.{empty_sum}
use Rattle.sig_journal.specs.Layout.{places_of, records_size}
use Rattle.sig_journal.specs.Store.{in_file_at}
use Rattle.sig_entry.specs.Facts.{decoded}
use Rattle.sig_journal.specs.Taking.{state_after}
use Rattle.sig_journal.proofs.LoadSteps.{place_at}
use Rattle.sig_outbox.specs.declared.applying.ApplyFault.{ApplyFault}
use Rattle.sig_txnode.specs.Records.{after_record, sending}
use Rattle.sig_txnode.proofs.LoadLemmas.{length_places, step_at, stop_at, taken_whole}
use Rattle.sig_txnode.proofs.loading.state_in.Goals as goal

pub bounds-places-i : goal.bounds-places-i
bounds-places-i g c =
    let loaded = c.args.loaded.now in
    omega (arith, ap length (c.as_slice-places.ensures ∙ c.requires), length_places (35 + length loaded.snapshot) loaded.records, ap length c.as_slice-records.ensures)

pub returns-in-Err-Bad-clause-state : goal.returns-in-Err-Bad-clause-state
returns-in-Err-Bad-clause-state g c =
    let loaded = c.args.loaded.now in
    let first = 35 + length loaded.snapshot in
    let records = c.as_slice-records.result.now in
    let i = c.loop-i.i in
    let within : i < length records = omega arith in
    let here : c.as_slice.result.now ≡ get_or records i [] = c.as_slice.ensures ∙ get_or_read records i c.index-records-i.result within c.index-records-i.is [] in
    let refused : after_record c.loop-i.outbox.sum (decoded (get_or records i [])) ≡ None =
    subst (λ (p : List ℕ). after_record c.loop-i.outbox.sum (decoded p) ≡ None) here (c.in-Err-Bad.ensures.bad (ap (λ (e : ApplyFault). Err e) c.in-Err-Bad.field-0-is)) in
    let place : first + records_size (take i records) ≡ get_or c.as_slice-places.result.now i 0 =
    sym (ap (λ (l : List ℕ). get_or l i 0) (c.as_slice-places.ensures ∙ c.requires ∙ ap (λ (l : List (List ℕ)). places_of first l) (sym c.as_slice-records.ensures)) ∙ place_at first records i within) in
    inr (ap (in_file_at loaded.file) (ap (λ (l : List (List ℕ)). state_after sending.step (empty_sum loaded.store_id) first l) (sym c.as_slice-records.ensures)
    ∙ c.loop-i.invariant.goes ∙ stop_at sending.step c.loop-i.outbox.sum (first + records_size (take i records)) i records within refused ∙ ap (λ (n : ℕ). Err n) place))

pub loop-i-preserved : goal.loop-i-preserved
loop-i-preserved g c =
    let loaded = c.args.loaded.now in
    let first = 35 + length loaded.snapshot in
    let records = c.as_slice-records.result.now in
    let i = c.loop-i.i in
    let next = c.take_up.new.outbox.sum in
    let within : i < length records = omega arith in
    let here : c.as_slice.result.now ≡ get_or records i [] = c.as_slice.ensures ∙ get_or_read records i c.index-records-i.result within c.index-records-i.is [] in
    let takes : after_record c.loop-i.outbox.sum (decoded (get_or records i [])) ≡ Some next =
    subst (λ (p : List ℕ). after_record c.loop-i.outbox.sum (decoded p) ≡ Some next) here c.in-Ok.ensures.takes in
    record {
      goes = c.loop-i.invariant.goes ∙ step_at sending.step c.loop-i.outbox.sum next first i records within takes;
      whole = taken_whole c.loop-i.outbox.sum next (decoded (get_or records i [])) takes c.loop-i.invariant.whole;
    }
