use Rattle.std.proofs.Common.{◌≡◌, ◌∙◌, ap, sym, subst, inr, ℕ, List, length, get_or, Result, Err, arith}
use Rattle.std.proofs.lemmas.List.{take_all}
use Rattle.std.specs.Prelude.{⊤}
use Rattle.sig_journal.specs.Store.{in_file_at}
use Rattle.sig_receiver.specs.Receiver.{nothing, received, received_of}
use Rattle.sig_rxnode.specs.declared.recording.RecordFault.{RecordFault}
use Rattle.sig_rxnode.specs.Records.{texts_of}
use Rattle.sig_rxnode.proofs.TakingUp.{ends_at, kept_texts, step_on, stops_at, texts_on}
use Rattle.sig_rxnode.proofs.loading.take_records.Goals as goal

pub returns-in-Err-Bad-clause-told : goal.returns-in-Err-Bad-clause-told
returns-in-Err-Bad-clause-told c = λ first placed.
    let make : RecordFault → Result ⊤ RecordFault = λ e. Err e in
    let here : c.as_slice.result.now ≡ get_or c.args.records.now c.loop-i.i c.as_slice.result.now =
    subst (λ (p : List ℕ). p ≡ get_or c.args.records.now c.loop-i.i p) (sym c.as_slice.ensures) c.index-records-i.is in
    inr (ap (in_file_at c.args.file)
    (stops_at nothing (received c.loop-i.receiver) first c.args.records.now c.as_slice.result.now c.args.places.now c.loop-i.i c.loop-i-test.true here
    (c.in-Err-Bad.ensures.bad (ap make c.in-Err-Bad.field-0-is)) placed (c.loop-i.invariant.state first)))

pub loop-i-preserved : goal.loop-i-preserved
loop-i-preserved c =
    let here : c.as_slice.result.now ≡ get_or c.args.records.now c.loop-i.i c.as_slice.result.now =
    subst (λ (p : List ℕ). p ≡ get_or c.args.records.now c.loop-i.i p) (sym c.as_slice.ensures) c.index-records-i.is in
    record {
      state = λ first. step_on nothing (received c.loop-i.receiver) (received c.take_record.new.receiver) first c.args.records.now c.as_slice.result.now c.loop-i.i c.loop-i-test.true here c.in-Ok.ensures.taken (c.loop-i.invariant.state first);
      entries = texts_on c.loop-i.entries.items c.take_record.new.entries.items c.args.records.now c.as_slice.result.now c.loop-i.i c.loop-i-test.true here c.loop-i.invariant.entries c.in-Ok.ensures.entries;
    }

pub returns-clause-entries : goal.returns-clause-entries
returns-clause-entries c =
    let all : c.loop-i.i ≡ length c.args.records.now = omega (arith, c.loop-i-test.false, c.loop-i.auto.i-end) in
    let entries : c.loop-i.entries.items ≡ texts_of c.args.records.now = c.loop-i.invariant.entries ∙ ap texts_of (take_all c.loop-i.i c.args.records.now c.loop-i-test.false) in (
      entries,
      kept_texts nothing (received c.loop-i.receiver) 0 c.args.records.now (ends_at nothing (received c.loop-i.receiver) 0 c.args.records.now c.loop-i.i all (c.loop-i.invariant.state 0))
          ∙ ap (received_of nothing) (sym entries),
    )
