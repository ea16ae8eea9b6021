use Rattle.std.proofs.Common.{◌≡◌, ◌<◌, ◌∙◌, ap, ℕ, Some, None, length, get_or, refl, arith}
use Rattle.std.specs.List.{slice_get}
use Rattle.std.specs.Map.{values_of}
use Rattle.std.proofs.lemmas.List.{length-map}
use Rattle.std.proofs.lemmas.Option.{slice_get-get_or, slice_get_within}
use Rattle.indexmap.proofs.CallerLemmas.{keys-with_value_at}
use Rattle.indexmap.specs.IndexMap.{set_value_at}
use Rattle.sig_subject.specs.declared.subject.Subject.{Subject}
use Rattle.sig_accounts.proofs.ClosingLemmas.{closing_empty, closing_linked, closing_moved}
use Rattle.sig_accounts.proofs.subjects.close_up.Goals as goal

pub index_mut-requires : goal.index_mut-requires
index_mut-requires c =
    let held : slice_get c.loop-read.order c.loop-read.read ≡ Some (Some c.in-Some.index) =
    slice_get-get_or c.loop-read.order c.loop-read.read None (omega (arith, c.loop-read-test.true, c.loop-read.invariant.long)) ∙ ap Some c.in-Some.is in
    let within : c.in-Some.index < length (values_of c.loop-read.places.entries) =
    slice_get_within (values_of c.loop-read.places.entries) c.in-Some.index c.loop-read.read ((c.loop-read.invariant.linked c.in-Some.index c.loop-read.read).1 held) in
    omega (arith, within, length-map c.loop-read.places.entries (λ (e : Subject × ℕ). e.1))

pub loop-read-preserved : goal.loop-read-preserved
loop-read-preserved c =
    let read : slice_get c.loop-read.order c.loop-read.read ≡ Some (get_or c.loop-read.order c.loop-read.read None) =
    slice_get-get_or c.loop-read.order c.loop-read.read None (omega (arith, c.loop-read-test.true, c.loop-read.invariant.long)) in
    elim c.match-order-read.branch [
      | goal.in-Some w ↦
          rw (w.places-is, w.order-is, w.kept-is)
          (closing_moved w.in-Some.index (set_value_at c.loop-read.places.entries w.in-Some.index c.loop-read.kept) c.loop-read.invariant (read ∙ ap Some w.in-Some.is) refl
          (keys-with_value_at c.loop-read.places w.in-Some.index c.loop-read.kept))
      | goal.in_default w ↦ rw (w.places-is, w.order-is, w.kept-is) (closing_empty c.loop-read.invariant (read ∙ ap Some w.in_default.is))
    ]

pub returns-clause-linked : goal.returns-clause-linked
returns-clause-linked c = closing_linked c.loop-read.invariant (omega (arith, c.loop-read-test.false, c.loop-read.invariant.long))
