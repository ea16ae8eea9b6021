use Rattle.std.proofs.Common.{◌≡◌, ◌↔◌, ◌+◌, ℕ, length, Some, Err, Ok, refl, sym, ◌∙◌, ap, subst, arith}
use Rattle.std.proofs.lemmas.Bool.{false≢true}
use Rattle.std.specs.Prelude.{IsErrOf}
use Rattle.sig_outside.specs.Disk.{LeavesOnly}
use Rattle.sig_journal.specs.declared.checkpoint.fault.CheckFault.{CheckFault}
use Rattle.sig_journal.specs.declared.checkpoint.fault.CheckFault.TheVariants.{Store, Big, Memory}
use Rattle.sig_journal.specs.Checkpoint.{IsBeforeOrCompacted, beside_store, compacted}
use Rattle.sig_journal.specs.Gates.{closing_calls}
use Rattle.sig_journal.specs.Journal.{BothTold, Open, told_store}
use Rattle.sig_journal.specs.Runs.{RestsAfter}
use Rattle.sig_journal.specs.Snapshot.{too_great}
use Rattle.sig_journal.proofs.Checkpoints.{before_told, compacted_told, either_told, turned, turned_knows, turned_rests, turned_tells}
use Rattle.sig_journal.proofs.Moments.{weaker}
use Rattle.sig_journal.proofs.Runs.{rests_map}
use Rattle.sig_journal.proofs.journal.Journal.checkpoint.Goals as goal

pub invariant_of-self : goal.invariant_of-self
invariant_of-self g c =
    let D = g.D.Disk in
    let file = c.write_snapshot.new.other in
    let snapshot = c.args.snapshot.now in
    let not_broken = ap (λ (k : Open g.row.D.Denot). k.broken) c.self.view_is ∙ c.requires in
    let rest = c.self.invariant.rests not_broken in
    let knows = c.self.invariant.knows not_broken in
    record {
      places = record { records_fit = omega arith; end_fits = omega (arith, c.in-Ok.ensures.fits.0) };
      generation_fits = c.in-Ok.ensures.fits.1;
      rests = λ _. turned_rests D.told D.seen D.may_leave _ snapshot file c.swap.new.x c.swap.new.y c.swap.ensures.x_after c.swap.ensures.y_after rest c.in-Ok.ensures.durable c.in-Ok.ensures.kind.0 c.in-Ok.ensures.tells;
      knows = λ _. turned_knows D.told D.seen D.may_leave _ snapshot file c.swap.new.x c.swap.new.y c.swap.ensures.x_after c.swap.ensures.y_after knows c.in-Ok.ensures.kind.0 c.in-Ok.ensures.put;
      counted = λ broken. absurd (false≢true (sym not_broken ∙ broken));
    }

pub returns-in-Ok-clause-tells : goal.returns-in-Ok-clause-tells
returns-in-Ok-clause-tells g c =
    let D = g.D.Disk in
    let file = c.write_snapshot.new.other in
    let snapshot = c.args.snapshot.now in
    let not_broken = ap (λ (k : Open g.row.D.Denot). k.broken) c.self.view_is ∙ c.requires in
    let rest = c.self.invariant.rests not_broken in
    let knows = c.self.invariant.knows not_broken in
    let old : Open g.row.D.Denot = record { written = c.self.inside.written; other = c.self.inside.other; in_b = c.self.inside.in_b; kind = c.self.inside.kind; records = c.self.inside.records; end = c.self.inside.end; broken = c.self.inside.broken; generation = c.self.inside.generation; other_open = c.self.inside.other_open; store_id = c.self.inside.store_id } in
    subst (λ (k : Open g.row.D.Denot). BothTold D.told k → told_store D.seen (turned D.told D.seen D.may_leave old snapshot c.swap.new.x c.swap.new.y) ≡ compacted (told_store D.seen k) snapshot) c.self.view_is
    (λ both. turned_tells D.told D.seen D.may_leave old snapshot file c.swap.new.x c.swap.new.y c.swap.ensures.x_after c.swap.ensures.y_after rest knows both (c.in-Ok.ensures.tells both.0 both.1))

pub returns-in-Ok-clause-durable : goal.returns-in-Ok-clause-durable
returns-in-Ok-clause-durable g c =
    let D = g.D.Disk in
    let file = c.write_snapshot.new.other in
    let snapshot = c.args.snapshot.now in
    let not_broken = ap (λ (k : Open g.row.D.Denot). k.broken) c.self.view_is ∙ c.requires in
    let rest = c.self.invariant.rests not_broken in
    turned_rests D.told D.seen D.may_leave _ snapshot file c.swap.new.x c.swap.new.y c.swap.ensures.x_after c.swap.ensures.y_after rest c.in-Ok.ensures.durable c.in-Ok.ensures.kind.0 c.in-Ok.ensures.tells

pub returns-in-Ok-clause-any_moment : goal.returns-in-Ok-clause-any_moment
returns-in-Ok-clause-any_moment g c =
    let D = g.D.Disk in
    let file = c.write_snapshot.new.other in
    let snapshot = c.args.snapshot.now in
    let not_broken = ap (λ (k : Open g.row.D.Denot). k.broken) c.self.view_is ∙ c.requires in
    let rest = c.self.invariant.rests not_broken in
    let knows = c.self.invariant.knows not_broken in
    subst (λ (x : g.row.D.Denot). BothTold D.told c.args.self.now → LeavesOnly D.moment D.left_since c.args.self.now.other x (λ image. IsBeforeOrCompacted (told_store D.seen c.args.self.now) snapshot (beside_store D.seen c.args.self.now image))) (sym c.swap.ensures.x_after)
    (subst (λ (k : Open g.row.D.Denot). BothTold D.told k → LeavesOnly D.moment D.left_since k.other file (λ image. IsBeforeOrCompacted (told_store D.seen k) snapshot (beside_store D.seen k image))) c.self.view_is
    (λ both. weaker D.moment D.left_since c.self.inside.other file _ _ (c.in-Ok.ensures.any_moment both.0 both.1) (λ image either. either_told D.told D.seen D.may_leave _ snapshot rest knows both image either)))

pub returns-in-Ok-clause-stopped : goal.returns-in-Ok-clause-stopped
returns-in-Ok-clause-stopped g c =
    let D = g.D.Disk in
    let file = c.write_snapshot.new.other in
    let snapshot = c.args.snapshot.now in
    let not_broken = ap (λ (k : Open g.row.D.Denot). k.broken) c.self.view_is ∙ c.requires in
    let rest = c.self.invariant.rests not_broken in
    let knows = c.self.invariant.knows not_broken in
    subst (λ (x : g.row.D.Denot). BothTold D.told c.args.self.now → Unit {0}
    → RestsAfter {T = Unit {0}} {E = CheckFault} (closing_calls c.args.self.now.other_open + 5) (λ image. beside_store D.seen c.args.self.now image ≡ told_store D.seen c.args.self.now) (λ image. beside_store D.seen c.args.self.now image ≡ compacted (told_store D.seen c.args.self.now) snapshot) (D.stop c.args.self.now.other) (D.stop x) (D.short x) (Ok tt)) (sym c.swap.ensures.x_after)
    (subst (λ (k : Open g.row.D.Denot). BothTold D.told k → Unit {0}
    → RestsAfter {T = Unit {0}} {E = CheckFault} (closing_calls k.other_open + 5) (λ image. beside_store D.seen k image ≡ told_store D.seen k) (λ image. beside_store D.seen k image ≡ compacted (told_store D.seen k) snapshot) (D.stop k.other) (D.stop file) (D.short file) (Ok tt)) c.self.view_is
    (λ both called. rests_map {T = Unit {0}} {E = CheckFault} {U = Unit {0}} {F = CheckFault} (closing_calls c.self.inside.other_open + 5) _ _ _ _ (D.stop c.self.inside.other) (D.stop file) (D.short file) (Ok tt) (Ok tt) refl
    (λ image same. before_told D.told D.seen D.may_leave _ snapshot rest knows both image same)
    (λ image puts. compacted_told D.told D.seen D.may_leave _ snapshot rest knows both image puts) (c.in-Ok.ensures.stopped both.0 both.1 called)))

pub returns-in-Err-Store-clause-any_moment : goal.returns-in-Err-Store-clause-any_moment
returns-in-Err-Store-clause-any_moment g c =
    let D = g.D.Disk in
    let file = c.write_snapshot.new.other in
    let snapshot = c.args.snapshot.now in
    let not_broken = ap (λ (k : Open g.row.D.Denot). k.broken) c.self.view_is ∙ c.requires in
    let rest = c.self.invariant.rests not_broken in
    let knows = c.self.invariant.knows not_broken in
    subst (λ (k : Open g.row.D.Denot). BothTold D.told k → LeavesOnly D.moment D.left_since k.other file (λ image. IsBeforeOrCompacted (told_store D.seen k) snapshot (beside_store D.seen k image))) c.self.view_is
    (λ both. weaker D.moment D.left_since c.self.inside.other file _ _ (c.in-Err-Store.ensures.any_moment both.0 both.1) (λ image either. either_told D.told D.seen D.may_leave _ snapshot rest knows both image either))

pub returns-in-Err-Store-clause-stopped : goal.returns-in-Err-Store-clause-stopped
returns-in-Err-Store-clause-stopped g c =
    let D = g.D.Disk in
    let file = c.write_snapshot.new.other in
    let snapshot = c.args.snapshot.now in
    let not_broken = ap (λ (k : Open g.row.D.Denot). k.broken) c.self.view_is ∙ c.requires in
    let rest = c.self.invariant.rests not_broken in
    let knows = c.self.invariant.knows not_broken in
    let ensures = rw c.in-Err-Store.field-0-is at c.in-Err-Store.ensures in
    subst (λ (k : Open g.row.D.Denot). BothTold D.told k → Unit {0}
    → RestsAfter {T = Unit {0}} {E = CheckFault} (closing_calls k.other_open + 5) (λ image. beside_store D.seen k image ≡ told_store D.seen k) (λ image. beside_store D.seen k image ≡ compacted (told_store D.seen k) snapshot) (D.stop k.other) (D.stop file) (D.short file) (Err Store)) c.self.view_is
    (λ both called. rests_map {T = Unit {0}} {E = CheckFault} {U = Unit {0}} {F = CheckFault} (closing_calls c.self.inside.other_open + 5) _ _ _ _ (D.stop c.self.inside.other) (D.stop file) (D.short file) (Err Store) (Err Store) refl
    (λ image same. before_told D.told D.seen D.may_leave _ snapshot rest knows both image same)
    (λ image puts. compacted_told D.told D.seen D.may_leave _ snapshot rest knows both image puts) (ensures.stopped both.0 both.1 called))

pub returns-in-Err-Store-clause-big : goal.returns-in-Err-Store-clause-big
returns-in-Err-Store-clause-big g c =
    let ensures = rw c.in-Err-Store.field-0-is at c.in-Err-Store.ensures in
    subst (λ (k : Open g.row.D.Denot). (n : ℕ) → IsErrOf {T = Unit {0}} {E = CheckFault} (Err Store) (Big n) ↔ (too_great k.generation (length c.args.snapshot.now) ≡ Some n)) c.self.view_is ensures.big

pub returns-in-Err-Big-clause-big : goal.returns-in-Err-Big-clause-big
returns-in-Err-Big-clause-big g c =
    let ensures = rw c.in-Err-Big.field-0-is at c.in-Err-Big.ensures in
    subst (λ (k : Open g.row.D.Denot). (n : ℕ) → IsErrOf {T = Unit {0}} {E = CheckFault} (Err (Big c.in-Err-Big.number)) (Big n) ↔ (too_great k.generation (length c.args.snapshot.now) ≡ Some n)) c.self.view_is ensures.big

pub returns-in-Err-Memory-clause-big : goal.returns-in-Err-Memory-clause-big
returns-in-Err-Memory-clause-big g c =
    let ensures = rw c.in-Err-Memory.field-0-is at c.in-Err-Memory.ensures in
    subst (λ (k : Open g.row.D.Denot). (n : ℕ) → IsErrOf {T = Unit {0}} {E = CheckFault} (Err Memory) (Big n) ↔ (too_great k.generation (length c.args.snapshot.now) ≡ Some n)) c.self.view_is ensures.big
