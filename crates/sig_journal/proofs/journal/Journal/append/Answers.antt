use Rattle.std.proofs.Common.{◌≡◌, ◌+◌, ◌≤◌, ℕ, List, length, Err, Ok, refl, sym, ◌∙◌, ap, subst, arith}
use Rattle.std.proofs.lemmas.Bool.{false≢true}
use Rattle.sig_json.specs.declared.limits.TheConstants.{LAST_NUMBER}
use Rattle.sig_outside.specs.Disk.{LeavesOnly}
use Rattle.sig_journal.specs.Added.{RestsWith}
use Rattle.sig_journal.specs.declared.journal.AppendFault.{AppendFault}
use Rattle.sig_journal.specs.declared.journal.AppendFault.TheVariants.{Store}
use Rattle.sig_journal.specs.Journal.{BothTold, Open, image_store, store_with, told_store}
use Rattle.sig_journal.specs.Store.{IsBeforeOrAfter, with_record}
use Rattle.sig_journal.proofs.Appending.{after_told, before_told, either_told, failed_not_ok, from_ok, knows_after, length-framed, not_failed_ok, rest_after, rests_map, tells_after}
use Rattle.sig_journal.proofs.Moments.{weaker}
use Rattle.sig_journal.proofs.journal.Journal.append.Goals as goal

pub returns-then-is_err-clause-any_moment : goal.returns-then-is_err-clause-any_moment
returns-then-is_err-clause-any_moment g c =
    let D = g.D.Disk in
    let file = c.add_record.new.file in
    let payload = c.args.framed.now in
    let not_broken = ap (λ (k : Open g.row.D.Denot). k.broken) c.self.view_is ∙ c.requires in
    let rest = c.self.invariant.rests not_broken in
    subst (λ (k : Open g.row.D.Denot). BothTold D.told k → LeavesOnly D.moment D.left_since k.written file (λ image. IsBeforeOrAfter (told_store D.seen k) payload (image_store D.seen k image))) c.self.view_is
    (λ both. weaker D.moment D.left_since c.self.inside.written file _ _ (c.add_record.ensures.any_moment both.0) (λ image shows. either_told D.told D.seen D.may_leave _ payload rest both image shows))

pub returns-then-is_err-clause-stopped : goal.returns-then-is_err-clause-stopped
returns-then-is_err-clause-stopped g c =
    let D = g.D.Disk in
    let file = c.add_record.new.file in
    let payload = c.args.framed.now in
    let not_broken = ap (λ (k : Open g.row.D.Denot). k.broken) c.self.view_is ∙ c.requires in
    let rest = c.self.invariant.rests not_broken in
    subst (λ (k : Open g.row.D.Denot). BothTold D.told k → k.end + 5 + length payload ≤ LAST_NUMBER
    → RestsWith {T = ℕ} {E = AppendFault} (λ image. image_store D.seen k image ≡ told_store D.seen k) (λ image. image_store D.seen k image ≡ with_record (told_store D.seen k) payload) (D.stop k.written) (D.stop file) (D.short file) (Err Store)) c.self.view_is
    (λ both room. rests_map _ _ _ _ (D.stop c.self.inside.written) (D.stop file) (D.short file) c.add_record.result (Err Store) (failed_not_ok c.add_record.result c.if-is_err.ensures.value)
    (λ image shows. before_told D.told D.seen D.may_leave _ payload rest both image shows)
    (λ image shows. after_told D.told D.seen D.may_leave _ payload rest both image shows) (c.add_record.ensures.stop both.0))

pub invariant_of-self-2 : goal.invariant_of-self-2
invariant_of-self-2 g c =
    let D = g.D.Disk in
    let file = c.add_record.new.file in
    let payload = c.args.framed.now in
    let not_broken = ap (λ (k : Open g.row.D.Denot). k.broken) c.self.view_is ∙ c.requires in
    let rest = c.self.invariant.rests not_broken in
    record {
      places = record { records_fit = omega (arith, c.self.invariant.places.records_fit, ap length c.bytes.ensures.bytes, length-framed payload); end_fits = c.if-end-gt-LAST_NUMBER.false };
      rests = λ _. rest_after D.told D.seen D.may_leave _ payload file (c.self.inside.records + 1) (c.self.inside.end + length c.bytes.result.now) rest (from_ok c.add_record.result c.if-is_err.ensures.value c.add_record.ensures.durable)
          c.add_record.ensures.kind.0 (from_ok c.add_record.result c.if-is_err.ensures.value c.add_record.ensures.added) refl (ap (λ (l : List ℕ). c.self.inside.end + length l) c.bytes.ensures.bytes);
      generation_fits = c.self.invariant.generation_fits;
      knows = λ _. knows_after D.told D.seen D.may_leave _ payload file (c.self.inside.records + 1) (c.self.inside.end + length c.bytes.result.now)
          c.add_record.ensures.kind.0 (from_ok c.add_record.result c.if-is_err.ensures.value c.add_record.ensures.added) (ap (λ (l : List ℕ). c.self.inside.end + length l) c.bytes.ensures.bytes) (c.self.invariant.knows not_broken);
      counted = λ broken. absurd (false≢true (sym not_broken ∙ broken));
    }

pub returns-clause-tells : goal.returns-clause-tells
returns-clause-tells g c =
    let D = g.D.Disk in
    let file = c.add_record.new.file in
    let payload = c.args.framed.now in
    let not_broken = ap (λ (k : Open g.row.D.Denot). k.broken) c.self.view_is ∙ c.requires in
    let rest = c.self.invariant.rests not_broken in
    subst (λ (k : Open g.row.D.Denot). BothTold D.told k → store_with c.self.inside.in_b c.self.inside.kind (D.seen file) (D.seen c.self.inside.other) ≡ with_record (told_store D.seen k) payload) c.self.view_is
    (tells_after D.told D.seen D.may_leave _ payload file (c.self.inside.records + 1) (c.self.inside.end + length c.bytes.result.now) rest (from_ok c.add_record.result c.if-is_err.ensures.value c.add_record.ensures.added))

pub returns-clause-any_moment : goal.returns-clause-any_moment
returns-clause-any_moment g c =
    let D = g.D.Disk in
    let file = c.add_record.new.file in
    let payload = c.args.framed.now in
    let not_broken = ap (λ (k : Open g.row.D.Denot). k.broken) c.self.view_is ∙ c.requires in
    let rest = c.self.invariant.rests not_broken in
    subst (λ (k : Open g.row.D.Denot). BothTold D.told k → LeavesOnly D.moment D.left_since k.written file (λ image. IsBeforeOrAfter (told_store D.seen k) payload (image_store D.seen k image))) c.self.view_is
    (λ both. weaker D.moment D.left_since c.self.inside.written file _ _ (c.add_record.ensures.any_moment both.0) (λ image shows. either_told D.told D.seen D.may_leave _ payload rest both image shows))

pub returns-clause-stopped : goal.returns-clause-stopped
returns-clause-stopped g c =
    let D = g.D.Disk in
    let file = c.add_record.new.file in
    let payload = c.args.framed.now in
    let not_broken = ap (λ (k : Open g.row.D.Denot). k.broken) c.self.view_is ∙ c.requires in
    let rest = c.self.invariant.rests not_broken in
    subst (λ (k : Open g.row.D.Denot). BothTold D.told k → k.end + 5 + length payload ≤ LAST_NUMBER
    → RestsWith {T = ℕ} {E = AppendFault} (λ image. image_store D.seen k image ≡ told_store D.seen k) (λ image. image_store D.seen k image ≡ with_record (told_store D.seen k) payload) (D.stop k.written) (D.stop file) (D.short file) (Ok (c.self.inside.end + length c.bytes.result.now))) c.self.view_is
    (λ both room. rests_map _ _ _ _ (D.stop c.self.inside.written) (D.stop file) (D.short file) c.add_record.result (Ok (c.self.inside.end + length c.bytes.result.now)) (not_failed_ok c.add_record.result c.if-is_err.ensures.value)
    (λ image shows. before_told D.told D.seen D.may_leave _ payload rest both image shows)
    (λ image shows. after_told D.told D.seen D.may_leave _ payload rest both image shows) (c.add_record.ensures.stop both.0))

pub returns-clause-durable : goal.returns-clause-durable
returns-clause-durable g c =
    let D = g.D.Disk in
    let file = c.add_record.new.file in
    let payload = c.args.framed.now in
    let not_broken = ap (λ (k : Open g.row.D.Denot). k.broken) c.self.view_is ∙ c.requires in
    let rest = c.self.invariant.rests not_broken in
    rest_after D.told D.seen D.may_leave _ payload file (c.self.inside.records + 1) (c.self.inside.end + length c.bytes.result.now) rest (from_ok c.add_record.result c.if-is_err.ensures.value c.add_record.ensures.durable)
    c.add_record.ensures.kind.0 (from_ok c.add_record.result c.if-is_err.ensures.value c.add_record.ensures.added) refl (ap (λ (l : List ℕ). c.self.inside.end + length l) c.bytes.ensures.bytes)
