use Rattle.std.proofs.Common.{◌≡◌, ◌+◌, ◌∷◌, length, Ok, Err, ◌∙◌}
use Rattle.sig_journal.specs.declared.layout.TheConstants.{GATE_OPEN}
use Rattle.sig_journal.proofs.Appending.{failed_not_ok, from_ok, not_failed_ok}
use Rattle.sig_journal.proofs.Moments.{weaker}
use Rattle.sig_journal.specs.declared.checkpoint.fault.CheckFault.TheVariants.{Store}
use Rattle.sig_journal.specs.Beside.{LeavesTold, TellsBefore}
use Rattle.sig_journal.specs.Gates.{closing_calls}
use Rattle.sig_journal.specs.Heading.{file_bytes}
use Rattle.sig_journal.specs.Snapshot.{TellsSnapshot}
use Rattle.sig_journal.proofs.Runs.{rests_map}
use Rattle.sig_journal.proofs.Snapshots.{either_told, left_told, not_too_great, put_in_force, put_told}
use Rattle.sig_journal.proofs.checkpoint.snapshot.write_snapshot.Goals as goal

pub returns-then-is_err-clause-any_moment : goal.returns-then-is_err-clause-any_moment
returns-then-is_err-clause-any_moment g c =
    let D = g.D.Disk in
    let header = c.args.header in
    let snapshot = c.args.snapshot.now in
    let written = D.seen c.args.written.now in
    let before = D.seen c.args.other.now in
    let bytes = c.as_slice.result.now in
    let is : bytes ≡ file_bytes header.kind (header.generation + 1) header.store_id snapshot = c.as_slice.ensures.value ∙ c.in_ok-bytes.ensures.bytes in
    λ told_written told_other. weaker D.moment D.left_since c.args.other.now c.put_file.new.file _ _ (c.put_file.ensures.any_moment told_other)
    (either_told header snapshot written before bytes c.in_default.ensures c.file_bytes.ensures.named is (c.requires.in_force told_written))

pub returns-then-is_err-clause-stopped : goal.returns-then-is_err-clause-stopped
returns-then-is_err-clause-stopped g c =
    let D = g.D.Disk in
    let header = c.args.header in
    let snapshot = c.args.snapshot.now in
    let written = D.seen c.args.written.now in
    let before = D.seen c.args.other.now in
    let bytes = c.as_slice.result.now in
    let is : bytes ≡ file_bytes header.kind (header.generation + 1) header.store_id snapshot = c.as_slice.ensures.value ∙ c.in_ok-bytes.ensures.bytes in
    λ told_written told_other called.
    rests_map (closing_calls c.args.is_open + 5) (LeavesTold before) (λ image. image ≡ GATE_OPEN ∷ bytes) (TellsBefore header.kind written before) (TellsSnapshot header snapshot written)
    (D.stop c.args.other.now) (D.stop c.put_file.new.file) (D.short c.put_file.new.file) c.put_file.result (Err Store) (failed_not_ok c.put_file.result c.if-is_err.ensures.value)
    (left_told header snapshot written before bytes c.in_default.ensures c.file_bytes.ensures.named is (c.requires.in_force told_written))
    (put_told header snapshot written before bytes c.in_default.ensures c.file_bytes.ensures.named is (c.requires.in_force told_written))
    (c.put_file.ensures.stop told_other)

pub returns-clause-tells : goal.returns-clause-tells
returns-clause-tells g c =
    let D = g.D.Disk in
    let header = c.args.header in
    let snapshot = c.args.snapshot.now in
    let written = D.seen c.args.written.now in
    let before = D.seen c.args.other.now in
    let bytes = c.as_slice.result.now in
    let is : bytes ≡ file_bytes header.kind (header.generation + 1) header.store_id snapshot = c.as_slice.ensures.value ∙ c.in_ok-bytes.ensures.bytes in
    λ told_written told_other.
    put_told header snapshot written before bytes c.in_default.ensures c.file_bytes.ensures.named is (c.requires.in_force told_written)
    (D.seen c.put_file.new.file) (from_ok c.put_file.result c.if-is_err.ensures.value c.put_file.ensures.opened told_other)

pub returns-clause-any_moment : goal.returns-clause-any_moment
returns-clause-any_moment g c =
    let D = g.D.Disk in
    let header = c.args.header in
    let snapshot = c.args.snapshot.now in
    let written = D.seen c.args.written.now in
    let before = D.seen c.args.other.now in
    let bytes = c.as_slice.result.now in
    let is : bytes ≡ file_bytes header.kind (header.generation + 1) header.store_id snapshot = c.as_slice.ensures.value ∙ c.in_ok-bytes.ensures.bytes in
    λ told_written told_other. weaker D.moment D.left_since c.args.other.now c.put_file.new.file _ _ (c.put_file.ensures.any_moment told_other)
    (either_told header snapshot written before bytes c.in_default.ensures c.file_bytes.ensures.named is (c.requires.in_force told_written))

pub returns-clause-stopped : goal.returns-clause-stopped
returns-clause-stopped g c =
    let D = g.D.Disk in
    let header = c.args.header in
    let snapshot = c.args.snapshot.now in
    let written = D.seen c.args.written.now in
    let before = D.seen c.args.other.now in
    let bytes = c.as_slice.result.now in
    let is : bytes ≡ file_bytes header.kind (header.generation + 1) header.store_id snapshot = c.as_slice.ensures.value ∙ c.in_ok-bytes.ensures.bytes in
    λ told_written told_other called.
    rests_map (closing_calls c.args.is_open + 5) (LeavesTold before) (λ image. image ≡ GATE_OPEN ∷ bytes) (TellsBefore header.kind written before) (TellsSnapshot header snapshot written)
    (D.stop c.args.other.now) (D.stop c.put_file.new.file) (D.short c.put_file.new.file) c.put_file.result (Ok tt) (not_failed_ok c.put_file.result c.if-is_err.ensures.value)
    (left_told header snapshot written before bytes c.in_default.ensures c.file_bytes.ensures.named is (c.requires.in_force told_written))
    (put_told header snapshot written before bytes c.in_default.ensures c.file_bytes.ensures.named is (c.requires.in_force told_written))
    (c.put_file.ensures.stop told_other)

pub returns-clause-put : goal.returns-clause-put
returns-clause-put g c =
    let D = g.D.Disk in
    let header = c.args.header in
    let snapshot = c.args.snapshot.now in
    let bytes = c.as_slice.result.now in
    let is : bytes ≡ file_bytes header.kind (header.generation + 1) header.store_id snapshot = c.as_slice.ensures.value ∙ c.in_ok-bytes.ensures.bytes in
    λ told_other. put_in_force header snapshot bytes (D.seen c.put_file.new.file) c.in_default.ensures c.file_bytes.ensures.named is (from_ok c.put_file.result c.if-is_err.ensures.value c.put_file.ensures.opened told_other)

pub returns-clause-fits : goal.returns-clause-fits
returns-clause-fits g c = not_too_great c.args.header.generation (length c.args.snapshot.now) c.in_default.ensures
