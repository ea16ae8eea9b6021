use Rattle.std.proofs.Common.{◌≡◌, ◌+◌, ◌≤◌, List, ℕ, length, sym, ◌∙◌, ap, arith}
use Rattle.sig_journal.specs.Layout.{places_of, records_size}
use Rattle.sig_journal.proofs.Fronts.{length-field}
use Rattle.sig_journal.proofs.content.content_in.Goals as goal

pub copy_from_slice-requires : goal.copy_from_slice-requires
copy_from_slice-requires c =
    let bytes = c.args.bytes.now in
    sym (ap length c.field.ensures ∙ length-field 15 16 bytes (omega (arith, c.in_default.ensures.whole)))

pub returns-clause-places : goal.returns-clause-places
returns-clause-places c =
    let bytes = c.args.bytes.now in
    let size = c.snapshot_length-length.result in
    let within : 35 + size ≤ length bytes = omega (arith, c.in_default.ensures.whole, c.snapshot_length-length.ensures.length) in
    let counted : length c.in_ok-snapshot.snapshot ≡ size = ap length (c.in_ok-snapshot.ensures ∙ c.field-2.ensures) ∙ length-field 35 size bytes within in
    c.of-3.ensures ∙ c.in_ok-records.ensures.places.0 ∙ ap (λ (n : ℕ). places_of (35 + n) c.in_ok-records.records.payloads.items) (sym counted)
    ∙ ap (λ (l : List (List ℕ)). places_of (35 + length c.in_ok-snapshot.snapshot) l) (sym c.of-2.ensures)

pub returns-clause-ends : goal.returns-clause-ends
returns-clause-ends c =
    let bytes = c.args.bytes.now in
    let size = c.snapshot_length-length.result in
    let within : 35 + size ≤ length bytes = omega (arith, c.in_default.ensures.whole, c.snapshot_length-length.ensures.length) in
    let counted : length c.in_ok-snapshot.snapshot ≡ size = ap length (c.in_ok-snapshot.ensures ∙ c.field-2.ensures) ∙ length-field 35 size bytes within in
    omega (arith, c.in_ok-records.ensures.places.1, counted, ap records_size c.of-2.ensures)
