use Rattle.std.proofs.Common.{◌≡◌, ◌+◌, ◌<◌, ℕ, List, length, take, drop, false, nat_le, sym, ◌∙◌, ap, arith}
use Rattle.std.proofs.lemmas.Bool.Decides.{nat_tests}
use Rattle.sig_json.specs.declared.limits.TheConstants.{LAST_NUMBER}
use Rattle.sig_journal.specs.Layout.{before_records, number_in_4, record_length, records_of}
use Rattle.sig_journal.proofs.RecordLemmas.{found_record}
use Rattle.sig_journal.proofs.records.next_record.Goals as goal

near : (place : ℕ) → place < LAST_NUMBER → nat_le LAST_NUMBER place ≡ false
near place less = grind (arith, nat_tests)

pub returns-clause-next : goal.returns-clause-next
returns-clause-next c =
    let bytes = c.args.bytes.now in
    let size : c.number_in_4.result ≡ record_length bytes = c.number_in_4.ensures ∙ ap number_in_4 c.field.ensures in
    let payload : c.split_at-2.result.1.now ≡ drop 5 (take (5 + record_length bytes) bytes) =
    c.split_at-2.ensures.back ∙ ap (λ (l : List ℕ). drop 5 l) c.split_at.ensures.front ∙ ap (λ (n : ℕ). drop 5 (take (5 + n) bytes)) size in
    let after : c.split_at.result.1.now ≡ drop (5 + record_length bytes) bytes = c.split_at.ensures.back ∙ ap (λ (n : ℕ). drop (5 + n) bytes) size in
    let found = found_record c.args.place bytes (near c.args.place c.if-place-ge-LAST_NUMBER.false) (sym c.is_open.ensures ∙ c.if-not-is_open.false) (omega (arith, c.if-bytes-size.false, size)) in (
      found ∙ (λ i. before_records (sym payload i) (records_of (length (sym after i)) (c.args.place + 5 + length (sym payload i)) (sym after i))),
      omega (arith, c.split_at-2.ensures.back_len, c.split_at.ensures.back_len, c.split_at.ensures.front_len, c.if-bytes-size.false),
    )
