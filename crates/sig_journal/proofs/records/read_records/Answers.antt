use Rattle.std.proofs.Common.{◌≡◌, List, ℕ, [], ◌∷◌, ◌++◌, length, inr, sym, ◌∙◌, ap, arith}
use Rattle.sig_journal.specs.Layout.{places_of, records_of}
use Rattle.sig_journal.proofs.LoadLemmas.{places_push, read_bad, read_end, read_more, size_push}
use Rattle.sig_journal.proofs.records.read_records.Goals as goal

pub returns-in-Damaged-clause-records : goal.returns-in-Damaged-clause-records
returns-in-Damaged-clause-records c =
    inr (read_bad c.loop-places.payloads.items c.args.file c.loop-places.place (records_of (length c.loop-places.rest.now) c.loop-places.place c.loop-places.rest.now)
    (records_of (length c.args.bytes.now) c.args.first c.args.bytes.now) c.in-Damaged.ensures.next c.loop-places.invariant.read)

pub loop-places-preserved : goal.loop-places-preserved
loop-places-preserved c =
    let payloads = c.loop-places.payloads.items in
    let payload = c.in-Record.payload.now in
    let grew : c.push.new.self.items ≡ payloads ++ payload ∷ [] =
    c.in_ok-push-in-Record.ensures.items ∙ ap (λ (l : List ℕ). payloads ++ l ∷ []) c.in_ok-of-in-Record.ensures in
    let grown = c.push.new.self.items in
    record {
      read = read_more payloads grown payload c.in-Record.after.now c.loop-places.rest.now c.loop-places.place (records_of (length c.args.bytes.now) c.args.first c.args.bytes.now) grew c.in-Record.ensures.next.0 c.loop-places.invariant.read;
      places = c.in_ok-push-in-Record-2.ensures.items ∙ ap (λ (l : List ℕ). l ++ c.loop-places.place ∷ []) c.loop-places.invariant.places
          ∙ ap (λ (p : ℕ). places_of c.args.first payloads ++ p ∷ []) c.loop-places.invariant.place ∙ sym (places_push c.args.first payloads payload) ∙ ap (λ (l : List (List ℕ)). places_of c.args.first l) (sym grew);
      place = size_push c.loop-places.place c.args.first payloads grown payload grew c.loop-places.invariant.place;
      fits = omega (arith, c.loop-places.invariant.fits, c.in-Record.ensures.next.1);
    }

pub returns-clause-records : goal.returns-clause-records
returns-clause-records c =
    read_end c.loop-places.payloads.items c.args.file (records_of (length c.loop-places.rest.now) c.loop-places.place c.loop-places.rest.now)
    (records_of (length c.args.bytes.now) c.args.first c.args.bytes.now) c.in-End.ensures.next c.loop-places.invariant.read
