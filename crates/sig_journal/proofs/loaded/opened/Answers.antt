use Rattle.std.proofs.Common.{◌≡◌, length, ap, arith}
use Rattle.std.proofs.lemmas.Bool.{false≢true}
use Rattle.sig_journal.specs.Loaded.{found_view}
use Rattle.sig_journal.proofs.LoadLemmas.{records_least}
use Rattle.sig_journal.proofs.loaded.opened.Goals as goal

pub invariant_of-result : goal.invariant_of-result
invariant_of-result g c =
    let records = c.args.found.content.records in
    let counted : length c.as_slice.result.now ≡ length records = ap length c.as_slice.ensures in
    record {
      places = record { records_fit = omega (arith, counted, c.requires.places.ends, records_least records); end_fits = c.requires.places.bound };
      rests = λ whole. record {
        written = c.requires.settled.0;
        other = c.requires.settled.1;
        stands = λ both. record { content = (found_view c.args.found).content; tells = c.requires.told both.0 both.1; ends = c.requires.places.ends; counts = counted };
      };
      generation_fits = c.requires.places.generation_fits;
      knows = λ whole. record { written = c.requires.knows.in_force; other = c.requires.knows.begins };
      counted = λ broken. absurd (false≢true broken);
    }
