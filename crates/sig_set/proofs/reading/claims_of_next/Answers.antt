use Rattle.sig_json.specs.Checks.{first_failing}
use Rattle.sig_set.specs.Judgement.{claims_of}
use Rattle.sig_set.specs.Reading.{reading_checks}
use Rattle.sig_set.proofs.Judged.{as_read, as_refused}
use Rattle.sig_set.proofs.reading.claims_of_next.Goals as goal

pub returns-in-Ok : goal.returns-in-Ok
returns-in-Ok c = as_read (first_failing (reading_checks c.args.bytes.now)) (claims_of c.args.bytes.now) c.in-Ok.claims c.in-Ok.ensures

pub returns-in-Err-Coded : goal.returns-in-Err-Coded
returns-in-Err-Coded c =
    as_refused (first_failing (reading_checks c.args.bytes.now)) (claims_of c.args.bytes.now) c.in-Err-Coded.field-0-0 c.in-Err-Coded.spot (rw c.in-Err-Coded.field-0-is at c.in-Err-Coded.ensures)
