use Rattle.std.proofs.Common.{arith}
use Rattle.sig_http.proofs.target.at_colon.Goals as goal

pub returns-in-Some : goal.returns-in-Some
returns-in-Some c = record { before = (c.in-Some.ensures.byte (omega arith) (λ w o f. f)).0; after = (c.in-Some.ensures.byte (omega arith) (λ w o f. f)).1 }
