use Rattle.std.proofs.Common.{rules}
use Rattle.sig_fetch.proofs.counting.counted.Goals as goal

pub returns-clause-turns : goal.returns-clause-turns
returns-clause-turns c = record { accepted = search rules; seen = search rules; refused = search rules }
