use Rattle.sig_set.proofs.ShortTokens.{short_enough}
use Rattle.sig_set.proofs.laws.short_payloads_are_written.Goals as goal

pub returns : goal.returns
returns c = short_enough
