use Rattle.std.proofs.Common.{◌∙◌, ap, length}
use Rattle.std.specs.Prelude.{nat_lt}
use Rattle.sig_nodes.specs.declared.halted.Halted.TheVariants.{Crashed}
use Rattle.sig_nodes.proofs.SendingLemmas.{count_at}
use Rattle.sig_nodes.proofs.sending.load_halted.Goals as goal

pub returns-in-Ok-clause-crashed : goal.returns-in-Ok-clause-crashed
returns-in-Ok-clause-crashed c = λ name facts rests.
    let at = c.in-Ok.ensures name facts rests in
    (at, ap (λ n. Crashed (nat_lt c.args.before n)) (c.records.ensures ∙ count_at c.args.rules name facts c.in-Ok.again at))
