use Rattle.std.proofs.Common.{◌∙◌, ap}
use Rattle.std.specs.Prelude.{nat_lt}
use Rattle.sig_nodes.specs.declared.halted.Halted.TheVariants.{Crashed}
use Rattle.sig_nodes.proofs.receiving.load_halted.Goals as goal

pub returns-in-Ok-clause-crashed : goal.returns-in-Ok-clause-crashed
returns-in-Ok-clause-crashed c = λ name texts rests.
    let at = c.in-Ok.ensures name texts rests in
    (at, ap (λ n. Crashed (nat_lt c.args.before n)) (c.tokens.ensures ∙ at.count))
