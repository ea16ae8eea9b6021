use Rattle.std.proofs.Common.{◌∙◌, sym, ap, Bool, ◌&&◌, length, eq-eqb}
use Rattle.std.specs.List.{list_all}
use Rattle.sig_tick.specs.Bringing.{is_settling}
use Rattle.sig_tick.proofs.bringing.are_settled.Goals as goal

pub returns-then-turns-count : goal.returns-then-turns-count
returns-then-turns-count c =
    c.all_settling.ensures ∙ sym (ap (λ (b : Bool). b && list_all is_settling c.args.turns.now) (eq-eqb (length c.args.turns.now) c.args.count c.if-turns-count.true))
