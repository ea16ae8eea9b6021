use Rattle.std.proofs.Common.{◌≡◌, ◌-◌}
use Rattle.sig_fields.specs.Kinds.{items}
use Rattle.sig_fields.proofs.ItemLemmas.{joined}
use Rattle.sig_base.proofs.lists.take_items.Given as goal

abbrev pub invariant-loop : goal.invariant-loop
invariant-loop g l = items g.F.Field.read l.count l.initial.bytes ≡ joined l.items.items (items g.F.Field.read (l.count - l.counter) l.bytes)
