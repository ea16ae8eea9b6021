use Rattle.std.proofs.Common.{ap, ◌∙◌, subst, sym}
use Rattle.sig_sessions.specs.Changes.{Held, IsNew}
use Rattle.sig_sessions.specs.Table.{are_distinct}
use Rattle.sig_sessions.proofs.FoundUpdates.{entries_of, indexed_applied}
use Rattle.sig_sessions.proofs.Rows.{distinct_applied}
use Rattle.sig_sessions.proofs.table.Table.commit.Goals as goal

pub invariant_of-self : goal.invariant_of-self
invariant_of-self c =
    let new : IsNew c.self.inside.rows.items c.args.change.added = subst (λ (h : Held). IsNew h.rows c.args.change.added) (sym c.self.view_is) c.requires.new in record {
      distinct = ap are_distinct c.take_in.ensures.rows ∙ distinct_applied c.args.change c.self.inside.rows.items new c.self.invariant.distinct;
      placed = c.take_in.ensures.places
          ∙ indexed_applied c.args.change c.self.inside.rows.items c.self.inside.places.entries c.self.invariant.placed
          ∙ ap entries_of (sym c.take_in.ensures.rows);
    }
