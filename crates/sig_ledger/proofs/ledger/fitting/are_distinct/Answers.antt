use Rattle.std.proofs.Common.{◌≡◌, ◌∙◌, ap, sym, ◌==◌, nat_eq, true, false, take, arith, rules}
use Rattle.std.specs.Prelude.{cond}
use Rattle.indexmap.specs.IndexSet.{contains}
use Rattle.sig_history.specs.Owed.{names_number}
use Rattle.sig_terms.specs.declared.fact.SettledItem.{SettledItem}
use Rattle.sig_ledger.proofs.OnceLemmas.{named_step, new_start, new_step}
use Rattle.sig_ledger.proofs.ledger.fitting.are_distinct.Goals as goal

pub loop-item-init : goal.loop-item-init
loop-item-init c = record {
  named = λ n. search rules;
  once = new_start c.args.items.now;
}

pub loop-item-preserved : goal.loop-item-preserved
loop-item-preserved c =
    let absent : names_number c.item-item.result.number (take c.loop-item.item-index c.args.items.now) ≡ false =
    search (rules, c.in_ok-insert.ensures.added, c.if-not-branch.false, c.loop-item.invariant.named) in
    record {
      named = λ n. named_step c.args.items.now c.loop-item.item-index c.item-item.result n _ _ (omega arith) (c.loop-item.invariant.named n)
          (c.in_ok-insert.ensures.updates.0 n
          ∙ ap (λ (i : SettledItem). cond (i.number == n) true (contains nat_eq c.loop-item.numbers n)) c.item-item.is);
      once = new_step c.args.items.now c.loop-item.item-index c.item-item.result (omega arith)
          (ap (λ (i : SettledItem). names_number i.number (take c.loop-item.item-index c.args.items.now)) (sym c.item-item.is) ∙ absent)
          c.loop-item.invariant.once;
    }
