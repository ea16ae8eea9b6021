use Rattle.std.proofs.Common.{◌∙◌, ap, sym, if◌then◌else◌}
use Rattle.sig_inbox.specs.Pairs.{has_pair}
use Rattle.sig_inbox.specs.declared.seen.Found.TheVariants.{Added, There}
use Rattle.sig_guard.specs.Guard.{rows_after}
use Rattle.sig_guard.proofs.GuardLemmas.{rows_after-new, rows_after-there}
use Rattle.sig_sessions.specs.Changes.{applied}
use Rattle.sig_guard.proofs.guard.Guard.take.Goals as goal

pub returns-in-There-clause-rows : goal.returns-in-There-clause-rows
returns-in-There-clause-rows c =
    c.in_ok-change.ensures.same
    ∙ sym (rows_after-there c.args.self.now.seen.pairs c.args.self.now.table.rows c.in_ok-claims.claims
    (sym c.in-There.is ∙ c.in_ok-add.ensures.found ∙ ap (λ pair. if has_pair pair c.args.self.now.seen.pairs then There else Added) c.pair_of-pair.ensures))
    ∙ sym (ap (rows_after c.args.self.now.seen.pairs c.args.self.now.table.rows) c.in_ok-claims.ensures)

pub returns-in-Added-clause-rows : goal.returns-in-Added-clause-rows
returns-in-Added-clause-rows c =
    c.commit.ensures
    ∙ ap (λ rows. applied c.in_ok-change.change rows) c.in_ok-change.ensures.same
    ∙ c.in_ok-change.ensures.makes
    ∙ sym (rows_after-new c.args.self.now.seen.pairs c.args.self.now.table.rows c.in_ok-claims.claims
    (sym c.in-Added.is ∙ c.in_ok-add.ensures.found ∙ ap (λ pair. if has_pair pair c.args.self.now.seen.pairs then There else Added) c.pair_of-pair.ensures))
    ∙ sym (ap (rows_after c.args.self.now.seen.pairs c.args.self.now.table.rows) c.in_ok-claims.ensures)
