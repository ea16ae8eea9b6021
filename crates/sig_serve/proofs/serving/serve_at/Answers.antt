use Rattle.std.proofs.Common.{◌∙◌, refl, sym, subst}
use Rattle.sig_outside.proofs.CauseLemmas.{later_rose}
use Rattle.sig_opening.specs.Ends.{IsEndOfWatches}
use Rattle.sig_opening.specs.declared.ending.ServeEnd.TheVariants.{NetworkFailed}
use Rattle.sig_opening.proofs.EndLemmas.{broken_where, load_damaged, load_ends, load_failed, load_missing, load_other, not_missing}
use Rattle.sig_opening.proofs.FilesLemmas.{same_told}
use Rattle.sig_serve.specs.Ends.{state_of}
use Rattle.sig_serve.proofs.ServingLemmas.{serves_at, stays_told}
use Rattle.sig_serve.proofs.serving.serve_at.Goals as goal

pub returns-in-Ok-clause-no_store : goal.returns-in-Ok-clause-no_store
returns-in-Ok-clause-no_store g c = λ is. absurd (subst IsEndOfWatches is c.run_watches-node.ensures.runs.ends.kind)

pub returns-in-Ok-clause-damaged : goal.returns-in-Ok-clause-damaged
returns-in-Ok-clause-damaged g c = λ file at is. absurd (subst IsEndOfWatches is c.run_watches-node.ensures.runs.ends.kind)

pub returns-in-Ok-clause-missing : goal.returns-in-Ok-clause-missing
returns-in-Ok-clause-missing g c = λ lacks. absurd (not_missing _ _ c.in-Ok.ensures.found lacks)

pub returns-in-Ok-clause-store_failed : goal.returns-in-Ok-clause-store_failed
returns-in-Ok-clause-store_failed g c = λ is.
    later_rose _ _ _ c.in-Ok.ensures.later (c.give_back.ensures.counted (broken_where _ _ is c.run_watches-node.ensures.breaks))

pub returns-in-Ok-clause-serves : goal.returns-in-Ok-clause-serves
returns-in-Ok-clause-serves g c =
    serves_at g.X.D.Disk.told g.X.D.Disk.seen _ _ _ _ _ c.in-Ok.node c.run_watches-node.result.node c.in-Ok.ensures.opens c.run_watches-node.ensures.runs c.run_watches-node.ensures.breaks
    c.give_back.ensures.tells c.give_back.ensures.a c.give_back.ensures.b

pub returns-in-Ok-clause-back : goal.returns-in-Ok-clause-back
returns-in-Ok-clause-back g c =
    stays_told g.X.D.Disk.told g.X.D.Disk.seen _ _ _ _ _ _ _ _ _ c.in-Ok.node c.run_watches-node.result.node c.in-Ok.ensures.opens c.run_watches-node.ensures.runs c.give_back.ensures.a c.give_back.ensures.b

pub returns-clause-store_failed : goal.returns-clause-store_failed
returns-clause-store_failed g c = λ is. load_failed state_of c.in-Err.cause _ _ _ _ _ c.in-Err.ensures.halts (sym c.of_unopened.ensures ∙ is)

pub returns-clause-no_store : goal.returns-clause-no_store
returns-clause-no_store g c = λ is. load_missing state_of c.in-Err.cause _ _ _ _ _ c.in-Err.ensures.halts (sym c.of_unopened.ensures ∙ is)

pub returns-clause-damaged : goal.returns-clause-damaged
returns-clause-damaged g c = λ file at is. load_damaged state_of c.in-Err.cause _ _ _ _ _ c.in-Err.ensures.halts file at (sym c.of_unopened.ensures ∙ is)

pub returns-clause-network_failed : goal.returns-clause-network_failed
returns-clause-network_failed g c = λ is. absurd (load_other c.in-Err.cause NetworkFailed (λ k. k) (sym c.of_unopened.ensures ∙ is))

pub returns-clause-serves : goal.returns-clause-serves
returns-clause-serves g c = load_ends c.in-Err.cause _ _ _ _ c.of_unopened.ensures (record { files = c.in-Err.ensures.back; door = refl })

pub returns-clause-missing : goal.returns-clause-missing
returns-clause-missing g c = λ lacks. load_ends c.in-Err.cause _ _ _ _ c.of_unopened.ensures (record { files = c.in-Err.ensures.back; door = refl })

pub returns-clause-back : goal.returns-clause-back
returns-clause-back g c = (same_told _ _ c.in-Err.ensures.back.0, same_told _ _ c.in-Err.ensures.back.1)
