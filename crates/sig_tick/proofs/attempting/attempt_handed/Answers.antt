use Rattle.std.proofs.Common.{rules, ◌≡◌, ◌∙◌, Ok, Err, Result}
use Rattle.std.specs.Prelude.{⊤}
use Rattle.sig_journal.specs.declared.node_fault.NodeFault.{NodeFault}
use Rattle.sig_tick.specs.Listing.{ended}
use Rattle.sig_tick.proofs.TryLemmas.{handed_starved, well_ended}
use Rattle.sig_tick.proofs.attempting.attempt_handed.Goals as goal

pub returns-in-Err-tokens_handed-clause-attempted : goal.returns-in-Err-tokens_handed-clause-attempted
returns-in-Err-tokens_handed-clause-attempted g c stream earlier turn e =
    let is : c.last_ended.result ≡ ended turn.result = c.last_ended.ensures earlier turn (c.as_slice.ensures.value ∙ e) in
    rw c.none-in-Err-tokens_handed.ensures (handed_starved c.args.rules.now _ stream turn.result _ _ _ tt (well_ended c.last_ended.result c.in_default.not-Err ∙ is))
