-- What is known of a node that is there.
use Rattle.std.proofs.Common.{◌≡◌, ap, subst, ℕ, List, Option, Some, None, Ok, Err, refl}
use Rattle.std.specs.Prelude.{IfSome}
use Rattle.sig_terms.specs.declared.call.Call.{Call}
use Rattle.sig_terms.specs.declared.fact.Fact.{Fact}
use Rattle.sig_journal.specs.declared.node_fault.NodeFault.{NodeFault}
use Rattle.sig_journal.specs.declared.node_fault.NodeFault.TheVariants.{Store, Full, Memory}
use Rattle.sig_nodes.specs.Sending.{tx_told}
use Rattle.sig_schedules.specs.Replay.{replay_rules, replay_store}
use Rattle.sig_world.specs.Ends.{IsFullTx, fault_told}

pub held : {A : Type 0} (P : A → Type 0) (o : Option A) (a : A) → o ≡ Some a → IfSome o P → P a
held P o a is h = subst (λ x. IfSome x P) is h

-- a fault of the transmitter's node stops the script by its number alone
pub full_tx : (facts : List Fact) (c : Call) (now : ℕ) (e : NodeFault) → ((n : ℕ) → e ≡ Full n → tx_told replay_rules replay_store facts c now ≡ Err (Full n)) → IsFullTx facts c now (fault_told e)
full_tx facts c now Store h = tt
full_tx facts c now (Full n) h = h n refl
full_tx facts c now Memory h = tt
