-- The payload that is written of an event of RISC says that event.
use Rattle.std.proofs.Common.{◌≤◌, ℕ, List, refl}
use Rattle.serde_json.specs.Data.{Data, depth}
use Rattle.serde_json.specs.Read.{max_depth}
use Rattle.sig_json.proofs.PutMembers.{AreDistinct, payload_has, have_proper}
use Rattle.sig_json.specs.Order.{InOrder}
use Rattle.sig_risc.specs.Table.{risc_table}
use Rattle.sig_risc.specs.Events.{type_of, kept_of, RiscIs, risc_payload}
use Rattle.sig_risc.specs.declared.event.RiscEvent.{RiscEvent}
use Rattle.sig_risc.specs.declared.event_type.RiscType.{RiscType}
use Rattle.sig_risc.specs.declared.event_type.RiscType.TheVariants as types

distinct_rules : (t : RiscType) → AreDistinct (risc_table t).rules
distinct_rules types.CredentialChangeRequired = tt
distinct_rules types.AccountPurged = tt
distinct_rules types.AccountDisabled = (refl, tt)
distinct_rules types.AccountEnabled = tt
distinct_rules types.IdentifierChanged = (refl, tt)
distinct_rules types.IdentifierRecycled = tt
distinct_rules types.CredentialCompromise = (refl, tt)
distinct_rules types.OptIn = tt
distinct_rules types.OptOutInitiated = tt
distinct_rules types.OptOutCancelled = tt
distinct_rules types.OptOutEffective = tt
distinct_rules types.RecoveryActivated = tt
distinct_rules types.RecoveryInformationChanged = tt
distinct_rules types.SessionsRevoked = tt

-- an event that a payload says, where a text spells it, is said by what is written of the event
pub risc_written : (e : RiscEvent) (name : List ℕ) (v : Data) → InOrder v → depth v ≤ max_depth → RiscIs e name v → RiscIs e name (risc_payload e)
risc_written e name v order deep h =
    let rules = (risc_table (type_of e)).rules in
    record { named = h.named; members = payload_has rules (kept_of e) (distinct_rules (type_of e)) (have_proper v rules (kept_of e) order deep h.members) }
