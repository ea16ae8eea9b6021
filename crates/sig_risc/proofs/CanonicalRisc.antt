-- The payload that is written of an event of RISC is canonical.
use Rattle.std.proofs.Common.{◌≤◌, ℕ, List, refl}
use Rattle.serde_json.specs.Data.{Data, no_members, depth}
use Rattle.serde_json.specs.Read.{max_depth}
use Rattle.sig_json.specs.Canon.{IsCanonical}
use Rattle.sig_json.proofs.CanonicalPayloads.{AreNamed, are_named, all_canonical}
use Rattle.sig_json.specs.Order.{InOrder}
use Rattle.sig_risc.specs.Table.{risc_table}
use Rattle.sig_risc.specs.Events.{type_of, kept_of, RiscIs, risc_payload}
use Rattle.sig_risc.specs.declared.event.RiscEvent.{RiscEvent}
use Rattle.sig_risc.specs.declared.event_type.RiscType.{RiscType}
use Rattle.sig_risc.specs.declared.event_type.RiscType.TheVariants as types

named_rules : (t : RiscType) → AreNamed (risc_table t).rules
named_rules types.CredentialChangeRequired = are_named (risc_table types.CredentialChangeRequired).rules refl
named_rules types.AccountPurged = are_named (risc_table types.AccountPurged).rules refl
named_rules types.AccountDisabled = are_named (risc_table types.AccountDisabled).rules refl
named_rules types.AccountEnabled = are_named (risc_table types.AccountEnabled).rules refl
named_rules types.IdentifierChanged = are_named (risc_table types.IdentifierChanged).rules refl
named_rules types.IdentifierRecycled = are_named (risc_table types.IdentifierRecycled).rules refl
named_rules types.CredentialCompromise = are_named (risc_table types.CredentialCompromise).rules refl
named_rules types.OptIn = are_named (risc_table types.OptIn).rules refl
named_rules types.OptOutInitiated = are_named (risc_table types.OptOutInitiated).rules refl
named_rules types.OptOutCancelled = are_named (risc_table types.OptOutCancelled).rules refl
named_rules types.OptOutEffective = are_named (risc_table types.OptOutEffective).rules refl
named_rules types.RecoveryActivated = are_named (risc_table types.RecoveryActivated).rules refl
named_rules types.RecoveryInformationChanged = are_named (risc_table types.RecoveryInformationChanged).rules refl
named_rules types.SessionsRevoked = are_named (risc_table types.SessionsRevoked).rules refl

-- what is written of an event that a payload says, where a text spells that payload
pub risc_canonical : (e : RiscEvent) (name : List ℕ) (v : Data) → InOrder v → depth v ≤ max_depth → RiscIs e name v → IsCanonical (risc_payload e)
risc_canonical e name v order deep h =
    all_canonical v (risc_table (type_of e)).rules (kept_of e) no_members h.members order deep (named_rules (type_of e)) tt
