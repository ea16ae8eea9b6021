-- The payload that is written of an event of CAEP is canonical.
use Rattle.std.proofs.Common.{◌≤◌, ℕ, List, refl}
use Rattle.serde_json.specs.Data.{Data, no_members, depth}
use Rattle.serde_json.specs.Read.{max_depth}
use Rattle.sig_json.specs.Canon.{IsCanonical}
use Rattle.sig_json.specs.Payloads.{put_all}
use Rattle.sig_json.proofs.CanonicalPayloads.{AreNamed, are_named, all_canonical}
use Rattle.sig_json.specs.Order.{InOrder}
use Rattle.sig_caep.specs.Table.{caep_table, common_rules}
use Rattle.sig_caep.specs.Events.{type_of, kept_of, common_kept, CaepIs, caep_payload}
use Rattle.sig_caep.specs.declared.event.CaepEvent.{CaepEvent}
use Rattle.sig_caep.specs.declared.event_type.CaepType.{CaepType}
use Rattle.sig_caep.specs.declared.event_type.CaepType.TheVariants as types

named_rules : (t : CaepType) → AreNamed (caep_table t).rules
named_rules types.SessionRevoked = are_named (caep_table types.SessionRevoked).rules refl
named_rules types.TokenClaimsChange = are_named (caep_table types.TokenClaimsChange).rules refl
named_rules types.CredentialChange = are_named (caep_table types.CredentialChange).rules refl
named_rules types.AssuranceLevelChange = are_named (caep_table types.AssuranceLevelChange).rules refl
named_rules types.DeviceComplianceChange = are_named (caep_table types.DeviceComplianceChange).rules refl
named_rules types.SessionEstablished = are_named (caep_table types.SessionEstablished).rules refl
named_rules types.SessionPresented = are_named (caep_table types.SessionPresented).rules refl
named_rules types.RiskLevelChange = are_named (caep_table types.RiskLevelChange).rules refl

-- what is written of an event that a payload says, where a text spells that payload
pub caep_canonical : (e : CaepEvent) (name : List ℕ) (v : Data) → InOrder v → depth v ≤ max_depth → CaepIs e name v → IsCanonical (caep_payload e)
caep_canonical e name v order deep h =
    let rules = (caep_table (type_of e.kind)).rules in
    let kept = kept_of e.kind in
    all_canonical v common_rules (common_kept e.common) (put_all rules kept no_members) h.common order deep (are_named common_rules refl)
    (all_canonical v rules kept no_members h.members order deep (named_rules (type_of e.kind)) tt)
