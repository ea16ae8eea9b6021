-- The payload that is written of an event of CAEP says that event.
use Rattle.std.proofs.Common.{◌≤◌, ℕ, List, refl}
use Rattle.serde_json.specs.Data.{Data, no_members, depth}
use Rattle.serde_json.specs.Read.{max_depth}
use Rattle.sig_json.specs.Payloads.{put_all}
use Rattle.sig_json.proofs.PutMembers.{AreDistinct, AreApart, get_other, none_of_none, none_apart, named_apart, put_have, have_proper}
use Rattle.sig_json.specs.Order.{InOrder}
use Rattle.sig_caep.specs.Table.{caep_table, common_rules}
use Rattle.sig_caep.specs.Events.{type_of, kept_of, common_kept, CaepIs, caep_payload}
use Rattle.sig_caep.specs.declared.event.CaepEvent.{CaepEvent}
use Rattle.sig_caep.specs.declared.event_type.CaepType.{CaepType}
use Rattle.sig_caep.specs.declared.event_type.CaepType.TheVariants as types

distinct_rules : (t : CaepType) → AreDistinct (caep_table t).rules
distinct_rules types.SessionRevoked = tt
distinct_rules types.TokenClaimsChange = (refl, tt)
distinct_rules types.CredentialChange = (refl, (refl, tt))
distinct_rules types.AssuranceLevelChange = (refl, (refl, (refl, tt)))
distinct_rules types.DeviceComplianceChange = (refl, (refl, tt))
distinct_rules types.SessionEstablished = (refl, (refl, (refl, (refl, tt))))
distinct_rules types.SessionPresented = (refl, (refl, tt))
distinct_rules types.RiskLevelChange = (refl, (refl, (refl, (refl, tt))))

distinct_common : AreDistinct common_rules
distinct_common = (refl, (refl, (refl, (refl, tt))))

apart_rules : (t : CaepType) → AreApart (caep_table t).rules common_rules
apart_rules types.SessionRevoked = tt
apart_rules types.TokenClaimsChange = (refl, tt)
apart_rules types.CredentialChange = (refl, (refl, tt))
apart_rules types.AssuranceLevelChange = (refl, (refl, (refl, tt)))
apart_rules types.DeviceComplianceChange = (refl, (refl, tt))
apart_rules types.SessionEstablished = (refl, (refl, (refl, (refl, tt))))
apart_rules types.SessionPresented = (refl, (refl, tt))
apart_rules types.RiskLevelChange = (refl, (refl, (refl, (refl, tt))))

apart_common : (t : CaepType) → AreApart common_rules (caep_table t).rules
apart_common types.SessionRevoked = (refl, (refl, (refl, (refl, tt))))
apart_common types.TokenClaimsChange = (refl, (refl, (refl, (refl, tt))))
apart_common types.CredentialChange = (refl, (refl, (refl, (refl, tt))))
apart_common types.AssuranceLevelChange = (refl, (refl, (refl, (refl, tt))))
apart_common types.DeviceComplianceChange = (refl, (refl, (refl, (refl, tt))))
apart_common types.SessionEstablished = (refl, (refl, (refl, (refl, tt))))
apart_common types.SessionPresented = (refl, (refl, (refl, (refl, tt))))
apart_common types.RiskLevelChange = (refl, (refl, (refl, (refl, tt))))

-- an event that a payload says, where a text spells it, is said by what is written of the event
pub caep_written : (e : CaepEvent) (name : List ℕ) (v : Data) → InOrder v → depth v ≤ max_depth → CaepIs e name v → CaepIs e name (caep_payload e)
caep_written e name v order deep h =
    let t = type_of e.kind in
    let rules = (caep_table t).rules in
    let kept = kept_of e.kind in
    let common = common_kept e.common in
    let inner = put_all rules kept no_members in
    let all = put_all common_rules common inner in
    record {
      named = h.named;
      members =
          put_have rules kept no_members all (distinct_rules t) (none_of_none rules) (have_proper v rules kept order deep h.members)
          (λ q is. get_other q common_rules common inner (named_apart q rules common_rules (apart_rules t) is));
      common =
          put_have common_rules common inner all distinct_common (none_apart common_rules rules kept no_members (apart_common t) (none_of_none common_rules))
          (have_proper v common_rules common order deep h.common)
          (λ q is. refl);
    }
