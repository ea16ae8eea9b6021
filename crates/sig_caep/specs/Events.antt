-- The events of CAEP and their payloads (CAEP 1.0).
use Rattle.std.specs.Prelude.{◌≡◌, ◌↔◌, ℕ, List, [], ◌∷◌, ◌++◌, codes, Option, Some, None, option_map, Result, Ok}
use Rattle.serde_json.specs.Data.{Data, object, no_members}
use Rattle.serde_json.specs.Written.{compact_text}
use Rattle.sig_json.specs.Answers.{result_map}
use Rattle.sig_json.specs.Checks.{Check, decided, first_failing}
use Rattle.sig_json.specs.Json.{member_of}
use Rattle.sig_json.specs.Members.{Kept, Words, Number, Canonical, AllHave, payload_checks, text_in, whole_in, value_of}
use Rattle.sig_json.specs.Payloads.{put_all}
use Rattle.sig_json.specs.declared.members.PayloadFault.{PayloadFault}
use Rattle.sig_caep.specs.Lists.{change_text, change_in, direction_text, direction_in, compliance_text, compliance_in, initiator_text, initiator_in, principal_text, principal_in, risk_level_text, risk_level_in}
use Rattle.sig_caep.specs.Table.{caep_table, type_named, common_rules}
use Rattle.sig_caep.specs.declared.common_members.Common.{Common}
use Rattle.sig_caep.specs.declared.kind.CaepKind.{CaepKind}
use Rattle.sig_caep.specs.declared.kind.CaepKind.TheVariants.{SessionRevoked, TokenClaimsChange, CredentialChange, AssuranceLevelChange, DeviceComplianceChange, SessionEstablished, SessionPresented, RiskLevelChange}
use Rattle.sig_caep.specs.declared.event.CaepEvent.{CaepEvent}
use Rattle.sig_caep.specs.declared.event_type.CaepType.{CaepType}
use Rattle.sig_caep.specs.declared.event_type.CaepType.TheVariants as types

-- ---- the relation

abbrev pub type_of : CaepKind → CaepType
type_of SessionRevoked = types.SessionRevoked
type_of (TokenClaimsChange claims) = types.TokenClaimsChange
type_of (CredentialChange credential_type change_type) = types.CredentialChange
type_of (AssuranceLevelChange namespace current_level change_direction) = types.AssuranceLevelChange
type_of (DeviceComplianceChange previous_status current_status) = types.DeviceComplianceChange
type_of (SessionEstablished acr amr ext_id fp_ua) = types.SessionEstablished
type_of (SessionPresented ext_id fp_ua) = types.SessionPresented
type_of (RiskLevelChange principal current_level previous_level risk_reason) = types.RiskLevelChange

-- what is kept of the members of its type, in the order of the table
abbrev pub kept_of : CaepKind → List (Option Kept)
kept_of SessionRevoked = []
kept_of (TokenClaimsChange claims) = Some (Canonical claims) ∷ []
kept_of (CredentialChange credential_type change_type) = Some (Words credential_type) ∷ Some (Words (change_text change_type)) ∷ []
kept_of (AssuranceLevelChange namespace current_level change_direction) =
    option_map (λ t. Words t) namespace ∷ Some (Words current_level) ∷ option_map (λ x. Words (direction_text x)) change_direction ∷ []
kept_of (DeviceComplianceChange previous_status current_status) =
    Some (Words (compliance_text previous_status)) ∷ Some (Words (compliance_text current_status)) ∷ []
kept_of (SessionEstablished acr amr ext_id fp_ua) =
    option_map (λ t. Words t) acr ∷ option_map (λ t. Canonical t) amr ∷ option_map (λ t. Words t) ext_id ∷ option_map (λ t. Words t) fp_ua ∷ []
kept_of (SessionPresented ext_id fp_ua) = option_map (λ t. Words t) ext_id ∷ option_map (λ t. Words t) fp_ua ∷ []
kept_of (RiskLevelChange principal current_level previous_level risk_reason) =
    Some (Words (principal_text principal))
    ∷ Some (Words (risk_level_text current_level))
    ∷ option_map (λ x. Words (risk_level_text x)) previous_level
    ∷ option_map (λ t. Words t) risk_reason
    ∷ []

-- what is kept of the common members
abbrev pub common_kept : Common → List (Option Kept)
common_kept c =
    option_map (λ z. Number z) c.event_timestamp
    ∷ option_map (λ x. Words (initiator_text x)) c.initiating_entity
    ∷ option_map (λ t. Canonical t) c.reason_admin
    ∷ option_map (λ t. Canonical t) c.reason_user
    ∷ []

-- the event is what a payload of the type with this name says: each member of the type's row and each common one is
-- kept, or is missing where it may be
pub record CaepIs (e : CaepEvent) (name : List ℕ) (v : Data) : Type 0 where
  pub named : (caep_table (type_of e.kind)).name ≡ name
  pub members : AllHave v (caep_table (type_of e.kind)).rules (kept_of e.kind)
  pub common : AllHave v common_rules (common_kept e.common)

-- ---- the reading

-- the members of an event of this type, by the payload
abbrev pub kind_in : CaepType → Data → CaepKind
kind_in types.SessionRevoked v = SessionRevoked
kind_in types.TokenClaimsChange v = TokenClaimsChange (compact_text (value_of (codes "claims") v))
kind_in types.CredentialChange v = CredentialChange (text_in (value_of (codes "credential_type") v)) (change_in (value_of (codes "change_type") v))
kind_in types.AssuranceLevelChange v =
    AssuranceLevelChange
    (option_map text_in (member_of (codes "namespace") v))
    (text_in (value_of (codes "current_level") v))
    (option_map direction_in (member_of (codes "change_direction") v))
kind_in types.DeviceComplianceChange v =
    DeviceComplianceChange (compliance_in (value_of (codes "previous_status") v)) (compliance_in (value_of (codes "current_status") v))
kind_in types.SessionEstablished v =
    SessionEstablished
    (option_map text_in (member_of (codes "acr") v))
    (option_map (λ d. compact_text d) (member_of (codes "amr") v))
    (option_map text_in (member_of (codes "ext_id") v))
    (option_map text_in (member_of (codes "fp_ua") v))
kind_in types.SessionPresented v = SessionPresented (option_map text_in (member_of (codes "ext_id") v)) (option_map text_in (member_of (codes "fp_ua") v))
kind_in types.RiskLevelChange v =
    RiskLevelChange
    (principal_in (value_of (codes "principal") v))
    (risk_level_in (value_of (codes "current_level") v))
    (option_map risk_level_in (member_of (codes "previous_level") v))
    (option_map text_in (member_of (codes "risk_reason") v))

-- the common members, by the payload
abbrev pub common_in : Data → Common
common_in v = record {
  event_timestamp = option_map whole_in (member_of (codes "event_timestamp") v);
  initiating_entity = option_map initiator_in (member_of (codes "initiating_entity") v);
  reason_admin = option_map (λ d. compact_text d) (member_of (codes "reason_admin") v);
  reason_user = option_map (λ d. compact_text d) (member_of (codes "reason_user") v);
}

abbrev pub event_in : CaepType → Data → CaepEvent
event_in type v = record { common = common_in v; kind = kind_in type v }

-- the members of the type's row are checked, and then the common ones
abbrev pub caep_checks : CaepType → Data → List (Check PayloadFault)
caep_checks type v = payload_checks (caep_table type).rules v ++ payload_checks common_rules v

-- the event of this type, or the fault of the first check that fails
abbrev pub caep_by : Option CaepType → Data → Result (Option CaepEvent) PayloadFault
caep_by None v = Ok None
caep_by (Some type) v = result_map (λ e. Some e) (decided (first_failing (caep_checks type v)) (event_in type v))

-- the event that the payload of the type with this name says; none where the name is no row's
abbrev pub caep_of : List ℕ → Data → Result (Option CaepEvent) PayloadFault
caep_of name v = caep_by (type_named name) v

-- ---- what is written

-- the payload of an event
abbrev pub caep_payload : CaepEvent → Data
caep_payload e = object (put_all common_rules (common_kept e.common) (put_all (caep_table (type_of e.kind)).rules (kept_of e.kind) no_members))

-- ---- the law

-- the relation and the reading agree
abbrev pub ReadsCaep : Type 0
ReadsCaep = (e : CaepEvent) (name : List ℕ) (v : Data) → CaepIs e name v ↔ (caep_of name v ≡ Ok (Some e))
