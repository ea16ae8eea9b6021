-- The event types of CAEP with their members in order of checking (CAEP 1.0).
use Rattle.std.specs.Prelude.{ℕ, List, [], ◌∷◌, codes, map, Option}
use Rattle.sig_json.specs.Listed.{listed}
use Rattle.sig_json.specs.Members.{AnyText, OneOf, Whole, TextOrObject, FilledObject, TextOrTexts, Rule, required, optional, TypeRow, row_of}
use Rattle.sig_caep.specs.Lists.{change_text, changes, direction_text, directions, compliance_text, compliances, initiator_text, initiators, principal_text, principals, risk_level_text, risk_levels}
use Rattle.sig_caep.specs.declared.event_type.CaepType.{CaepType}
use Rattle.sig_caep.specs.declared.event_type.CaepType.TheVariants.{SessionRevoked, TokenClaimsChange, CredentialChange, AssuranceLevelChange, DeviceComplianceChange, SessionEstablished, SessionPresented, RiskLevelChange}

-- a row for each type; `namespace` may be missing, which is narrower in CAEP
abbrev pub caep_table : CaepType → TypeRow
-- session revoked (CAEP 1.0, section 3.1)
caep_table SessionRevoked = row_of (codes "session-revoked") []
-- token claims change (section 3.2)
caep_table TokenClaimsChange = row_of (codes "token-claims-change") (required (codes "claims") FilledObject ∷ [])
-- credential change (section 3.3)
caep_table CredentialChange =
    row_of (codes "credential-change")
    (required (codes "credential_type") AnyText ∷ required (codes "change_type") (OneOf (map change_text changes)) ∷ [])
-- assurance level change (section 3.4)
caep_table AssuranceLevelChange =
    row_of (codes "assurance-level-change")
    (optional (codes "namespace") AnyText
    ∷ required (codes "current_level") AnyText
    ∷ optional (codes "change_direction") (OneOf (map direction_text directions))
    ∷ [])
-- device compliance change (section 3.5)
caep_table DeviceComplianceChange =
    row_of (codes "device-compliance-change")
    (required (codes "previous_status") (OneOf (map compliance_text compliances))
    ∷ required (codes "current_status") (OneOf (map compliance_text compliances))
    ∷ [])
-- session established (section 3.6)
caep_table SessionEstablished =
    row_of (codes "session-established")
    (optional (codes "acr") AnyText ∷ optional (codes "amr") TextOrTexts ∷ optional (codes "ext_id") AnyText ∷ optional (codes "fp_ua") AnyText ∷ [])
-- session presented (section 3.7)
caep_table SessionPresented = row_of (codes "session-presented") (optional (codes "ext_id") AnyText ∷ optional (codes "fp_ua") AnyText ∷ [])
-- risk level change (section 3.8)
caep_table RiskLevelChange =
    row_of (codes "risk-level-change")
    (required (codes "principal") (OneOf (map principal_text principals))
    ∷ required (codes "current_level") (OneOf (map risk_level_text risk_levels))
    ∷ optional (codes "previous_level") (OneOf (map risk_level_text risk_levels))
    ∷ optional (codes "risk_reason") AnyText
    ∷ [])

abbrev pub type_text : CaepType → List ℕ
type_text type = (caep_table type).name

-- the types in the order of the table
abbrev pub caep_types : List CaepType
caep_types =
    SessionRevoked
    ∷ TokenClaimsChange
    ∷ CredentialChange
    ∷ AssuranceLevelChange
    ∷ DeviceComplianceChange
    ∷ SessionEstablished
    ∷ SessionPresented
    ∷ RiskLevelChange
    ∷ []

-- the type with this name
abbrev pub type_named : List ℕ → Option CaepType
type_named name = listed type_text caep_types name

-- the members that every event of CAEP may have (CAEP 1.0, section 2)
abbrev pub common_rules : List Rule
common_rules =
    optional (codes "event_timestamp") Whole
    ∷ optional (codes "initiating_entity") (OneOf (map initiator_text initiators))
    ∷ optional (codes "reason_admin") TextOrObject
    ∷ optional (codes "reason_user") TextOrObject
    ∷ []
