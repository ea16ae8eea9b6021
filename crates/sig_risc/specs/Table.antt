-- The event types of RISC with their members in order of checking (RISC 1.0).
use Rattle.std.specs.Prelude.{ℕ, List, [], ◌∷◌, codes, Option}
use Rattle.sig_json.specs.Listed.{listed}
use Rattle.sig_json.specs.Members.{AnyText, required, optional, TypeRow, row_of}
use Rattle.sig_risc.specs.declared.event_type.RiscType.{RiscType}
use Rattle.sig_risc.specs.declared.event_type.RiscType.TheVariants.{CredentialChangeRequired, AccountPurged, AccountDisabled, AccountEnabled, IdentifierChanged, IdentifierRecycled, CredentialCompromise, OptIn, OptOutInitiated, OptOutCancelled, OptOutEffective, RecoveryActivated, RecoveryInformationChanged, SessionsRevoked}

-- a row for each type (RISC 1.0, section 2)
abbrev pub risc_table : RiscType → TypeRow
-- (RISC 1.0, section 2.1)
risc_table CredentialChangeRequired = row_of (codes "account-credential-change-required") []
-- (RISC 1.0, section 2.2)
risc_table AccountPurged = row_of (codes "account-purged") []
-- (RISC 1.0, section 2.3)
risc_table AccountDisabled = row_of (codes "account-disabled") (optional (codes "reason") AnyText ∷ [])
-- (RISC 1.0, section 2.4)
risc_table AccountEnabled = row_of (codes "account-enabled") []
-- (RISC 1.0, section 2.5)
risc_table IdentifierChanged = row_of (codes "identifier-changed") (optional (codes "new-value") AnyText ∷ [])
-- (RISC 1.0, section 2.6)
risc_table IdentifierRecycled = row_of (codes "identifier-recycled") []
-- (RISC 1.0, section 2.7)
risc_table CredentialCompromise = row_of (codes "credential-compromise") (required (codes "credential_type") AnyText ∷ [])
-- (RISC 1.0, section 2.8.1)
risc_table OptIn = row_of (codes "opt-in") []
-- (RISC 1.0, section 2.8.2)
risc_table OptOutInitiated = row_of (codes "opt-out-initiated") []
-- (RISC 1.0, section 2.8.3)
risc_table OptOutCancelled = row_of (codes "opt-out-cancelled") []
-- (RISC 1.0, section 2.8.4)
risc_table OptOutEffective = row_of (codes "opt-out-effective") []
-- (RISC 1.0, section 2.9)
risc_table RecoveryActivated = row_of (codes "recovery-activated") []
-- (RISC 1.0, section 2.10)
risc_table RecoveryInformationChanged = row_of (codes "recovery-information-changed") []
-- (RISC 1.0, section 2.11)
risc_table SessionsRevoked = row_of (codes "sessions-revoked") []

abbrev pub type_text : RiscType → List ℕ
type_text type = (risc_table type).name

-- the types in the order of the table
abbrev pub risc_types : List RiscType
risc_types =
    CredentialChangeRequired
    ∷ AccountPurged
    ∷ AccountDisabled
    ∷ AccountEnabled
    ∷ IdentifierChanged
    ∷ IdentifierRecycled
    ∷ CredentialCompromise
    ∷ OptIn
    ∷ OptOutInitiated
    ∷ OptOutCancelled
    ∷ OptOutEffective
    ∷ RecoveryActivated
    ∷ RecoveryInformationChanged
    ∷ SessionsRevoked
    ∷ []

-- the type with this name
abbrev pub type_named : List ℕ → Option RiscType
type_named name = listed type_text risc_types name
