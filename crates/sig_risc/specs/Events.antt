-- The events of RISC and their payloads (RISC 1.0).
use Rattle.std.specs.Prelude.{◌≡◌, ◌↔◌, ℕ, List, [], ◌∷◌, codes, Option, Some, None, option_map, Result, Ok}
use Rattle.serde_json.specs.Data.{Data}
use Rattle.sig_json.specs.Answers.{result_map}
use Rattle.sig_json.specs.Checks.{Check, decided, first_failing}
use Rattle.sig_json.specs.Json.{member_of}
use Rattle.sig_json.specs.Members.{Kept, Words, AllHave, payload_checks, text_in, value_of}
use Rattle.sig_json.specs.Payloads.{payload_by}
use Rattle.sig_json.specs.declared.members.PayloadFault.{PayloadFault}
use Rattle.sig_risc.specs.Table.{risc_table, type_named}
use Rattle.sig_risc.specs.declared.event.RiscEvent.{RiscEvent}
use Rattle.sig_risc.specs.declared.event.RiscEvent.TheVariants.{CredentialChangeRequired, AccountPurged, AccountDisabled, AccountEnabled, IdentifierChanged, IdentifierRecycled, CredentialCompromise, OptIn, OptOutInitiated, OptOutCancelled, OptOutEffective, RecoveryActivated, RecoveryInformationChanged, SessionsRevoked}
use Rattle.sig_risc.specs.declared.event_type.RiscType.{RiscType}
use Rattle.sig_risc.specs.declared.event_type.RiscType.TheVariants as types

-- ---- the relation

abbrev pub type_of : RiscEvent → RiscType
type_of CredentialChangeRequired = types.CredentialChangeRequired
type_of AccountPurged = types.AccountPurged
type_of (AccountDisabled reason) = types.AccountDisabled
type_of AccountEnabled = types.AccountEnabled
type_of (IdentifierChanged new_value) = types.IdentifierChanged
type_of IdentifierRecycled = types.IdentifierRecycled
type_of (CredentialCompromise credential_type) = types.CredentialCompromise
type_of OptIn = types.OptIn
type_of OptOutInitiated = types.OptOutInitiated
type_of OptOutCancelled = types.OptOutCancelled
type_of OptOutEffective = types.OptOutEffective
type_of RecoveryActivated = types.RecoveryActivated
type_of RecoveryInformationChanged = types.RecoveryInformationChanged
type_of SessionsRevoked = types.SessionsRevoked

-- what is kept of the members, in the order of the table
abbrev pub kept_of : RiscEvent → List (Option Kept)
kept_of CredentialChangeRequired = []
kept_of AccountPurged = []
kept_of (AccountDisabled reason) = option_map (λ t. Words t) reason ∷ []
kept_of AccountEnabled = []
kept_of (IdentifierChanged new_value) = option_map (λ t. Words t) new_value ∷ []
kept_of IdentifierRecycled = []
kept_of (CredentialCompromise credential_type) = Some (Words credential_type) ∷ []
kept_of OptIn = []
kept_of OptOutInitiated = []
kept_of OptOutCancelled = []
kept_of OptOutEffective = []
kept_of RecoveryActivated = []
kept_of RecoveryInformationChanged = []
kept_of SessionsRevoked = []

-- the event is what a payload of the type with this name says: each member of the type's row is kept, or is missing where
-- it may be
pub record RiscIs (e : RiscEvent) (name : List ℕ) (v : Data) : Type 0 where
  pub named : (risc_table (type_of e)).name ≡ name
  pub members : AllHave v (risc_table (type_of e)).rules (kept_of e)

-- ---- the reading

-- the event of this type, by the payload
abbrev pub event_in : RiscType → Data → RiscEvent
event_in types.CredentialChangeRequired v = CredentialChangeRequired
event_in types.AccountPurged v = AccountPurged
event_in types.AccountDisabled v = AccountDisabled (option_map text_in (member_of (codes "reason") v))
event_in types.AccountEnabled v = AccountEnabled
event_in types.IdentifierChanged v = IdentifierChanged (option_map text_in (member_of (codes "new-value") v))
event_in types.IdentifierRecycled v = IdentifierRecycled
event_in types.CredentialCompromise v = CredentialCompromise (text_in (value_of (codes "credential_type") v))
event_in types.OptIn v = OptIn
event_in types.OptOutInitiated v = OptOutInitiated
event_in types.OptOutCancelled v = OptOutCancelled
event_in types.OptOutEffective v = OptOutEffective
event_in types.RecoveryActivated v = RecoveryActivated
event_in types.RecoveryInformationChanged v = RecoveryInformationChanged
event_in types.SessionsRevoked v = SessionsRevoked

-- the members of the type's row are checked
abbrev pub risc_checks : RiscType → Data → List (Check PayloadFault)
risc_checks type v = payload_checks (risc_table type).rules v

-- the event of this type, or the fault of the first check that fails
abbrev pub risc_by : Option RiscType → Data → Result (Option RiscEvent) PayloadFault
risc_by None v = Ok None
risc_by (Some type) v = result_map (λ e. Some e) (decided (first_failing (risc_checks type v)) (event_in type v))

-- the event that the payload of the type with this name says; none where the name is no row's
abbrev pub risc_of : List ℕ → Data → Result (Option RiscEvent) PayloadFault
risc_of name v = risc_by (type_named name) v

-- ---- what is written

-- the payload of an event
abbrev pub risc_payload : RiscEvent → Data
risc_payload e = payload_by (risc_table (type_of e)).rules (kept_of e)

-- ---- the law

-- the relation and the reading agree
abbrev pub ReadsRisc : Type 0
ReadsRisc = (e : RiscEvent) (name : List ℕ) (v : Data) → RiscIs e name v ↔ (risc_of name v ≡ Ok (Some e))
