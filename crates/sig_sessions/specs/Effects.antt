-- What an event makes of a row of the session table (defined here).
use Rattle.std.specs.Prelude.{ℕ, List, Bool, true, false, Option, Some, None}
use Rattle.sig_json.specs.Checks.{or_else}
use Rattle.sig_caep.specs.declared.change.Change.{Change}
use Rattle.sig_caep.specs.declared.change.Change.TheVariants.{Create, Revoke, Update, Delete}
use Rattle.sig_caep.specs.declared.compliance.Compliance.{Compliance}
use Rattle.sig_caep.specs.declared.compliance.Compliance.TheVariants as compliance
use Rattle.sig_caep.specs.declared.kind.CaepKind.{CaepKind}
use Rattle.sig_caep.specs.declared.kind.CaepKind.TheVariants as caep
use Rattle.sig_risc.specs.declared.event.RiscEvent.{RiscEvent}
use Rattle.sig_risc.specs.declared.event.RiscEvent.TheVariants as risc
use Rattle.sig_event.specs.declared.event.Event.{Event}
use Rattle.sig_event.specs.declared.event.Event.TheVariants as event
use Rattle.sig_sessions.specs.declared.standing.Session.{Session}
use Rattle.sig_sessions.specs.declared.standing.Session.TheVariants as session
use Rattle.sig_sessions.specs.declared.standing.Account.{Account}
use Rattle.sig_sessions.specs.declared.standing.Account.TheVariants as account
use Rattle.sig_sessions.specs.declared.standing.Device.{Device}
use Rattle.sig_sessions.specs.declared.standing.Device.TheVariants as device
use Rattle.sig_sessions.specs.declared.standing.Opt.{Opt}
use Rattle.sig_sessions.specs.declared.standing.Opt.TheVariants as opt
use Rattle.sig_sessions.specs.declared.state.State.{State}

-- ---- a state with one part changed

abbrev pub with_session : Session → State → State
with_session x s = record { session = x; account = s.account; device = s.device; reset = s.reset; stale = s.stale; opt = s.opt }

abbrev pub with_account : Account → State → State
with_account x s = record { session = s.session; account = x; device = s.device; reset = s.reset; stale = s.stale; opt = s.opt }

abbrev pub with_device : Device → State → State
with_device x s = record { session = s.session; account = s.account; device = x; reset = s.reset; stale = s.stale; opt = s.opt }

abbrev pub with_reset : Bool → State → State
with_reset x s = record { session = s.session; account = s.account; device = s.device; reset = x; stale = s.stale; opt = s.opt }

abbrev pub with_stale : Bool → State → State
with_stale x s = record { session = s.session; account = s.account; device = s.device; reset = s.reset; stale = x; opt = s.opt }

abbrev pub with_opt : Opt → State → State
with_opt x s = record { session = s.session; account = s.account; device = s.device; reset = s.reset; stale = s.stale; opt = x }

-- ---- the table of effects

-- a session that is presented lives, unless more was known of it
abbrev pub presented : Session → Session
presented session.Unseen = session.Live
presented session.Live = session.Live
presented session.Revoked = session.Revoked

-- a new or renewed credential is no longer one to be reset; a revoked or deleted one makes what was read of it old
abbrev pub after_credential : Change → State → State
after_credential Create s = with_reset false s
after_credential Update s = with_reset false s
after_credential Revoke s = with_stale true s
after_credential Delete s = with_stale true s

abbrev pub device_of : Compliance → Device
device_of compliance.Compliant = device.Compliant
device_of compliance.NotCompliant = device.NotCompliant

-- events of CAEP (CAEP 1.0, section 3)
abbrev pub after_caep : CaepKind → State → State
after_caep caep.SessionRevoked s = with_session session.Revoked s
after_caep (caep.TokenClaimsChange claims) s = with_stale true s
after_caep (caep.CredentialChange credential change) s = after_credential change s
after_caep (caep.AssuranceLevelChange namespace level direction) s = s
after_caep (caep.DeviceComplianceChange before after) s = with_device (device_of after) s
after_caep (caep.SessionEstablished acr amr ext_id fp_ua) s = with_session session.Live s
after_caep (caep.SessionPresented ext_id fp_ua) s = with_session (presented s.session) s
after_caep (caep.RiskLevelChange principal now before reason) s = s

-- events of RISC (RISC 1.0, section 2)
abbrev pub after_risc : RiscEvent → State → State
after_risc risc.CredentialChangeRequired s = with_reset true s
after_risc risc.AccountPurged s = with_account account.Purged (with_session session.Revoked s)
after_risc (risc.AccountDisabled reason) s = with_account account.Disabled (with_session session.Revoked s)
after_risc risc.AccountEnabled s = with_account account.Enabled s
after_risc (risc.IdentifierChanged new_value) s = with_stale true s
after_risc risc.IdentifierRecycled s = with_session session.Revoked s
after_risc (risc.CredentialCompromise credential) s = with_reset true s
after_risc risc.OptIn s = with_opt opt.In s
after_risc risc.OptOutInitiated s = with_opt opt.Leaving s
after_risc risc.OptOutCancelled s = with_opt opt.In s
after_risc risc.OptOutEffective s = with_opt opt.Out s
after_risc risc.RecoveryActivated s = with_stale true s
after_risc risc.RecoveryInformationChanged s = with_stale true s
after_risc risc.SessionsRevoked s = with_session session.Revoked s

-- a notice of the stream, and an event that isn't read, have no effect
abbrev pub state_after : Event → State → State
state_after (event.Caep e) s = after_caep e.kind s
state_after (event.Risc e) s = after_risc e s
state_after (event.Verification state) s = s
state_after (event.StreamUpdated status reason) s = s
state_after (event.Other uri) s = s

-- the level that an event of CAEP tells (CAEP 1.0, section 3.4)
abbrev pub told_by : CaepKind → Option (List ℕ)
told_by caep.SessionRevoked = None
told_by (caep.TokenClaimsChange claims) = None
told_by (caep.CredentialChange credential change) = None
told_by (caep.AssuranceLevelChange namespace current direction) = Some current
told_by (caep.DeviceComplianceChange before after) = None
told_by (caep.SessionEstablished acr amr ext_id fp_ua) = None
told_by (caep.SessionPresented ext_id fp_ua) = None
told_by (caep.RiskLevelChange principal now before reason) = None

-- the level that an event tells
abbrev pub told : Event → Option (List ℕ)
told (event.Caep e) = told_by e.kind
told (event.Risc e) = None
told (event.Verification state) = None
told (event.StreamUpdated status reason) = None
told (event.Other uri) = None

-- the level that an event tells, else the one that stood
abbrev pub level_after : Event → Option (List ℕ) → Option (List ℕ)
level_after e level = or_else (told e) level

-- whether an event of CAEP is one that has an effect: a risk level has none (CAEP 1.0, section 3.8)
abbrev pub caep_has_effect : CaepKind → Bool
caep_has_effect (caep.RiskLevelChange principal now before reason) = false
caep_has_effect kind = true

-- whether an event is one that has an effect
abbrev pub has_effect : Event → Bool
has_effect (event.Caep e) = caep_has_effect e.kind
has_effect (event.Risc e) = true
has_effect (event.Verification state) = false
has_effect (event.StreamUpdated status reason) = false
has_effect (event.Other uri) = false
