-- An event of CAEP is what a payload says exactly where it is read of it.
use Rattle.std.proofs.Common.{◌≡◌, ℕ, List, Option, Some, None, refl, sym, ap, subst, ◌∙◌}
use Rattle.std.specs.Prelude.{Ok, codes}
use Rattle.serde_json.specs.Data.{Data}
use Rattle.sig_json.specs.Answers.{result_map}
use Rattle.sig_json.specs.Checks.{first_failing, decided}
use Rattle.sig_json.specs.Listed.{listed}
use Rattle.sig_json.specs.Members.{AllHave, payload_checks}
use Rattle.sig_json.specs.declared.members.PayloadFault.{PayloadFault}
use Rattle.sig_json.proofs.Shapes.{Shape, text_shape, whole_shape, text_or_object_shape, filled_object_shape, text_or_texts_shape, listed_shape, listed-text, required_value, optional_value, required_has, optional_has, both_pass, pass_both, AllHave-passes, each_passes}
use Rattle.sig_caep.specs.Lists.{change_text, changes, direction_text, directions, compliance_text, compliances, initiator_text, initiators, principal_text, principals, risk_level_text, risk_levels}
use Rattle.sig_caep.specs.Table.{caep_table, caep_types, type_text, type_named, common_rules}
use Rattle.sig_caep.specs.Events.{type_of, kept_of, common_kept, CaepIs, kind_in, common_in, event_in, caep_checks, caep_by, caep_of, ReadsCaep}
use Rattle.sig_caep.specs.declared.change.Change.{Change}
use Rattle.sig_caep.specs.declared.change.Change.TheVariants.{Create, Revoke, Update, Delete}
use Rattle.sig_caep.specs.declared.direction.Direction.{Direction}
use Rattle.sig_caep.specs.declared.direction.Direction.TheVariants.{Increase, Decrease}
use Rattle.sig_caep.specs.declared.compliance.Compliance.{Compliance}
use Rattle.sig_caep.specs.declared.compliance.Compliance.TheVariants.{Compliant, NotCompliant}
use Rattle.sig_caep.specs.declared.initiator.Initiator.{Initiator}
use Rattle.sig_caep.specs.declared.initiator.Initiator.TheVariants.{Admin, User, Policy, System}
use Rattle.sig_caep.specs.declared.principal.Principal.{Principal}
use Rattle.sig_caep.specs.declared.principal.Principal.TheVariants as whose
use Rattle.sig_caep.specs.declared.risk_level.RiskLevel.{RiskLevel}
use Rattle.sig_caep.specs.declared.risk_level.RiskLevel.TheVariants.{Low, Medium, High}
use Rattle.sig_caep.specs.declared.common_members.Common.{Common}
use Rattle.sig_caep.specs.declared.kind.CaepKind.{CaepKind}
use Rattle.sig_caep.specs.declared.kind.CaepKind.TheVariants.{SessionRevoked, TokenClaimsChange, CredentialChange, AssuranceLevelChange, DeviceComplianceChange, SessionEstablished, SessionPresented, RiskLevelChange}
use Rattle.sig_caep.specs.declared.event.CaepEvent.{CaepEvent}
use Rattle.sig_caep.specs.declared.event_type.CaepType.{CaepType}
use Rattle.sig_caep.specs.declared.event_type.CaepType.TheVariants as types

-- ---- each text of a closed list stands for its value

change_found : (x : Change) → listed change_text changes (change_text x) ≡ Some x
unfolding listed change_text changes
change_found Create = refl
change_found Revoke = refl
change_found Update = refl
change_found Delete = refl

direction_found : (x : Direction) → listed direction_text directions (direction_text x) ≡ Some x
unfolding listed direction_text directions
direction_found Increase = refl
direction_found Decrease = refl

compliance_found : (x : Compliance) → listed compliance_text compliances (compliance_text x) ≡ Some x
unfolding listed compliance_text compliances
compliance_found Compliant = refl
compliance_found NotCompliant = refl

initiator_found : (x : Initiator) → listed initiator_text initiators (initiator_text x) ≡ Some x
unfolding listed initiator_text initiators
initiator_found Admin = refl
initiator_found User = refl
initiator_found Policy = refl
initiator_found System = refl

principal_found : (x : Principal) → listed principal_text principals (principal_text x) ≡ Some x
unfolding listed principal_text principals
principal_found whose.User = refl
principal_found whose.Device = refl
principal_found whose.Session = refl
principal_found whose.Tenant = refl
principal_found whose.OrgUnit = refl
principal_found whose.Group = refl

risk_level_found : (x : RiskLevel) → listed risk_level_text risk_levels (risk_level_text x) ≡ Some x
unfolding listed risk_level_text risk_levels
risk_level_found Low = refl
risk_level_found Medium = refl
risk_level_found High = refl

pub type_found : (x : CaepType) → type_named (type_text x) ≡ Some x
unfolding listed
type_found types.SessionRevoked = refl
type_found types.TokenClaimsChange = refl
type_found types.CredentialChange = refl
type_found types.AssuranceLevelChange = refl
type_found types.DeviceComplianceChange = refl
type_found types.SessionEstablished = refl
type_found types.SessionPresented = refl
type_found types.RiskLevelChange = refl

abbrev change_shape : Shape Change
change_shape = listed_shape change_text changes Create change_found

abbrev direction_shape : Shape Direction
direction_shape = listed_shape direction_text directions Increase direction_found

abbrev compliance_shape : Shape Compliance
compliance_shape = listed_shape compliance_text compliances Compliant compliance_found

abbrev initiator_shape : Shape Initiator
initiator_shape = listed_shape initiator_text initiators Admin initiator_found

abbrev principal_shape : Shape Principal
principal_shape = listed_shape principal_text principals whose.User principal_found

abbrev risk_level_shape : Shape RiskLevel
risk_level_shape = listed_shape risk_level_text risk_levels Low risk_level_found

-- ---- where all members are there, the event is the one that is read

kind_is : (k : CaepKind) (v : Data) → AllHave v (caep_table (type_of k)).rules (kept_of k) → kind_in (type_of k) v ≡ k
kind_is SessionRevoked v h = refl
kind_is (TokenClaimsChange claims) v h = ap TokenClaimsChange (required_value filled_object_shape (codes "claims") v claims h.0)
kind_is (CredentialChange credential_type change_type) v h =
    let a = required_value text_shape (codes "credential_type") v credential_type h.0 in
    let b = required_value change_shape (codes "change_type") v change_type h.1.0 in
    cc (a, b)
kind_is (AssuranceLevelChange namespace current_level change_direction) v h =
    let a = optional_value text_shape (codes "namespace") v namespace h.0 in
    let b = required_value text_shape (codes "current_level") v current_level h.1.0 in
    let c = optional_value direction_shape (codes "change_direction") v change_direction h.1.1.0 in
    cc (a, b, c)
kind_is (DeviceComplianceChange previous_status current_status) v h =
    let a = required_value compliance_shape (codes "previous_status") v previous_status h.0 in
    let b = required_value compliance_shape (codes "current_status") v current_status h.1.0 in
    cc (a, b)
kind_is (SessionEstablished acr amr ext_id fp_ua) v h =
    let a = optional_value text_shape (codes "acr") v acr h.0 in
    let b = optional_value text_or_texts_shape (codes "amr") v amr h.1.0 in
    let c = optional_value text_shape (codes "ext_id") v ext_id h.1.1.0 in
    let d = optional_value text_shape (codes "fp_ua") v fp_ua h.1.1.1.0 in
    cc (a, b, c, d)
kind_is (SessionPresented ext_id fp_ua) v h =
    let a = optional_value text_shape (codes "ext_id") v ext_id h.0 in
    let b = optional_value text_shape (codes "fp_ua") v fp_ua h.1.0 in
    cc (a, b)
kind_is (RiskLevelChange principal current_level previous_level risk_reason) v h =
    let a = required_value principal_shape (codes "principal") v principal h.0 in
    let b = required_value risk_level_shape (codes "current_level") v current_level h.1.0 in
    let c = optional_value risk_level_shape (codes "previous_level") v previous_level h.1.1.0 in
    let d = optional_value text_shape (codes "risk_reason") v risk_reason h.1.1.1.0 in
    cc (a, b, c, d)

common_is : (c : Common) (v : Data) → AllHave v common_rules (common_kept c) → common_in v ≡ c
common_is c v h =
    let time = optional_value whole_shape (codes "event_timestamp") v c.event_timestamp h.0 in
    let entity = optional_value initiator_shape (codes "initiating_entity") v c.initiating_entity h.1.0 in
    let admin = optional_value text_or_object_shape (codes "reason_admin") v c.reason_admin h.1.1.0 in
    let user = optional_value text_or_object_shape (codes "reason_user") v c.reason_user h.1.1.1.0 in
    rw (time, entity, admin, user) refl

-- ---- where no check fails, the members of the event that is read are there

kind_has : (t : CaepType) (v : Data) → first_failing (payload_checks (caep_table t).rules v) ≡ None → (type_of (kind_in t v) ≡ t) × AllHave v (caep_table t).rules (kept_of (kind_in t v))
kind_has types.SessionRevoked v h = (refl, tt)
kind_has types.TokenClaimsChange v h =
    let a = each_passes v (caep_table types.TokenClaimsChange).rules h in
    (refl, (required_has filled_object_shape (codes "claims") v a.0, tt))
kind_has types.CredentialChange v h =
    let a = each_passes v (caep_table types.CredentialChange).rules h in
    (refl, (required_has text_shape (codes "credential_type") v a.0, (required_has change_shape (codes "change_type") v a.1.0, tt)))
kind_has types.AssuranceLevelChange v h =
    let a = each_passes v (caep_table types.AssuranceLevelChange).rules h in (
      refl,
      (
        optional_has text_shape (codes "namespace") v a.0,
        (required_has text_shape (codes "current_level") v a.1.0, (optional_has direction_shape (codes "change_direction") v a.1.1.0, tt)),
      ),
    )
kind_has types.DeviceComplianceChange v h =
    let a = each_passes v (caep_table types.DeviceComplianceChange).rules h in (
      refl,
      (required_has compliance_shape (codes "previous_status") v a.0, (required_has compliance_shape (codes "current_status") v a.1.0, tt)),
    )
kind_has types.SessionEstablished v h =
    let a = each_passes v (caep_table types.SessionEstablished).rules h in (
      refl,
      (
        optional_has text_shape (codes "acr") v a.0,
        (
          optional_has text_or_texts_shape (codes "amr") v a.1.0,
          (optional_has text_shape (codes "ext_id") v a.1.1.0, (optional_has text_shape (codes "fp_ua") v a.1.1.1.0, tt)),
        ),
      ),
    )
kind_has types.SessionPresented v h =
    let a = each_passes v (caep_table types.SessionPresented).rules h in
    (refl, (optional_has text_shape (codes "ext_id") v a.0, (optional_has text_shape (codes "fp_ua") v a.1.0, tt)))
kind_has types.RiskLevelChange v h =
    let a = each_passes v (caep_table types.RiskLevelChange).rules h in (
      refl,
      (
        required_has principal_shape (codes "principal") v a.0,
        (
          required_has risk_level_shape (codes "current_level") v a.1.0,
          (optional_has risk_level_shape (codes "previous_level") v a.1.1.0, (optional_has text_shape (codes "risk_reason") v a.1.1.1.0, tt)),
        ),
      ),
    )

common_has : (v : Data) → first_failing (payload_checks common_rules v) ≡ None → AllHave v common_rules (common_kept (common_in v))
common_has v h =
    let a = each_passes v common_rules h in (
      optional_has whole_shape (codes "event_timestamp") v a.0,
      (
        optional_has initiator_shape (codes "initiating_entity") v a.1.0,
        (optional_has text_or_object_shape (codes "reason_admin") v a.1.1.0, (optional_has text_or_object_shape (codes "reason_user") v a.1.1.1.0, tt)),
      ),
    )

-- ---- both ways, for a type and a payload

-- the event of a type that a payload says
pub record CaepAt (e : CaepEvent) (t : CaepType) (v : Data) : Type 0 where
  pub typed : type_of e.kind ≡ t
  pub members : AllHave v (caep_table t).rules (kept_of e.kind)
  pub common : AllHave v common_rules (common_kept e.common)

pub at_reads : (e : CaepEvent) (t : CaepType) (v : Data) → CaepAt e t v → (first_failing (caep_checks t v) ≡ None) × (event_in t v ≡ e)
at_reads e t v h = (pass_both (payload_checks (caep_table t).rules v) (payload_checks common_rules v) (AllHave-passes v (caep_table t).rules (kept_of e.kind) h.members) (AllHave-passes v common_rules (common_kept e.common) h.common), same)
  where
    kind : kind_in t v ≡ e.kind
    kind =
        let here : AllHave v (caep_table (type_of e.kind)).rules (kept_of e.kind) = subst (λ (s : CaepType). AllHave v (caep_table s).rules (kept_of e.kind)) (sym h.typed) h.members in
        ap (λ s. kind_in s v) (sym h.typed) ∙ kind_is e.kind v here

    same : event_in t v ≡ e
    same = rw (kind, common_is e.common v h.common) refl

pub reads_at : (t : CaepType) (v : Data) → first_failing (caep_checks t v) ≡ None → CaepAt (event_in t v) t v
reads_at t v h =
    let both = both_pass (payload_checks (caep_table t).rules v) (payload_checks common_rules v) h in
    let kind = kind_has t v both.0 in
    record { typed = kind.0; members = kind.1; common = common_has v both.1 }

-- ---- the law

forward : (e : CaepEvent) (name : List ℕ) (v : Data) → CaepIs e name v → caep_of name v ≡ Ok (Some e)
forward e name v h =
    let found : type_named name ≡ Some (type_of e.kind) = ap type_named (sym h.named) ∙ type_found (type_of e.kind) in
    let read = at_reads e (type_of e.kind) v (record { typed = refl; members = h.members; common = h.common }) in
    ap (λ o. caep_by o v) found ∙ ap (λ o. result_map (λ x. Some x) (decided o (event_in (type_of e.kind) v))) read.0 ∙ ap (λ x. Ok (Some x)) read.1

-- a typed reading that gave an event
typed_event : (o : Option PayloadFault) (x e : CaepEvent) → result_map (λ y. Some y) (decided o x) ≡ Ok (Some e) → (o ≡ None) × (x ≡ e)
typed_event None x e h = (refl, cc)
typed_event (Some f) x e h = cc

backward : (e : CaepEvent) (name : List ℕ) (v : Data) (o : Option CaepType) → type_named name ≡ o → caep_by o v ≡ Ok (Some e) → CaepIs e name v
backward e name v None found h = cc
backward e name v (Some t) found h =
    let read = typed_event (first_failing (caep_checks t v)) (event_in t v) e h in
    let at = subst (λ (x : CaepEvent). CaepAt x t v) read.1 (reads_at t v read.0) in
    let named : (caep_table t).name ≡ name = listed-text type_text caep_types name t found in
    record {
      named = ap (λ s. (caep_table s).name) at.typed ∙ named;
      members = subst (λ (s : CaepType). AllHave v (caep_table s).rules (kept_of e.kind)) (sym at.typed) at.members;
      common = at.common;
    }

pub reads_caep : ReadsCaep
reads_caep e name v = (forward e name v, backward e name v (type_named name) refl)
