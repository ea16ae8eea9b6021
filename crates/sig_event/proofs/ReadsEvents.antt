-- An event is what a URI and a payload say of a subject exactly where it is read of them.
use Rattle.std.proofs.Common.{◌≡◌, ℕ, List, [], ◌∷◌, ◌++◌, Bool, true, false, if◌then◌else◌, Option, Some, None, option_map, refl, sym, ap, subst, ◌∙◌}
use Rattle.std.specs.Prelude.{Ok, codes}
use Rattle.serde_json.specs.Data.{Data}
use Rattle.sig_json.specs.Checks.{Check, check, first_failing, decided, or_else}
use Rattle.sig_json.specs.Listed.{listed}
use Rattle.sig_json.specs.Members.{IsObject, is_object, AllHave, Words}
use Rattle.sig_json.specs.declared.members.PayloadFault.{PayloadFault}
use Rattle.sig_json.proofs.ReadsMember.{IsObject-is_object}
use Rattle.sig_json.proofs.Shapes.{Shape, text_shape, listed_shape, listed-text, required_value, optional_value, required_has, optional_has, AllHave-passes, each_passes}
use Rattle.sig_subject.specs.declared.subject.Subject.{Subject}
use Rattle.sig_caep.specs.Table.{caep_table}
use Rattle.sig_caep.specs.Events as caep
use Rattle.sig_caep.specs.declared.event.CaepEvent.{CaepEvent}
use Rattle.sig_caep.specs.declared.event_type.CaepType.{CaepType}
use Rattle.sig_caep.specs.declared.event_type.CaepType.TheVariants as caep_type
use Rattle.sig_caep.proofs.ReadsCaep as caep_proofs
use Rattle.sig_risc.specs.Table.{risc_table}
use Rattle.sig_risc.specs.Events as risc
use Rattle.sig_risc.specs.declared.event.RiscEvent.{RiscEvent}
use Rattle.sig_risc.specs.declared.event_type.RiscType.{RiscType}
use Rattle.sig_risc.specs.declared.event_type.RiscType.TheVariants as risc_type
use Rattle.sig_risc.proofs.ReadsRisc as risc_proofs
use Rattle.sig_event.specs.Status.{status_text, statuses}
use Rattle.sig_event.specs.Types.{caep_uri, risc_uri, ssf_uri, uri_of_type, event_types, type_of, fits_subject, published_types, ListsPublished}
use Rattle.sig_event.specs.Events.{state_rules, update_rules, EventIs, IsEvent, type_checks, event_by, known_checks, event_checks, event_in, event_of, ReadsEvents}
use Rattle.sig_event.specs.declared.status.Status.{Status}
use Rattle.sig_event.specs.declared.status.Status.TheVariants.{Enabled, Paused, Disabled}
use Rattle.sig_event.specs.declared.event.Event.{Event}
use Rattle.sig_event.specs.declared.event.Event.TheVariants as event
use Rattle.sig_event.specs.declared.event_fault.EventFault.{EventFault}
use Rattle.sig_event.specs.declared.event_fault.EventFault.TheVariants as fault
use Rattle.sig_event.specs.declared.event_type.EventType.{EventType}
use Rattle.sig_event.specs.declared.event_type.EventType.TheVariants.{Caep, Risc, Verification, StreamUpdated}
use Rattle.sig_event.proofs.EventSteps.{both, both_is}

-- ---- each URI of a type, and each text of a status, stands for it

pub uri_found : (x : EventType) → type_of (uri_of_type x) ≡ Some x
unfolding listed uri_of_type event_types published_types
uri_found (Caep caep_type.SessionRevoked) = refl
uri_found (Caep caep_type.TokenClaimsChange) = refl
uri_found (Caep caep_type.CredentialChange) = refl
uri_found (Caep caep_type.AssuranceLevelChange) = refl
uri_found (Caep caep_type.DeviceComplianceChange) = refl
uri_found (Caep caep_type.SessionEstablished) = refl
uri_found (Caep caep_type.SessionPresented) = refl
uri_found (Caep caep_type.RiskLevelChange) = refl
uri_found (Risc risc_type.CredentialChangeRequired) = refl
uri_found (Risc risc_type.AccountPurged) = refl
uri_found (Risc risc_type.AccountDisabled) = refl
uri_found (Risc risc_type.AccountEnabled) = refl
uri_found (Risc risc_type.IdentifierChanged) = refl
uri_found (Risc risc_type.IdentifierRecycled) = refl
uri_found (Risc risc_type.CredentialCompromise) = refl
uri_found (Risc risc_type.OptIn) = refl
uri_found (Risc risc_type.OptOutInitiated) = refl
uri_found (Risc risc_type.OptOutCancelled) = refl
uri_found (Risc risc_type.OptOutEffective) = refl
uri_found (Risc risc_type.RecoveryActivated) = refl
uri_found (Risc risc_type.RecoveryInformationChanged) = refl
uri_found (Risc risc_type.SessionsRevoked) = refl
uri_found Verification = refl
uri_found StreamUpdated = refl

pub lists_published : ListsPublished
unfolding listed uri_of_type published_types
lists_published (Caep caep_type.SessionRevoked) = refl
lists_published (Caep caep_type.TokenClaimsChange) = refl
lists_published (Caep caep_type.CredentialChange) = refl
lists_published (Caep caep_type.AssuranceLevelChange) = refl
lists_published (Caep caep_type.DeviceComplianceChange) = refl
lists_published (Caep caep_type.SessionEstablished) = refl
lists_published (Caep caep_type.SessionPresented) = refl
lists_published (Caep caep_type.RiskLevelChange) = refl
lists_published (Risc risc_type.CredentialChangeRequired) = refl
lists_published (Risc risc_type.AccountPurged) = refl
lists_published (Risc risc_type.AccountDisabled) = refl
lists_published (Risc risc_type.AccountEnabled) = refl
lists_published (Risc risc_type.IdentifierChanged) = refl
lists_published (Risc risc_type.IdentifierRecycled) = refl
lists_published (Risc risc_type.CredentialCompromise) = refl
lists_published (Risc risc_type.OptIn) = refl
lists_published (Risc risc_type.OptOutInitiated) = refl
lists_published (Risc risc_type.OptOutCancelled) = refl
lists_published (Risc risc_type.OptOutEffective) = refl
lists_published (Risc risc_type.RecoveryActivated) = refl
lists_published (Risc risc_type.RecoveryInformationChanged) = refl
lists_published (Risc risc_type.SessionsRevoked) = refl
lists_published Verification = refl
lists_published StreamUpdated = refl

status_found : (x : Status) → listed status_text statuses (status_text x) ≡ Some x
unfolding listed status_text statuses
status_found Enabled = refl
status_found Paused = refl
status_found Disabled = refl

abbrev status_shape : Shape Status
status_shape = listed_shape status_text statuses Enabled status_found

-- ---- the payload's checks and the subject's

both_hold : (cs : List (Check PayloadFault)) (fits : Bool) → first_failing cs ≡ None → fits ≡ true → first_failing (both cs fits) ≡ None
both_hold cs fits h g = both_is cs fits ∙ ap (λ o. or_else (option_map (λ f. fault.Payload f) o) (if fits then None else Some fault.Subject)) h ∙ rw g refl

hold_both : (cs : List (Check PayloadFault)) (fits : Bool) → first_failing (both cs fits) ≡ None → (first_failing cs ≡ None) × (fits ≡ true)
hold_both cs fits h = at (first_failing cs) fits (sym (both_is cs fits) ∙ h)
  where
    at : (o : Option PayloadFault) (b : Bool) → or_else (option_map (λ f. fault.Payload f) o) (if b then None else Some fault.Subject) ≡ None → (o ≡ None) × (b ≡ true)
    at None true e = (refl, refl)
    at None false e = cc
    at (Some f) b e = cc

-- ---- the reading gives the event

reads : (type : EventType) (uri : List ℕ) (v : Data) (s : Subject) (e : Event) → IsObject v → type_of uri ≡ Some type → first_failing (type_checks type v) ≡ None → fits_subject type s ≡ true → event_by type v ≡ e → event_of uri v s ≡ Ok e
reads type uri v s e (ms, is) found pass fits same =
    ap (λ o. decided (first_failing (event_checks o v s)) (event_in o uri v)) found
    ∙ ap (λ o. decided o (event_by type v)) checks
    ∙ ap Ok same
  where
    checks : first_failing (event_checks (Some type) v s) ≡ None
    checks =
        let there : is_object v ≡ true = rw is refl in
        ap (λ b. if b then first_failing (known_checks (Some type) v s) else Some fault.NotObject) there ∙ both_hold (type_checks type v) (fits_subject type s) pass fits

reads_state : (state : Option (List ℕ)) (v : Data) → AllHave v state_rules (option_map (λ t. Words t) state ∷ []) → event_by Verification v ≡ event.Verification state
reads_state state v h = ap event.Verification (optional_value text_shape (codes "state") v state h.0)

reads_update : (status : Status) (reason : Option (List ℕ)) (v : Data) → AllHave v update_rules (Some (Words (status_text status)) ∷ option_map (λ t. Words t) reason ∷ []) → event_by StreamUpdated v ≡ event.StreamUpdated status reason
reads_update status reason v h =
    let a = required_value status_shape (codes "status") v status h.0 in
    let b = optional_value text_shape (codes "reason") v reason h.1.0 in
    cc (a, b)

-- the event has the URI of its type
caep_found : (e : CaepEvent) (uri name : List ℕ) (v : Data) → uri ≡ caep_uri ++ name → caep.CaepIs e name v → type_of uri ≡ Some (Caep (caep.type_of e.kind))
unfolding uri_of_type
caep_found e uri name v is h = ap type_of (is ∙ ap (λ n. caep_uri ++ n) (sym h.named)) ∙ uri_found (Caep (caep.type_of e.kind))

risc_found : (e : RiscEvent) (uri name : List ℕ) (v : Data) → uri ≡ risc_uri ++ name → risc.RiscIs e name v → type_of uri ≡ Some (Risc (risc.type_of e))
unfolding uri_of_type
risc_found e uri name v is h = ap type_of (is ∙ ap (λ n. risc_uri ++ n) (sym h.named)) ∙ uri_found (Risc (risc.type_of e))

state_found : (uri : List ℕ) → uri ≡ ssf_uri ++ codes "verification" → type_of uri ≡ Some Verification
unfolding uri_of_type
state_found uri is = ap type_of is ∙ uri_found Verification

update_found : (uri : List ℕ) → uri ≡ ssf_uri ++ codes "stream-updated" → type_of uri ≡ Some StreamUpdated
unfolding uri_of_type
update_found uri is = ap type_of is ∙ uri_found StreamUpdated

forward : (e : Event) (uri : List ℕ) (v : Data) (s : Subject) → IsEvent e uri v s → event_of uri v s ≡ Ok e
forward (event.Caep e) uri v s (there, (name, is, h)) =
    let read = caep_proofs.at_reads e (caep.type_of e.kind) v (record { typed = refl; members = h.members; common = h.common }) in
    reads (Caep (caep.type_of e.kind)) uri v s (event.Caep e) there (caep_found e uri name v is h) read.0 refl (ap event.Caep read.1)
forward (event.Risc e) uri v s (there, (name, is, h, fits)) =
    let read = risc_proofs.at_reads e (risc.type_of e) v (record { typed = refl; members = h.members }) in
    reads (Risc (risc.type_of e)) uri v s (event.Risc e) there (risc_found e uri name v is h) read.0 fits (ap event.Risc read.1)
forward (event.Verification state) uri v s (there, (is, h)) =
    reads Verification uri v s (event.Verification state) there (state_found uri is) (AllHave-passes v state_rules (option_map (λ t. Words t) state ∷ []) h) refl (reads_state state v h)
forward (event.StreamUpdated status reason) uri v s (there, (is, h)) =
    reads
    StreamUpdated
    uri
    v
    s
    (event.StreamUpdated status reason)
    there
    (update_found uri is)
    (AllHave-passes v update_rules (Some (Words (status_text status)) ∷ option_map (λ t. Words t) reason ∷ []) h)
    refl
    (reads_update status reason v h)
forward (event.Other other) uri v s ((ms, object_is), (is, none)) =
    let there : is_object v ≡ true = rw object_is refl in
    ap (λ o. decided (first_failing (event_checks o v s)) (event_in o uri v)) none
    ∙ ap (λ b. decided (if b then None else Some fault.NotObject) (event.Other uri)) there
    ∙ ap (λ u. Ok (event.Other u)) (sym is)

-- ---- the event that is read is what is said

says : (type : EventType) (uri : List ℕ) (v : Data) (s : Subject) → uri_of_type type ≡ uri → first_failing (type_checks type v) ≡ None → fits_subject type s ≡ true → EventIs (event_by type v) uri v s
unfolding uri_of_type
says (Caep t) uri v s is pass fits =
    let at = caep_proofs.reads_at t v pass in (
      (caep_table t).name,
      sym is,
      record {
        named = ap (λ k. (caep_table k).name) at.typed;
        members = subst (λ (k : CaepType). AllHave v (caep_table k).rules (caep.kept_of (caep.kind_in t v))) (sym at.typed) at.members;
        common = at.common;
      },
    )
says (Risc t) uri v s is pass fits =
    let at = risc_proofs.reads_at t v pass in (
      (risc_table t).name,
      sym is,
      record {
        named = ap (λ k. (risc_table k).name) at.typed;
        members = subst (λ (k : RiscType). AllHave v (risc_table k).rules (risc.kept_of (risc.event_in t v))) (sym at.typed) at.members;
      },
      subst (λ (k : RiscType). fits_subject (Risc k) s ≡ true) (sym at.typed) fits,
    )
says Verification uri v s is pass fits = (sym is, (optional_has text_shape (codes "state") v (each_passes v state_rules pass).0, tt))
says StreamUpdated uri v s is pass fits =
    let a = each_passes v update_rules pass in
    (sym is, (required_has status_shape (codes "status") v a.0, (optional_has text_shape (codes "reason") v a.1.0, tt)))

-- what a reading that gave an event knows
object_first : (b : Bool) (cs : List (Check EventFault)) (x e : Event) → decided (first_failing (check fault.NotObject b ∷ cs)) x ≡ Ok e → (b ≡ true) × (first_failing cs ≡ None) × (x ≡ e)
object_first true cs x e h = let both = given (first_failing cs) h in (refl, both.0, both.1)
  where
    given : (o : Option EventFault) → decided o x ≡ Ok e → (o ≡ None) × (x ≡ e)
    given None k = (refl, cc)
    given (Some f) k = cc
object_first false cs x e h = cc

backward : (e : Event) (uri : List ℕ) (v : Data) (s : Subject) (o : Option EventType) → type_of uri ≡ o → decided (first_failing (event_checks o v s)) (event_in o uri v) ≡ Ok e → IsEvent e uri v s
backward e uri v s None found h =
    let all = object_first (is_object v) [] (event.Other uri) e h in
    (IsObject-is_object v all.0, subst (λ (x : Event). EventIs x uri v s) all.2 (refl, found))
backward e uri v s (Some type) found h =
    let all = object_first (is_object v) (known_checks (Some type) v s) (event_by type v) e h in
    let holds = hold_both (type_checks type v) (fits_subject type s) all.1 in
    (IsObject-is_object v all.0, subst (λ (x : Event). EventIs x uri v s) all.2 (says type uri v s (listed-text uri_of_type event_types uri type found) holds.0 holds.1))

pub reads_events : ReadsEvents
reads_events e uri v s = (forward e uri v s, backward e uri v s (type_of uri) refl)
