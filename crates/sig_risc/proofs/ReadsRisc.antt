-- An event of RISC is what a payload says exactly where it is read of it.
use Rattle.std.proofs.Common.{◌≡◌, ℕ, List, Option, Some, None, refl, sym, ap, subst, ◌∙◌}
use Rattle.std.specs.Prelude.{Ok, codes}
use Rattle.serde_json.specs.Data.{Data}
use Rattle.sig_json.specs.Answers.{result_map}
use Rattle.sig_json.specs.Checks.{first_failing, decided}
use Rattle.sig_json.specs.Listed.{listed}
use Rattle.sig_json.specs.Members.{AllHave, payload_checks}
use Rattle.sig_json.specs.declared.members.PayloadFault.{PayloadFault}
use Rattle.sig_json.proofs.Shapes.{text_shape, listed-text, required_value, optional_value, required_has, optional_has, AllHave-passes, each_passes}
use Rattle.sig_risc.specs.Table.{risc_table, risc_types, type_text, type_named}
use Rattle.sig_risc.specs.Events.{type_of, kept_of, RiscIs, event_in, risc_checks, risc_by, risc_of, ReadsRisc}
use Rattle.sig_risc.specs.declared.event.RiscEvent.{RiscEvent}
use Rattle.sig_risc.specs.declared.event.RiscEvent.TheVariants.{CredentialChangeRequired, AccountPurged, AccountDisabled, AccountEnabled, IdentifierChanged, IdentifierRecycled, CredentialCompromise, OptIn, OptOutInitiated, OptOutCancelled, OptOutEffective, RecoveryActivated, RecoveryInformationChanged, SessionsRevoked}
use Rattle.sig_risc.specs.declared.event_type.RiscType.{RiscType}
use Rattle.sig_risc.specs.declared.event_type.RiscType.TheVariants as types

-- each name of a type stands for it
pub type_found : (x : RiscType) → type_named (type_text x) ≡ Some x
unfolding listed
type_found types.CredentialChangeRequired = refl
type_found types.AccountPurged = refl
type_found types.AccountDisabled = refl
type_found types.AccountEnabled = refl
type_found types.IdentifierChanged = refl
type_found types.IdentifierRecycled = refl
type_found types.CredentialCompromise = refl
type_found types.OptIn = refl
type_found types.OptOutInitiated = refl
type_found types.OptOutCancelled = refl
type_found types.OptOutEffective = refl
type_found types.RecoveryActivated = refl
type_found types.RecoveryInformationChanged = refl
type_found types.SessionsRevoked = refl

-- where all members are there, the event is the one that is read
event_is : (e : RiscEvent) (v : Data) → AllHave v (risc_table (type_of e)).rules (kept_of e) → event_in (type_of e) v ≡ e
event_is CredentialChangeRequired v h = refl
event_is AccountPurged v h = refl
event_is (AccountDisabled reason) v h = ap AccountDisabled (optional_value text_shape (codes "reason") v reason h.0)
event_is AccountEnabled v h = refl
event_is (IdentifierChanged new_value) v h = ap IdentifierChanged (optional_value text_shape (codes "new-value") v new_value h.0)
event_is IdentifierRecycled v h = refl
event_is (CredentialCompromise credential_type) v h = ap CredentialCompromise (required_value text_shape (codes "credential_type") v credential_type h.0)
event_is OptIn v h = refl
event_is OptOutInitiated v h = refl
event_is OptOutCancelled v h = refl
event_is OptOutEffective v h = refl
event_is RecoveryActivated v h = refl
event_is RecoveryInformationChanged v h = refl
event_is SessionsRevoked v h = refl

-- where no check fails, the members of the event that is read are there
event_has : (t : RiscType) (v : Data) → first_failing (payload_checks (risc_table t).rules v) ≡ None → (type_of (event_in t v) ≡ t) × AllHave v (risc_table t).rules (kept_of (event_in t v))
event_has types.CredentialChangeRequired v h = (refl, tt)
event_has types.AccountPurged v h = (refl, tt)
event_has types.AccountDisabled v h = (refl, (optional_has text_shape (codes "reason") v (each_passes v (risc_table types.AccountDisabled).rules h).0, tt))
event_has types.AccountEnabled v h = (refl, tt)
event_has types.IdentifierChanged v h = (refl, (optional_has text_shape (codes "new-value") v (each_passes v (risc_table types.IdentifierChanged).rules h).0, tt))
event_has types.IdentifierRecycled v h = (refl, tt)
event_has types.CredentialCompromise v h = (refl, (required_has text_shape (codes "credential_type") v (each_passes v (risc_table types.CredentialCompromise).rules h).0, tt))
event_has types.OptIn v h = (refl, tt)
event_has types.OptOutInitiated v h = (refl, tt)
event_has types.OptOutCancelled v h = (refl, tt)
event_has types.OptOutEffective v h = (refl, tt)
event_has types.RecoveryActivated v h = (refl, tt)
event_has types.RecoveryInformationChanged v h = (refl, tt)
event_has types.SessionsRevoked v h = (refl, tt)

-- the event of a type that a payload says
pub record RiscAt (e : RiscEvent) (t : RiscType) (v : Data) : Type 0 where
  pub typed : type_of e ≡ t
  pub members : AllHave v (risc_table t).rules (kept_of e)

pub at_reads : (e : RiscEvent) (t : RiscType) (v : Data) → RiscAt e t v → (first_failing (risc_checks t v) ≡ None) × (event_in t v ≡ e)
at_reads e t v h =
    let here : AllHave v (risc_table (type_of e)).rules (kept_of e) = subst (λ (s : RiscType). AllHave v (risc_table s).rules (kept_of e)) (sym h.typed) h.members in
    (AllHave-passes v (risc_table t).rules (kept_of e) h.members, ap (λ s. event_in s v) (sym h.typed) ∙ event_is e v here)

pub reads_at : (t : RiscType) (v : Data) → first_failing (risc_checks t v) ≡ None → RiscAt (event_in t v) t v
reads_at t v h = let all = event_has t v h in record { typed = all.0; members = all.1 }

forward : (e : RiscEvent) (name : List ℕ) (v : Data) → RiscIs e name v → risc_of name v ≡ Ok (Some e)
forward e name v h =
    let found : type_named name ≡ Some (type_of e) = ap type_named (sym h.named) ∙ type_found (type_of e) in
    let read = at_reads e (type_of e) v (record { typed = refl; members = h.members }) in
    ap (λ o. risc_by o v) found ∙ ap (λ o. result_map (λ x. Some x) (decided o (event_in (type_of e) v))) read.0 ∙ ap (λ x. Ok (Some x)) read.1

-- a typed reading that gave an event
typed_event : (o : Option PayloadFault) (x e : RiscEvent) → result_map (λ y. Some y) (decided o x) ≡ Ok (Some e) → (o ≡ None) × (x ≡ e)
typed_event None x e h = (refl, cc)
typed_event (Some f) x e h = cc

backward : (e : RiscEvent) (name : List ℕ) (v : Data) (o : Option RiscType) → type_named name ≡ o → risc_by o v ≡ Ok (Some e) → RiscIs e name v
backward e name v None found h = cc
backward e name v (Some t) found h =
    let read = typed_event (first_failing (risc_checks t v)) (event_in t v) e h in
    let at = subst (λ (x : RiscEvent). RiscAt x t v) read.1 (reads_at t v read.0) in
    let named : (risc_table t).name ≡ name = listed-text type_text risc_types name t found in
    record {
      named = ap (λ s. (risc_table s).name) at.typed ∙ named;
      members = subst (λ (s : RiscType). AllHave v (risc_table s).rules (kept_of e)) (sym at.typed) at.members;
    }

pub reads_risc : ReadsRisc
reads_risc e name v = (forward e name v, backward e name v (type_named name) refl)
