-- How runs of `manage` end.
use Rattle.std.proofs.Common.{◌≡◌, ◌≤◌, ◌⊎◌, ◌∙◌, sym, subst, refl, ℕ, List, Option, Some, Ok, inl, inr, arith}
use Rattle.std.specs.Prelude.{IfSome, Result, Err}
use Rattle.sig_outside.specs.Causes.{Rose}
use Rattle.sig_outside.proofs.CauseLemmas.{raised_rose, rose_later}
use Rattle.sig_command.specs.Moment.{OutputCalm, OutputState, OutputStopped}
use Rattle.sig_declared.specs.Settings.{manage_settings_of}
use Rattle.sig_declared.specs.declared.settings.ManageSettings.{ManageSettings}
use Rattle.sig_opening.specs.Settings.{AreRefused}
use Rattle.sig_settings.specs.declared.fault.SettingsFault.TheVariants as settings
use Rattle.sig_managing.specs.declared.ending.ManageEnd.{ManageEnd}
use Rattle.sig_managing.specs.declared.ending.ManageEnd.TheVariants.{Done, SettingsFailed, Refused, NetworkFailed, Peer, OutputFailed, Memory}
use Rattle.sig_service.specs.LastLine.{PutLast}
use Rattle.sig_service.specs.ManageRuns.{EndsCalm, IsManageable, ManageRan, ManagedSo, last_line, status_of}
use Rattle.sig_service.specs.Outside.{MeetsNoFault, OutsideState}
use Rattle.sig_service.proofs.ServerEndLemmas.{ok_err, put_whole}

-- the status 1 is for words that are no command
no_usage : (e : ManageEnd) → status_of e ≡ 1 → ⊥
no_usage (Done counts) h = omega (arith, h)
no_usage SettingsFailed h = omega (arith, h)
no_usage (Refused member) h = omega (arith, h)
no_usage NetworkFailed h = omega (arith, h)
no_usage (Peer place) h = omega (arith, h)
no_usage OutputFailed h = omega (arith, h)
no_usage Memory h = omega (arith, h)

pub manage_no_usage : (e : ManageEnd) (line : List ℕ) (a b : OutputState) (status : ℕ) → PutLast (status_of e) line a b status → status ≡ 1 → ⊥
manage_no_usage e line a b status (inl put) one = no_usage e (sym put.0 ∙ one)
manage_no_usage e line a b status (inr stopped) one = omega (arith, stopped.0, one)

-- the line of an ending
pub put_manage : (e x : ManageEnd) (line : List ℕ) (a b : OutputState) (status : ℕ) → e ≡ x → line ≡ last_line x
    → PutLast (status_of x) line a b status → PutLast (status_of e) (last_line e) a b status
put_manage e x line a b status is same put =
    subst (λ (y : ManageEnd). PutLast (status_of y) (last_line y) a b status) (sym is) (subst (λ (l : List ℕ). PutLast (status_of x) l a b status) same put)

-- ---- a run that meets no fault

-- settings that are taken aren't refused
taken_refused : (told : Option (List ℕ)) (bytes member : List ℕ) (said : ManageSettings) → told ≡ Some bytes → manage_settings_of bytes ≡ Ok said
    → AreRefused manage_settings_of told member → ⊥
taken_refused told bytes member said is taken refused =
    ok_err said (settings.Refused member) (manage_settings_of bytes) taken
    (subst (λ (o : Option (List ℕ)). AreRefused manage_settings_of o member) is refused)

-- the counts of an output never fall
stopped_later : (a b : OutputState) → OutputStopped a b → (a.faults ≤ b.faults) × (a.stalls ≤ b.stalls)
stopped_later a b (inl h) = (h.0.0, omega (arith, h.1))
stopped_later a b (inr h) = (omega (arith, h.1), h.0.0)

put_later : (wanted : ℕ) (line : List ℕ) (a b : OutputState) (status : ℕ) → PutLast wanted line a b status → (a.faults ≤ b.faults) × (a.stalls ≤ b.stalls)
put_later wanted line a b status (inl put) = (omega (arith, put.2.0), omega (arith, put.2.1))
put_later wanted line a b status (inr stopped) = stopped_later a b stopped.2

-- an output that stopped counted it
no_stop : (a t b : OutputState) → (Rose a.faults b.faults → ⊥) → (Rose a.stalls b.stalls → ⊥) → (t.faults ≤ b.faults) × (t.stalls ≤ b.stalls)
    → OutputStopped a t → ⊥
no_stop a t b faults stalls later (inl h) = faults (rose_later a.faults t.faults b.faults (raised_rose a.faults t.faults h.0) later.0)
no_stop a t b faults stalls later (inr h) = stalls (rose_later a.stalls t.stalls b.stalls (raised_rose a.stalls t.stalls h.0) later.1)

managed_end : (settings : List ℕ) (before now : OutsideState) (a t b : OutputState) (e : ManageEnd) → IsManageable settings before → MeetsNoFault before now a b
    → (t.faults ≤ b.faults) × (t.stalls ≤ b.stalls) → ManagedSo settings e before now a t → EndsCalm (status_of e)
managed_end settings before now a t b (Done counts) ready calm later so = inl refl
managed_end settings before now a t b SettingsFailed ready calm later so = absurd (calm.settings (so.settings_failed refl))
managed_end settings before now a t b (Refused member) ready calm later so =
    absurd (taken_refused (before.settings settings) ready.bytes member ready.said ready.told ready.taken (so.refused member refl))
managed_end settings before now a t b NetworkFailed ready calm later so = absurd (calm.network (so.network_failed refl))
managed_end settings before now a t b (Peer place) ready calm later so = inr (inr refl)
managed_end settings before now a t b OutputFailed ready calm later so = absurd (no_stop a t b calm.output calm.flows later (so.output_failed refl))
managed_end settings before now a t b Memory ready calm later so = inr (inl refl)

-- what the run put of its own left the counts as they were
calm_rose : (a t b : ℕ) → t ≡ a → (Rose a b → ⊥) → Rose t b → ⊥
calm_rose a t b is not rose = not (subst (λ (n : ℕ). Rose n b) is rose)

is_output_failed : (e : ManageEnd) → (e ≡ OutputFailed → ⊥) ⊎ (e ≡ OutputFailed)
is_output_failed (Done counts) = inl (λ h. cc)
is_output_failed SettingsFailed = inl (λ h. cc)
is_output_failed (Refused member) = inl (λ h. cc)
is_output_failed NetworkFailed = inl (λ h. cc)
is_output_failed (Peer place) = inl (λ h. cc)
is_output_failed OutputFailed = inr refl
is_output_failed Memory = inl (λ h. cc)

pub managed_whole : (settings : List ℕ) (before now : OutsideState) (a b : OutputState) (status : ℕ) → IsManageable settings before → MeetsNoFault before now a b
    → ManageRan settings before now a b status → EndsCalm status
managed_whole settings before now a b status ready calm ran =
    subst EndsCalm (sym same) (managed_end settings before now a ran.1 b ran.0 ready calm later ran.2)
  where
    later : (ran.1.faults ≤ b.faults) × (ran.1.stalls ≤ b.stalls)
    later = put_later (status_of ran.0) (last_line ran.0) ran.1 b status ran.3

    calmly : OutputCalm a ran.1
    calmly = elim (is_output_failed ran.0) [
      | inl not ↦ ran.2.output_calm not
      | inr is ↦ absurd (no_stop a ran.1 b calm.output calm.flows later (ran.2.output_failed is))
    ]

    same : status ≡ status_of ran.0
    same = put_whole (status_of ran.0) (last_line ran.0) ran.1 b status
        (calm_rose a.faults ran.1.faults b.faults calmly.0 calm.output) (calm_rose a.stalls ran.1.stalls b.stalls calmly.1 calm.flows) ran.3
