-- The ends of a run where no settings were read, or no node was loaded.
use Rattle.std.proofs.Common.{◌≡◌, ℕ, List, Option, inl, sym, subst}
use Rattle.sig_outside.specs.Causes.{Rose}
use Rattle.sig_opening.specs.Files.{HaltsOpening}
use Rattle.sig_opening.specs.Settings.{HaltsSettings}
use Rattle.sig_opening.specs.declared.unopened.Unopened.{Unopened}
use Rattle.sig_opening.specs.declared.unopened.Unopened.TheVariants as unopened
use Rattle.sig_opening.specs.declared.unread.Unread.{Unread}
use Rattle.sig_opening.specs.declared.unread.Unread.TheVariants as unread
use Rattle.sig_serve.specs.Ends.{AreRefused, IsDamaged, state_of}
use Rattle.sig_txsettings.specs.Settings.{tx_settings_of}
use Rattle.sig_ticking.specs.Ends.{ByCourier, IsEndBefore, of_unopened, of_unread}
use Rattle.sig_ticking.specs.declared.ending.CourierEnd.{CourierEnd}
use Rattle.sig_ticking.specs.declared.ending.CourierEnd.TheVariants.{Done, SettingsFailed, Refused, NoStore, StoreFailed, Damaged, InputFailed, OutputFailed, Full, Endless, Memory}

-- ---- where no settings were read

pub unread_failed : (cause : Unread) (told : Option (List ℕ)) (before now : ℕ) → HaltsSettings tx_settings_of cause told before now → of_unread cause ≡ SettingsFailed → Rose before now
unread_failed unread.Failed told before now h is = h
unread_failed (unread.Refused member) told before now h is = absurd cc
unread_failed unread.Memory told before now h is = absurd cc

pub unread_refused : (cause : Unread) (told : Option (List ℕ)) (before now : ℕ) → HaltsSettings tx_settings_of cause told before now
    → (member : List ℕ) → of_unread cause ≡ Refused member → AreRefused told member
unread_refused unread.Failed told before now h member is = absurd cc
unread_refused (unread.Refused named) told before now h member is = let same : named ≡ member = cc in subst (λ (m : List ℕ). AreRefused told m) same h
unread_refused unread.Memory told before now h member is = absurd cc

-- no store was looked for
abbrev pub IsBefore : CourierEnd → Type 0
IsBefore Done = ⊥
IsBefore SettingsFailed = Unit {0}
IsBefore (Refused member) = Unit {0}
IsBefore NoStore = ⊥
IsBefore StoreFailed = ⊥
IsBefore (Damaged file at) = ⊥
IsBefore InputFailed = ⊥
IsBefore OutputFailed = ⊥
IsBefore (Full n) = ⊥
IsBefore (Endless n) = ⊥
IsBefore Memory = Unit {0}

unread_before : (cause : Unread) → IsBefore (of_unread cause)
unread_before unread.Failed = tt
unread_before (unread.Refused member) = tt
unread_before unread.Memory = tt

pub unread_other : (cause : Unread) (end : CourierEnd) → (IsBefore end → ⊥) → of_unread cause ≡ end → ⊥
unread_other cause end not is = not (subst IsBefore is (unread_before cause))

unread_none : (cause : Unread) (none run : Type 0) → none → ByCourier (of_unread cause) none run
unread_none unread.Failed none run h = h
unread_none (unread.Refused member) none run h = h
unread_none unread.Memory none run h = inl h

pub unread_ends : (cause : Unread) (end : CourierEnd) (none run : Type 0) → end ≡ of_unread cause → none → ByCourier end none run
unread_ends cause end none run is h = subst (λ (e : CourierEnd). ByCourier e none run) (sym is) (unread_none cause none run h)

-- ---- where no node was loaded

pub load_missing : (cause : Unopened) (lacks : Type 0) (a b : Option (List ℕ)) (before now : ℕ) → HaltsOpening state_of cause lacks a b before now → of_unopened cause ≡ NoStore → lacks
load_missing unopened.Missing lacks a b before now h is = h
load_missing unopened.Failed lacks a b before now h is = absurd cc
load_missing (unopened.Damaged file at) lacks a b before now h is = absurd cc
load_missing unopened.Memory lacks a b before now h is = absurd cc

pub load_failed : (cause : Unopened) (lacks : Type 0) (a b : Option (List ℕ)) (before now : ℕ) → HaltsOpening state_of cause lacks a b before now → of_unopened cause ≡ StoreFailed → Rose before now
load_failed unopened.Missing lacks a b before now h is = absurd cc
load_failed unopened.Failed lacks a b before now h is = h
load_failed (unopened.Damaged file at) lacks a b before now h is = absurd cc
load_failed unopened.Memory lacks a b before now h is = absurd cc

pub load_damaged : (cause : Unopened) (lacks : Type 0) (a b : Option (List ℕ)) (before now : ℕ) → HaltsOpening state_of cause lacks a b before now
    → (file at : ℕ) → of_unopened cause ≡ Damaged file at → IsDamaged a b file at
load_damaged unopened.Missing lacks a b before now h file at is = absurd cc
load_damaged unopened.Failed lacks a b before now h file at is = absurd cc
load_damaged (unopened.Damaged file' at') lacks a b before now h file at is =
    let files : file' ≡ file = cc in
    let ats : at' ≡ at = cc in
    subst (λ (n : ℕ). IsDamaged a b file n) ats (subst (λ (n : ℕ). IsDamaged a b n at') files h)
load_damaged unopened.Memory lacks a b before now h file at is = absurd cc

-- no settings failed, none were refused, and no line was asked for
abbrev pub IsOfStore : CourierEnd → Type 0
IsOfStore Done = ⊥
IsOfStore SettingsFailed = ⊥
IsOfStore (Refused member) = ⊥
IsOfStore NoStore = Unit {0}
IsOfStore StoreFailed = Unit {0}
IsOfStore (Damaged file at) = Unit {0}
IsOfStore InputFailed = ⊥
IsOfStore OutputFailed = ⊥
IsOfStore (Full n) = ⊥
IsOfStore (Endless n) = ⊥
IsOfStore Memory = Unit {0}

load_of_store : (cause : Unopened) → IsOfStore (of_unopened cause)
load_of_store unopened.Missing = tt
load_of_store unopened.Failed = tt
load_of_store (unopened.Damaged file at) = tt
load_of_store unopened.Memory = tt

pub load_other : (cause : Unopened) (end : CourierEnd) → (IsOfStore end → ⊥) → of_unopened cause ≡ end → ⊥
load_other cause end not is = not (subst IsOfStore is (load_of_store cause))

load_none : (cause : Unopened) (none run : Type 0) → none → ByCourier (of_unopened cause) none run
load_none unopened.Missing none run h = h
load_none unopened.Failed none run h = inl h
load_none (unopened.Damaged file at) none run h = h
load_none unopened.Memory none run h = inl h

pub load_ends : (cause : Unopened) (end : CourierEnd) (none run : Type 0) → end ≡ of_unopened cause → none → ByCourier end none run
load_ends cause end none run is h = subst (λ (e : CourierEnd). ByCourier e none run) (sym is) (load_none cause none run h)

-- a run that came to no line, where no settings were read or no node was loaded
unread_came : (cause : Unread) → IsEndBefore (of_unread cause)
unread_came unread.Failed = tt
unread_came (unread.Refused member) = tt
unread_came unread.Memory = tt

pub unread_early : (cause : Unread) (end : CourierEnd) → end ≡ of_unread cause → IsEndBefore end
unread_early cause end is = subst IsEndBefore (sym is) (unread_came cause)

load_came : (cause : Unopened) → IsEndBefore (of_unopened cause)
load_came unopened.Missing = tt
load_came unopened.Failed = tt
load_came (unopened.Damaged file at) = tt
load_came unopened.Memory = tt

pub load_early : (cause : Unopened) (end : CourierEnd) → end ≡ of_unopened cause → IsEndBefore end
load_early cause end is = subst IsEndBefore (sym is) (load_came cause)
