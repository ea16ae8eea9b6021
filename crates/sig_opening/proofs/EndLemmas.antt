-- What the ends of runs come from, and what they tell.
use Rattle.std.proofs.Common.{◌≡◌, ◌∙◌, ℕ, Bool, true, false, List, Option, Some, None, Result, ap, inl, inr, sym, subst}
use Rattle.std.specs.Prelude.{◌⊎◌, is_some, unwrap_or}
use Rattle.sig_outside.specs.Causes.{Rose}
use Rattle.sig_journal.specs.declared.fault.LoadFault.{LoadFault}
use Rattle.sig_settings.specs.declared.fault.SettingsFault.{SettingsFault}
use Rattle.sig_opening.specs.Ends.{BreaksAfter, ByEnd, IsEndOfWatches, of_unopened, of_unread}
use Rattle.sig_opening.specs.Files.{AreThere, HaltsOpening, IsDamaged, IsThere}
use Rattle.sig_opening.specs.Settings.{AreRefused, HaltsSettings}
use Rattle.sig_opening.specs.declared.ending.ServeEnd.{ServeEnd}
use Rattle.sig_opening.specs.declared.ending.ServeEnd.TheVariants.{Done, SettingsFailed, Refused, NoStore, StoreFailed, Damaged, NetworkFailed, Disagree, Memory}
use Rattle.sig_opening.specs.declared.unopened.Unopened.{Unopened}
use Rattle.sig_opening.specs.declared.unopened.Unopened.TheVariants as unopened
use Rattle.sig_opening.specs.declared.unread.Unread.{Unread}
use Rattle.sig_opening.specs.declared.unread.Unread.TheVariants as unread

-- ---- where no settings were read

pub unread_failed : {T : Type 0} (reads : List ℕ → Result T SettingsFault) (cause : Unread) (told : Option (List ℕ)) (before now : ℕ) → HaltsSettings reads cause told before now
    → of_unread cause ≡ SettingsFailed → Rose before now
unread_failed reads unread.Failed told before now h is = h
unread_failed reads (unread.Refused member) told before now h is = absurd cc
unread_failed reads unread.Memory told before now h is = absurd cc

pub unread_refused : {T : Type 0} (reads : List ℕ → Result T SettingsFault) (cause : Unread) (told : Option (List ℕ)) (before now : ℕ) → HaltsSettings reads cause told before now
    → (member : List ℕ) → of_unread cause ≡ Refused member → AreRefused reads told member
unread_refused reads unread.Failed told before now h member is = absurd cc
unread_refused reads (unread.Refused named) told before now h member is = let same : named ≡ member = cc in subst (λ (m : List ℕ). AreRefused reads told m) same h
unread_refused reads unread.Memory told before now h member is = absurd cc

-- no store was looked for, and no door
abbrev pub IsBefore : ServeEnd → Type 0
IsBefore Done = ⊥
IsBefore SettingsFailed = Unit {0}
IsBefore (Refused member) = Unit {0}
IsBefore NoStore = ⊥
IsBefore StoreFailed = ⊥
IsBefore (Damaged file at) = ⊥
IsBefore NetworkFailed = ⊥
IsBefore (Disagree differ) = ⊥
IsBefore Memory = Unit {0}

unread_before : (cause : Unread) → IsBefore (of_unread cause)
unread_before unread.Failed = tt
unread_before (unread.Refused member) = tt
unread_before unread.Memory = tt

pub unread_other : (cause : Unread) (end : ServeEnd) → (IsBefore end → ⊥) → of_unread cause ≡ end → ⊥
unread_other cause end not is = not (subst IsBefore is (unread_before cause))

unread_none : (cause : Unread) (none idle run : Type 0) → none → ByEnd (of_unread cause) none idle run
unread_none unread.Failed none idle run h = h
unread_none (unread.Refused member) none idle run h = h
unread_none unread.Memory none idle run h = inl h

pub unread_ends : (cause : Unread) (end : ServeEnd) (none idle run : Type 0) → end ≡ of_unread cause → none → ByEnd end none idle run
unread_ends cause end none idle run is h = subst (λ (e : ServeEnd). ByEnd e none idle run) (sym is) (unread_none cause none idle run h)

-- ---- where no door was opened

pub shut_ends : (end : ServeEnd) (none idle run : Type 0) → end ≡ NetworkFailed → none → ByEnd end none idle run
shut_ends end none idle run is h = subst (λ (e : ServeEnd). ByEnd e none idle run) (sym is) (inl h)

-- ---- where no node was loaded

pub load_missing : {S : Type 0} (means : List ℕ → List ℕ → Result S LoadFault) (cause : Unopened) (lacks : Type 0) (a b : Option (List ℕ)) (before now : ℕ) → HaltsOpening means cause lacks a b before now
    → of_unopened cause ≡ NoStore → lacks
load_missing means unopened.Missing lacks a b before now h is = h
load_missing means unopened.Failed lacks a b before now h is = absurd cc
load_missing means (unopened.Damaged file at) lacks a b before now h is = absurd cc
load_missing means unopened.Memory lacks a b before now h is = absurd cc

pub load_failed : {S : Type 0} (means : List ℕ → List ℕ → Result S LoadFault) (cause : Unopened) (lacks : Type 0) (a b : Option (List ℕ)) (before now : ℕ) → HaltsOpening means cause lacks a b before now
    → of_unopened cause ≡ StoreFailed → Rose before now
load_failed means unopened.Missing lacks a b before now h is = absurd cc
load_failed means unopened.Failed lacks a b before now h is = h
load_failed means (unopened.Damaged file at) lacks a b before now h is = absurd cc
load_failed means unopened.Memory lacks a b before now h is = absurd cc

pub load_damaged : {S : Type 0} (means : List ℕ → List ℕ → Result S LoadFault) (cause : Unopened) (lacks : Type 0) (a b : Option (List ℕ)) (before now : ℕ) → HaltsOpening means cause lacks a b before now
    → (file at : ℕ) → of_unopened cause ≡ Damaged file at → IsDamaged means a b file at
load_damaged means unopened.Missing lacks a b before now h file at is = absurd cc
load_damaged means unopened.Failed lacks a b before now h file at is = absurd cc
load_damaged means (unopened.Damaged file' at') lacks a b before now h file at is =
    let files : file' ≡ file = cc in
    let ats : at' ≡ at = cc in
    subst (λ (n : ℕ). IsDamaged means a b file n) ats (subst (λ (n : ℕ). IsDamaged means a b n at') files h)
load_damaged means unopened.Memory lacks a b before now h file at is = absurd cc

-- no settings failed, none were refused, and no door
abbrev pub IsOfStore : ServeEnd → Type 0
IsOfStore Done = ⊥
IsOfStore SettingsFailed = ⊥
IsOfStore (Refused member) = ⊥
IsOfStore NoStore = Unit {0}
IsOfStore StoreFailed = Unit {0}
IsOfStore (Damaged file at) = Unit {0}
IsOfStore NetworkFailed = ⊥
IsOfStore (Disagree differ) = ⊥
IsOfStore Memory = Unit {0}

load_of_store : (cause : Unopened) → IsOfStore (of_unopened cause)
load_of_store unopened.Missing = tt
load_of_store unopened.Failed = tt
load_of_store (unopened.Damaged file at) = tt
load_of_store unopened.Memory = tt

pub load_other : (cause : Unopened) (end : ServeEnd) → (IsOfStore end → ⊥) → of_unopened cause ≡ end → ⊥
load_other cause end not is = not (subst IsOfStore is (load_of_store cause))

load_idle : (cause : Unopened) (none idle run : Type 0) → idle → ByEnd (of_unopened cause) none idle run
load_idle unopened.Missing none idle run h = h
load_idle unopened.Failed none idle run h = inl h
load_idle (unopened.Damaged file at) none idle run h = h
load_idle unopened.Memory none idle run h = inr (inl h)

pub load_ends : (cause : Unopened) (end : ServeEnd) (none idle run : Type 0) → end ≡ of_unopened cause → idle → ByEnd end none idle run
load_ends cause end none idle run is h = subst (λ (e : ServeEnd). ByEnd e none idle run) (sym is) (load_idle cause none idle run h)

one_there : (told : Option Bool) → IsThere told → told ≡ Some false → ⊥
one_there None there missing = cc missing
one_there (Some is) there missing = absurd (cc (sym there ∙ ap (λ (o : Option Bool). unwrap_or o true) missing))

-- files that are there aren't missing
pub not_missing : (a b : Option Bool) → AreThere a b → (a ≡ Some false) ⊎ (b ≡ Some false) → ⊥
not_missing a b there (inl missing) = one_there a there.0 missing
not_missing a b there (inr missing) = one_there b there.1 missing

-- ---- after watches

pub broken_where : (end : ServeEnd) (broken_at : Option ℕ) → end ≡ StoreFailed → BreaksAfter end broken_at → is_some broken_at ≡ true
broken_where end b is h = subst (λ (e : ServeEnd). BreaksAfter e b) is h

-- what can't be the end of watches isn't
pub not_of_watches : (end end' : ServeEnd) → IsEndOfWatches end → (IsEndOfWatches end' → ⊥) → end ≡ end' → ⊥
not_of_watches end end' kind not is = not (subst IsEndOfWatches is kind)

pub run_end : (end : ServeEnd) (none idle run : Type 0) → IsEndOfWatches end → run → ByEnd end none idle run
run_end Done none idle run kind h = h
run_end SettingsFailed none idle run kind h = absurd kind
run_end (Refused member) none idle run kind h = absurd kind
run_end NoStore none idle run kind h = absurd kind
run_end StoreFailed none idle run kind h = inr h
run_end (Damaged file at) none idle run kind h = absurd kind
run_end NetworkFailed none idle run kind h = inr h
run_end (Disagree differ) none idle run kind h = h
run_end Memory none idle run kind h = inr (inr h)

-- what it came to may be said in other words
pub by_end : (end : ServeEnd) (none idle run none' idle' run' : Type 0) → (none → none') → (idle → idle') → (run → run')
    → ByEnd end none idle run → ByEnd end none' idle' run'
by_end Done none idle run none' idle' run' f g k h = k h
by_end SettingsFailed none idle run none' idle' run' f g k h = f h
by_end (Refused member) none idle run none' idle' run' f g k h = f h
by_end NoStore none idle run none' idle' run' f g k h = g h
by_end StoreFailed none idle run none' idle' run' f g k (inl h) = inl (g h)
by_end StoreFailed none idle run none' idle' run' f g k (inr h) = inr (k h)
by_end (Damaged file at) none idle run none' idle' run' f g k h = g h
by_end NetworkFailed none idle run none' idle' run' f g k (inl h) = inl (f h)
by_end NetworkFailed none idle run none' idle' run' f g k (inr h) = inr (k h)
by_end (Disagree differ) none idle run none' idle' run' f g k h = k h
by_end Memory none idle run none' idle' run' f g k (inl h) = inl (f h)
by_end Memory none idle run none' idle' run' f g k (inr (inl h)) = inr (inl (g h))
by_end Memory none idle run none' idle' run' f g k (inr (inr h)) = inr (inr (k h))

-- ---- at a door that was opened

-- it ended by no settings
pub not_failed : (end : ServeEnd) (idle run : Type 0) → ByEnd end ⊥ idle run → end ≡ SettingsFailed → ⊥
not_failed end idle run h is = subst (λ (e : ServeEnd). ByEnd e ⊥ idle run) is h

pub not_refused : (end : ServeEnd) (member : List ℕ) (idle run : Type 0) → ByEnd end ⊥ idle run → end ≡ Refused member → ⊥
not_refused end member idle run h is = subst (λ (e : ServeEnd). ByEnd e ⊥ idle run) is h
