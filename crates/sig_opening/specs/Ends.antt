-- How a run ends, and what its end tells of the run.
use Rattle.std.specs.Prelude.{◌≡◌, ◌⊎◌, ℕ, Bool, true, false, is_some, Option, None}
use Rattle.sig_notes.specs.declared.cause.EndCause.{EndCause}
use Rattle.sig_notes.specs.declared.cause.EndCause.TheVariants as causes
use Rattle.sig_opening.specs.declared.unopened.Unopened.{Unopened}
use Rattle.sig_opening.specs.declared.unopened.Unopened.TheVariants as unopened
use Rattle.sig_opening.specs.declared.unread.Unread.{Unread}
use Rattle.sig_opening.specs.declared.unread.Unread.TheVariants as unread
use Rattle.sig_opening.specs.declared.ending.ServeEnd.{ServeEnd}
use Rattle.sig_opening.specs.declared.ending.ServeEnd.TheVariants.{Done, SettingsFailed, Refused, NoStore, StoreFailed, Damaged, NetworkFailed, Disagree, Memory}

-- the end where no settings were read, or no node was loaded, for this cause
abbrev pub of_unread : Unread → ServeEnd
of_unread unread.Failed = SettingsFailed
of_unread (unread.Refused member) = Refused member
of_unread unread.Memory = Memory

abbrev pub of_unopened : Unopened → ServeEnd
of_unopened unopened.Missing = NoStore
of_unopened unopened.Failed = StoreFailed
of_unopened (unopened.Damaged file at) = Damaged file at
of_unopened unopened.Memory = Memory

-- the cause that the last line on standard error names
abbrev pub cause_of : ServeEnd → EndCause
cause_of Done = causes.Done
cause_of SettingsFailed = causes.SettingsFailed
cause_of (Refused member) = causes.Refused
cause_of NoStore = causes.NoStore
cause_of StoreFailed = causes.StoreFailed
cause_of (Damaged file at) = causes.Damaged
cause_of NetworkFailed = causes.NetworkFailed
cause_of (Disagree differ) = causes.Disagree
cause_of Memory = causes.Memory

-- a run that came to its watches can end so
abbrev pub IsEndOfWatches : ServeEnd → Type 0
IsEndOfWatches Done = Unit {0}
IsEndOfWatches SettingsFailed = ⊥
IsEndOfWatches (Refused member) = ⊥
IsEndOfWatches NoStore = ⊥
IsEndOfWatches StoreFailed = Unit {0}
IsEndOfWatches (Damaged file at) = ⊥
IsEndOfWatches NetworkFailed = Unit {0}
IsEndOfWatches (Disagree differ) = Unit {0}
IsEndOfWatches Memory = Unit {0}

-- an end before a door was opened; with a door but before the first watch; or after watches
abbrev pub ByEnd : ServeEnd → Type 0 → Type 0 → Type 0 → Type 0
ByEnd Done none idle run = run
ByEnd SettingsFailed none idle run = none
ByEnd (Refused member) none idle run = none
ByEnd NoStore none idle run = idle
ByEnd StoreFailed none idle run = idle ⊎ run
ByEnd (Damaged file at) none idle run = idle
ByEnd NetworkFailed none idle run = none ⊎ run
ByEnd (Disagree differ) none idle run = run
ByEnd Memory none idle run = none ⊎ idle ⊎ run

-- whether a node may be broken after a run that ends so: where a store failed, or where something differs
abbrev pub fails_by : ServeEnd → Bool
fails_by Done = false
fails_by SettingsFailed = false
fails_by (Refused member) = false
fails_by NoStore = false
fails_by StoreFailed = true
fails_by (Damaged file at) = false
fails_by NetworkFailed = false
fails_by (Disagree differ) = true
fails_by Memory = false

abbrev pub BreaksBy : Bool → Option ℕ → Type 0
BreaksBy true broken_at = is_some broken_at ≡ true
BreaksBy false broken_at = broken_at ≡ None

-- a node is broken after a run that ends so exactly where a store failed; where something differs, it may be
abbrev pub BreaksAfter : ServeEnd → Option ℕ → Type 0
BreaksAfter (Disagree differ) broken_at = Unit {0}
BreaksAfter StoreFailed broken_at = BreaksBy true broken_at
BreaksAfter _ broken_at = BreaksBy false broken_at
