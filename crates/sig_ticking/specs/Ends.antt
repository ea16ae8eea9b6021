-- How a run of `courier` ends, and what its end tells of the run.
use Rattle.std.specs.Prelude.{◌⊎◌, Bool, true, false}
use Rattle.sig_journal.specs.declared.node_fault.NodeFault.{NodeFault}
use Rattle.sig_journal.specs.declared.node_fault.NodeFault.TheVariants as node
use Rattle.sig_opening.specs.declared.unopened.Unopened.{Unopened}
use Rattle.sig_opening.specs.declared.unopened.Unopened.TheVariants as unopened
use Rattle.sig_opening.specs.declared.unread.Unread.{Unread}
use Rattle.sig_opening.specs.declared.unread.Unread.TheVariants as unread
use Rattle.sig_outside.specs.declared.line.LineFault.{LineFault}
use Rattle.sig_outside.specs.declared.line.LineFault.TheVariants as line
use Rattle.sig_ticking.specs.declared.ending.CourierEnd.{CourierEnd}
use Rattle.sig_ticking.specs.declared.ending.CourierEnd.TheVariants.{Done, SettingsFailed, Refused, NoStore, StoreFailed, Damaged, InputFailed, OutputFailed, Full, Endless, Memory}

-- the end where no settings were read, no node was loaded, no line is given, or a tick ended with a fault, for this cause
abbrev pub of_unread : Unread → CourierEnd
of_unread unread.Failed = SettingsFailed
of_unread (unread.Refused member) = Refused member
of_unread unread.Memory = Memory

abbrev pub of_unopened : Unopened → CourierEnd
of_unopened unopened.Missing = NoStore
of_unopened unopened.Failed = StoreFailed
of_unopened (unopened.Damaged file at) = Damaged file at
of_unopened unopened.Memory = Memory

abbrev pub of_line : LineFault → CourierEnd
of_line line.Failed = InputFailed
of_line (line.Endless n) = Endless n
of_line line.Memory = Memory

abbrev pub of_fault : NodeFault → CourierEnd
of_fault node.Store = StoreFailed
of_fault (node.Full n) = Full n
of_fault node.Memory = Memory

-- an end before the first line was asked for, or after
abbrev pub ByCourier : CourierEnd → Type 0 → Type 0 → Type 0
ByCourier Done none run = run
ByCourier SettingsFailed none run = none
ByCourier (Refused member) none run = none
ByCourier NoStore none run = none
ByCourier StoreFailed none run = none ⊎ run
ByCourier (Damaged file at) none run = none
ByCourier InputFailed none run = run
ByCourier OutputFailed none run = run
ByCourier (Full n) none run = run
ByCourier (Endless n) none run = run
ByCourier Memory none run = none ⊎ run

-- a run that came to no line can end so
abbrev pub IsEndBefore : CourierEnd → Type 0
IsEndBefore Done = ⊥
IsEndBefore SettingsFailed = Unit {0}
IsEndBefore (Refused member) = Unit {0}
IsEndBefore NoStore = Unit {0}
IsEndBefore StoreFailed = Unit {0}
IsEndBefore (Damaged file at) = Unit {0}
IsEndBefore InputFailed = ⊥
IsEndBefore OutputFailed = ⊥
IsEndBefore (Full n) = ⊥
IsEndBefore (Endless n) = ⊥
IsEndBefore Memory = Unit {0}

-- whether a node is broken after ticks that ended so: exactly where its store failed
abbrev pub fails_by : CourierEnd → Bool
fails_by Done = false
fails_by SettingsFailed = false
fails_by (Refused member) = false
fails_by NoStore = false
fails_by StoreFailed = true
fails_by (Damaged file at) = false
fails_by InputFailed = false
fails_by OutputFailed = false
fails_by (Full n) = false
fails_by (Endless n) = false
fails_by Memory = false
