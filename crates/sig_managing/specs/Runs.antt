-- What a run of `manage` comes to, as the outside and the output tell it.
use Rattle.std.specs.Prelude.{◌≡◌, ◌⊎◌, ℕ, List, Option, Result, Ok, Err}
use Rattle.sig_command.specs.Moment.{OutputState}
use Rattle.sig_outside.specs.Causes.{Rose}
use Rattle.sig_links.specs.Views.{SideView}
use Rattle.sig_declared.specs.Settings.{manage_settings_of}
use Rattle.sig_declared.specs.declared.settings.ManageSettings.{ManageSettings}
use Rattle.sig_manager.specs.Exchange.{Managed, begun}
use Rattle.sig_opening.specs.Settings.{Says}
use Rattle.sig_opening.specs.declared.unread.Unread.{Unread}
use Rattle.sig_opening.specs.declared.unread.Unread.TheVariants as unread
use Rattle.sig_receive.specs.Sides.{HasSide, Sides}
use Rattle.sig_managing.specs.Drives.{Drives}
use Rattle.sig_managing.specs.declared.counts.Counts.{Counts}
use Rattle.sig_managing.specs.declared.ending.ManageEnd.{ManageEnd}
use Rattle.sig_managing.specs.declared.ending.ManageEnd.TheVariants.{Done, SettingsFailed, Refused, NetworkFailed, Peer, OutputFailed, Memory}
use Rattle.sig_managing.specs.declared.fault.DriveFault.{DriveFault}
use Rattle.sig_managing.specs.declared.fault.DriveFault.TheVariants as drive

-- ---- its ends

-- the end where no settings were read, for this cause
abbrev pub of_unread : Unread → ManageEnd
of_unread unread.Failed = SettingsFailed
of_unread (unread.Refused member) = Refused member
of_unread unread.Memory = Memory

-- the end where the requests ended so
abbrev pub of_driven : Result Counts DriveFault → ManageEnd
of_driven (Ok counts) = Done counts
of_driven (Err drive.Dial) = NetworkFailed
of_driven (Err drive.Link) = NetworkFailed
of_driven (Err (drive.Peer place)) = Peer place
of_driven (Err drive.Output) = OutputFailed
of_driven (Err drive.Memory) = Memory

-- an end before the first request, or after
abbrev pub ByManage : ManageEnd → Type 0 → Type 0 → Type 0
ByManage (Done counts) none run = run
ByManage SettingsFailed none run = none
ByManage (Refused member) none run = none
ByManage NetworkFailed none run = run
ByManage (Peer place) none run = run
ByManage OutputFailed none run = run
ByManage Memory none run = none ⊎ run

-- ---- the run

-- nothing was asked: no side was handed out, none came back, and the output wasn't used
pub record NoRun (old new : Sides) (before after : OutputState) : Type 0 where
  pub sides : new ≡ old
  pub unused : after ≡ before

-- a side was taken, over which the streams were brought to what these settings declare, and was given back
pub record Run (said : ManageSettings) (end : ManageEnd) (old new : Sides) (before after : OutputState) : Type 0 where
  pub first : SideView
  pub last : SideView
  pub side : HasSide old new first last
  pub left : Managed
  pub result : Result Counts DriveFault
  pub drives : Drives said.provider (begun said.declared) left first.ahead last.ahead first.sent last.sent before after result
  pub times : last.times ≡ first.times
  pub ends : end ≡ of_driven result

-- by settings that say so, where they are told
abbrev pub ManagesBy : Option (List ℕ) → ManageEnd → Sides → Sides → OutputState → OutputState → Type 0
ManagesBy told end old new before after =
    ByManage end (NoRun old new before after) ((said : ManageSettings) × Says manage_settings_of told said × Run said end old new before after)

-- ---- on the way

-- a fault of a dial or a link is one of the network
abbrev pub CountsNetwork : Result Counts DriveFault → ℕ → ℕ → Type 0
CountsNetwork (Ok counts) before now = Unit {0}
CountsNetwork (Err drive.Dial) before now = Rose before now
CountsNetwork (Err drive.Link) before now = Rose before now
CountsNetwork (Err (drive.Peer place)) before now = Unit {0}
CountsNetwork (Err drive.Output) before now = Unit {0}
CountsNetwork (Err drive.Memory) before now = Unit {0}
