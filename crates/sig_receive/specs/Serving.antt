-- What a run of `receive` comes to, as the outside tells it.
use Rattle.std.specs.Prelude.{ℕ, List, Bool, Option}
use Rattle.sig_receiver.specs.Receiver.{Received, received_of}
use Rattle.sig_rxsettings.specs.declared.settings.RxSettings.{RxSettings}
use Rattle.sig_rxnode.specs.declared.rules.RxRules.{RxRules}
use Rattle.sig_opening.specs.Ends.{ByEnd}
use Rattle.sig_opening.specs.Serving as serving
use Rattle.sig_opening.specs.declared.ending.ServeEnd.{ServeEnd}
use Rattle.sig_receive.specs.Closing.{with_text}
use Rattle.sig_receive.specs.Ends.{Says, state_of}
use Rattle.sig_receive.specs.Watches.{IsWatch, Watch, tells_of, texts_of}

-- what is kept after watches: what was kept before with the texts of them all
abbrev pub after_watches : Received → List Watch → Received
after_watches state watches = received_of state (texts_of watches)

-- ---- at an open door

-- the watches ran over the store, by these rules
abbrev pub Watched : RxRules → ServeEnd → ℕ → serving.AtDoor → serving.AtDoor → Type 0
Watched rules end asked old new = serving.Watched state_of with_text (IsWatch rules) tells_of after_watches end asked old new

-- no watch began; or they ran so
abbrev pub ServesAt : RxRules → ServeEnd → ℕ → serving.AtDoor → serving.AtDoor → Type 0
ServesAt rules end asked old new = ByEnd end ⊥ (serving.StandsIdle old new) (Watched rules end asked old new)

-- ---- from the settings on

-- the door was opened at the settings' place; the store was opened, and told one state; the watches began with that state and
-- that door, one after the other, by the settings' rules; the store was put back with that state and the texts of them all; and
-- the door was given back
abbrev pub Run : RxSettings → ServeEnd → ℕ → serving.Around → serving.Around → Type 0
Run said end asked old new = serving.Run state_of with_text (IsWatch said.rules) tells_of after_watches said.listen end asked old new

-- no door was opened; or one was at the settings' place, and no watch began; or there was a run by these settings
abbrev pub Serves : RxSettings → ServeEnd → ℕ → serving.Around → serving.Around → Type 0
Serves said end asked old new = ByEnd end (serving.NoRun old new) (serving.NoWatch said.listen old new) (Run said end asked old new)

-- ---- by settings that say so, where they are told

abbrev pub NoWatchBy : Option (List ℕ) → serving.Around → serving.Around → Type 0
NoWatchBy told old new = (said : RxSettings) × Says told said × serving.NoWatch said.listen old new

abbrev pub ServesBy : Option (List ℕ) → ServeEnd → ℕ → serving.Around → serving.Around → Type 0
ServesBy told end asked old new =
    ByEnd end (serving.NoRun old new) (NoWatchBy told old new) ((said : RxSettings) × Says told said × Run said end asked old new)

-- where a file of the store isn't there, no watch began
abbrev pub UnlessThereBy : Option (List ℕ) → Option Bool → Option Bool → ServeEnd → serving.Around → serving.Around → Type 0
UnlessThereBy told a b end old new = serving.UnlessThere a b end (serving.NoRun old new) (NoWatchBy told old new)
