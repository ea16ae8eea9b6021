-- What a run comes to, as the outside tells it.
use Rattle.std.specs.Prelude.{ℕ, List, Bool, Option}
use Rattle.sig_history.specs.Owed.{Sum, sum_of}
use Rattle.sig_txsettings.specs.declared.settings.TxSettings.{TxSettings}
use Rattle.sig_terms.specs.declared.rules.Rules.{Rules}
use Rattle.sig_opening.specs.Ends.{ByEnd}
use Rattle.sig_opening.specs.Serving as serving
use Rattle.sig_opening.specs.declared.ending.ServeEnd.{ServeEnd}
use Rattle.sig_serve.specs.Closing.{with_fact}
use Rattle.sig_serve.specs.Ends.{Says, state_of}
use Rattle.sig_serve.specs.Watches.{IsWatch, Watch, facts_of, tells_of}

-- the state after watches: that before with the facts of them all
abbrev pub after_watches : Sum → List Watch → Sum
after_watches state watches = sum_of state (facts_of watches)

-- ---- at an open door

-- the watches ran over the store, by these rules
abbrev pub Watched : Rules → ServeEnd → ℕ → serving.AtDoor → serving.AtDoor → Type 0
Watched rules end asked old new = serving.Watched state_of with_fact (IsWatch rules) tells_of after_watches end asked old new

-- no watch began; or they ran so
abbrev pub ServesAt : Rules → ServeEnd → ℕ → serving.AtDoor → serving.AtDoor → Type 0
ServesAt rules end asked old new = ByEnd end ⊥ (serving.StandsIdle old new) (Watched rules end asked old new)

-- ---- from the settings on

-- the door was opened at the settings' place; the store was opened, and told one state; the watches began with that state and
-- that door, one after the other, by the settings' rules; the store was put back with that state and the facts of them all; and
-- the door was given back
abbrev pub Run : TxSettings → ServeEnd → ℕ → serving.Around → serving.Around → Type 0
Run said end asked old new = serving.Run state_of with_fact (IsWatch said.rules) tells_of after_watches said.listen end asked old new

-- no door was opened; or one was at the settings' place, and no watch began; or there was a run by these settings
abbrev pub Serves : TxSettings → ServeEnd → ℕ → serving.Around → serving.Around → Type 0
Serves said end asked old new = ByEnd end (serving.NoRun old new) (serving.NoWatch said.listen old new) (Run said end asked old new)

-- ---- by settings that say so, where they are told

abbrev pub NoWatchBy : Option (List ℕ) → serving.Around → serving.Around → Type 0
NoWatchBy told old new = (said : TxSettings) × Says told said × serving.NoWatch said.listen old new

abbrev pub ServesBy : Option (List ℕ) → ServeEnd → ℕ → serving.Around → serving.Around → Type 0
ServesBy told end asked old new =
    ByEnd end (serving.NoRun old new) (NoWatchBy told old new) ((said : TxSettings) × Says told said × Run said end asked old new)

-- where a file of the store isn't there, no watch began
abbrev pub UnlessThereBy : Option (List ℕ) → Option Bool → Option Bool → ServeEnd → serving.Around → serving.Around → Type 0
UnlessThereBy told a b end old new = serving.UnlessThere a b end (serving.NoRun old new) (NoWatchBy told old new)
