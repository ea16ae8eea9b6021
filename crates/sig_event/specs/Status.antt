-- The status of a stream as a text (OpenID Shared Signals Framework 1.0, section 8.1.2).
use Rattle.std.specs.Prelude.{ℕ, List, [], ◌∷◌, codes}
use Rattle.serde_json.specs.Data.{Data}
use Rattle.sig_json.specs.Listed.{listed_in}
use Rattle.sig_event.specs.declared.status.Status.{Status}
use Rattle.sig_event.specs.declared.status.Status.TheVariants.{Enabled, Paused, Disabled}

-- the text of a status
unfoldable pub status_text : Status → List ℕ
status_text Enabled = codes "enabled"
status_text Paused = codes "paused"
status_text Disabled = codes "disabled"

-- every status
unfoldable pub statuses : List Status
statuses = Enabled ∷ Paused ∷ Disabled ∷ []

-- the status that the text stands for
abbrev pub status_in : Data → Status
status_in = listed_in status_text statuses Enabled
