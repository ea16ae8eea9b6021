-- What a row may know, as closed lists, and the texts of their values.
use Rattle.std.specs.Prelude.{ℕ, List, [], ◌∷◌, codes}
use Rattle.sig_sessions.specs.declared.standing.Session.{Session}
use Rattle.sig_sessions.specs.declared.standing.Session.TheVariants as session
use Rattle.sig_sessions.specs.declared.standing.Account.{Account}
use Rattle.sig_sessions.specs.declared.standing.Account.TheVariants as account
use Rattle.sig_sessions.specs.declared.standing.Device.{Device}
use Rattle.sig_sessions.specs.declared.standing.Device.TheVariants as device
use Rattle.sig_sessions.specs.declared.standing.Opt.{Opt}
use Rattle.sig_sessions.specs.declared.standing.Opt.TheVariants as opt

abbrev pub sessions : List Session
sessions = session.Unseen ∷ session.Live ∷ session.Revoked ∷ []

abbrev pub session_text : Session → List ℕ
session_text session.Unseen = codes "unseen"
session_text session.Live = codes "live"
session_text session.Revoked = codes "revoked"

abbrev pub accounts : List Account
accounts = account.Unseen ∷ account.Enabled ∷ account.Disabled ∷ account.Purged ∷ []

abbrev pub account_text : Account → List ℕ
account_text account.Unseen = codes "unseen"
account_text account.Enabled = codes "enabled"
account_text account.Disabled = codes "disabled"
account_text account.Purged = codes "purged"

abbrev pub devices : List Device
devices = device.Unseen ∷ device.Compliant ∷ device.NotCompliant ∷ []

abbrev pub device_text : Device → List ℕ
device_text device.Unseen = codes "unseen"
device_text device.Compliant = codes "compliant"
device_text device.NotCompliant = codes "not-compliant"

abbrev pub opts : List Opt
opts = opt.Unseen ∷ opt.In ∷ opt.Leaving ∷ opt.Out ∷ []

abbrev pub opt_text : Opt → List ℕ
opt_text opt.Unseen = codes "unseen"
opt_text opt.In = codes "in"
opt_text opt.Leaving = codes "leaving"
opt_text opt.Out = codes "out"
