-- What settings say where the outside tells them, by any reader of settings, and why none were read.
use Rattle.std.specs.Prelude.{◌≡◌, ℕ, List, Option, Result, Ok, Err, IfSome}
use Rattle.sig_outside.specs.Causes.{Rose}
use Rattle.sig_settings.specs.declared.fault.SettingsFault.{SettingsFault}
use Rattle.sig_settings.specs.declared.fault.SettingsFault.TheVariants as settings
use Rattle.sig_opening.specs.declared.reading.ReadFault.{ReadFault}
use Rattle.sig_opening.specs.declared.reading.ReadFault.TheVariants as read
use Rattle.sig_opening.specs.declared.unread.Unread.{Unread}
use Rattle.sig_opening.specs.declared.unread.Unread.TheVariants.{Failed, Refused, Memory}

-- the cause where bytes weren't read, or were refused, so
abbrev pub of_read : ReadFault → Unread
of_read read.Failed = Failed
of_read read.Memory = Memory

abbrev pub of_settings : SettingsFault → Unread
of_settings (settings.Refused member) = Refused member
of_settings settings.Memory = Memory

-- where the settings are told, they say this
abbrev pub Says : {T : Type 0} → (List ℕ → Result T SettingsFault) → Option (List ℕ) → T → Type 0
Says reads told said = IfSome told (λ bytes. reads bytes ≡ Ok said)

-- where they are told, they are refused at this member
abbrev pub AreRefused : {T : Type 0} → (List ℕ → Result T SettingsFault) → Option (List ℕ) → List ℕ → Type 0
AreRefused reads told member = IfSome told (λ bytes. reads bytes ≡ Err (settings.Refused member))

-- why no settings were read, by the count of their faults
abbrev pub HaltsSettings : {T : Type 0} → (List ℕ → Result T SettingsFault) → Unread → Option (List ℕ) → ℕ → ℕ → Type 0
HaltsSettings reads Failed told before now = Rose before now
HaltsSettings reads (Refused member) told before now = AreRefused reads told member
HaltsSettings reads Memory told before now = Unit {0}
