-- What settings say that were read up to their limit.
use Rattle.std.proofs.Common.{◌≡◌, ◌∙◌, ℕ, ◌+◌, ◌≤◌, ◌<◌, Bool, true, false, List, length, take, Option, Some, None, IfSome, Result, Err, inl, inr, if◌then◌else◌, refl, sym, ap, arith}
use Rattle.std.specs.Prelude.{◌⊎◌, codes, nat_le, ok_or, option_and_then}
use Rattle.std.proofs.lemmas.Bool.{leb-false, leb-true, lt-leb}
use Rattle.std.proofs.lemmas.List.{length-take-le, take_all}
use Rattle.sig_json.specs.Json.{json_of, object_itself}
use Rattle.sig_json.specs.declared.limits.TheConstants.{SETTINGS_BYTES}
use Rattle.sig_settings.specs.declared.fault.SettingsFault.{SettingsFault}
use Rattle.sig_settings.specs.declared.fault.SettingsFault.TheVariants as settings
use Rattle.sig_settings.specs.Objects.{settings_of}
use Rattle.sig_opening.specs.Reading.{HaltsReading}
use Rattle.sig_opening.specs.Settings.{HaltsSettings, of_read, of_settings}
use Rattle.sig_opening.specs.declared.reading.ReadFault.{ReadFault}
use Rattle.sig_opening.specs.declared.reading.ReadFault.TheVariants as read

-- what is decided by whether there are more bytes than a limit is decided by so many and one more
cut : {T : Type 0} (limit : ℕ) (all : List ℕ) (reads : List ℕ → T) (long : T) (within : Bool) → nat_le (length all) limit ≡ within
    → (if nat_le (length (take (limit + 1) all)) limit then reads (take (limit + 1) all) else long) ≡ (if nat_le (length all) limit then reads all else long)
cut limit all reads long true is =
    let short : length all ≤ limit = leb-true (length all) limit is in
    let same : take (limit + 1) all ≡ all = take_all (limit + 1) all (omega (arith, short)) in
    ap (λ (bytes : List ℕ). if nat_le (length bytes) limit then reads bytes else long) same
cut limit all reads long false is =
    let over : limit < length all = leb-false (length all) limit is in
    let full : length (take (limit + 1) all) ≡ limit + 1 = length-take-le (limit + 1) all (omega (arith, over)) in
    let no : nat_le (length (take (limit + 1) all)) limit ≡ false = lt-leb (length (take (limit + 1) all)) limit (omega (arith, full)) in
    ap (λ (b : Bool). if b then reads (take (limit + 1) all) else long) no ∙ sym (ap (λ (b : Bool). if b then reads all else long) is)

-- settings that are too long are refused by as many bytes as are read of them
pub settings_cut : (all : List ℕ) → settings_of (take (SETTINGS_BYTES + 1) all) ≡ settings_of all
settings_cut all =
    cut SETTINGS_BYTES all (λ (bytes : List ℕ). ok_or (option_and_then object_itself (json_of bytes)) (settings.Refused (codes "body"))) (Err (settings.Refused (codes "length"))) (nat_le (length all) SETTINGS_BYTES) refl

-- ---- by any reader that takes no more than it reads

-- what was read says what all of it says
pub read_says : {T : Type 0} (reads : List ℕ → Result T SettingsFault) (cut : (all : List ℕ) → reads (take (SETTINGS_BYTES + 1) all) ≡ reads all)
    → (told : Option (List ℕ)) (bytes : List ℕ) (said : Result T SettingsFault) → IfSome told (λ all. bytes ≡ take (SETTINGS_BYTES + 1) all) → reads bytes ≡ said
    → IfSome told (λ all. reads all ≡ said)
read_says reads cut None bytes said whole says = tt
read_says reads cut (Some all) bytes said whole says = sym (ap reads whole ∙ cut all) ∙ says

pub read_refused : {T : Type 0} (reads : List ℕ → Result T SettingsFault) (cut : (all : List ℕ) → reads (take (SETTINGS_BYTES + 1) all) ≡ reads all)
    → (told : Option (List ℕ)) (bytes : List ℕ) (fault : SettingsFault) (before now : ℕ) → IfSome told (λ all. bytes ≡ take (SETTINGS_BYTES + 1) all)
    → (fault ≡ settings.Memory) ⊎ (reads bytes ≡ Err fault) → HaltsSettings reads (of_settings fault) told before now
read_refused reads cut told bytes settings.Memory before now whole h = tt
read_refused reads cut told bytes (settings.Refused member) before now whole (inl memory) = absurd cc
read_refused reads cut told bytes (settings.Refused member) before now whole (inr h) = read_says reads cut told bytes (Err (settings.Refused member)) whole h

-- no bytes were read
pub read_none : {T : Type 0} (reads : List ℕ → Result T SettingsFault) (fault : ReadFault) (told : Option (List ℕ)) (before now : ℕ) → HaltsReading fault before now
    → HaltsSettings reads (of_read fault) told before now
read_none reads read.Failed told before now h = h
read_none reads read.Memory told before now h = tt
