-- Members of settings. A kind of value is a function that gives what a value says of that kind, and where it says nothing of it the
-- steps from the value to what is missing or wrong.
use Rattle.std.specs.Prelude.{ℕ, List, [], ◌∷◌, Option, Some, None, Result, Ok, Err, ok_or}
use Rattle.serde_json.specs.Data.{Data}
use Rattle.sig_json.specs.Answers.{result_map}
use Rattle.sig_json.specs.Json.{member_of, object_itself}
use Rattle.sig_stream.specs.Steps.{where_given}
use Rattle.sig_settings.specs.declared.fault.SettingsFault.{SettingsFault}
use Rattle.sig_settings.specs.declared.fault.SettingsFault.TheVariants as settings
use Rattle.sig_settings.specs.declared.fault.ValueFault.{ValueFault}
use Rattle.sig_settings.specs.declared.fault.ValueFault.TheVariants.{Memory, Wrong}
use Rattle.sig_settings.specs.declared.path.Step.{Step}
use Rattle.sig_settings.specs.declared.path.Step.TheVariants.{Member}
use Rattle.sig_settings.specs.Paths.{path_text}

-- ---- where a fault stands

-- the value itself is missing or wrong
abbrev pub itself : ValueFault
itself = Wrong []

-- what was found of a value, which is wrong where nothing was
abbrev pub found : {T : Type 0} → Option T → Result T ValueFault
found o = ok_or o itself

-- a fault of a value, seen from the one that holds it
abbrev pub deeper : Step → ValueFault → ValueFault
deeper step (Wrong path) = Wrong (step ∷ path)
deeper step Memory = Memory

-- what was read of the value at a step
abbrev pub under : {T : Type 0} → Step → Result T ValueFault → Result T ValueFault
under step (Ok x) = Ok x
under step (Err fault) = Err (deeper step fault)

-- ---- members

-- the value is an object
abbrev pub is_whole : Data → Result (Unit {0}) ValueFault
is_whole d = result_map (λ _. tt) (found (object_itself d))

-- what is read of a value that has to be there
abbrev pub where_there : {T : Type 0} → (Data → Result T ValueFault) → Option Data → Result T ValueFault
where_there kind None = Err itself
where_there kind (Some d) = kind d

abbrev pub read_there : {T : Type 0} → (Data → Result T ValueFault) → List ℕ → Data → Result T ValueFault
read_there kind name d = where_there kind (member_of name d)

-- a member of a kind
abbrev pub member_at : {T : Type 0} → (Data → Result T ValueFault) → List ℕ → Data → Result T ValueFault
member_at kind name d = under (Member name) (read_there kind name d)

abbrev pub read_given : {T : Type 0} → (Data → Result T ValueFault) → List ℕ → Data → Result (Option T) ValueFault
read_given kind name d = where_given kind (member_of name d)

-- a member of a kind, where it is there
abbrev pub optional_at : {T : Type 0} → (Data → Result T ValueFault) → List ℕ → Data → Result (Option T) ValueFault
optional_at kind name d = under (Member name) (read_given kind name d)

-- ---- members of the whole

-- a fault of the settings' object, told by the text of its path
abbrev pub told_of : ValueFault → SettingsFault
told_of (Wrong path) = settings.Refused (path_text path)
told_of Memory = settings.Memory

abbrev pub told : {T : Type 0} → Result T ValueFault → Result T SettingsFault
told (Ok x) = Ok x
told (Err fault) = Err (told_of fault)

-- a member that has to be there
unfoldable pub needed : {T : Type 0} → (Data → Result T ValueFault) → List ℕ → Data → Result T SettingsFault
needed kind name d = told (member_at kind name d)

-- a member that may be missing
unfoldable pub optional : {T : Type 0} → (Data → Result T ValueFault) → List ℕ → Data → Result (Option T) SettingsFault
optional kind name d = told (optional_at kind name d)
