-- How the body of a delivery is read (RFC 8936, section 2): a JSON object whose members are checked in order, and the first that is
-- wrong is the fault. Members without a name here are passed over.
use Rattle.std.specs.Prelude.{ℕ, List, [], ◌∷◌, is_some, Option, Some, None, option_and_then, option_map, Result, Err, codes}
use Rattle.serde_json.specs.Data.{Data, Items, no_items, item, Members, no_members, member}
use Rattle.serde_json.specs.Find.{as_str}
use Rattle.sig_json.specs.Checks.{Check, check}
use Rattle.sig_json.specs.Json.{object_itself}
use Rattle.sig_delivery.specs.declared.fault.BodyFault.{BodyFault}
use Rattle.sig_delivery.specs.declared.fault.BodyFault.TheVariants.{Bad}

-- what a value says that is an object, and the fault `body` where it is none
abbrev pub said_by : {T : Type 0} → (Data → Result T BodyFault) → Option Data → Result T BodyFault
said_by read None = Err (Bad (codes "body"))
said_by read (Some d) = read d

abbrev pub body_by : {T : Type 0} → (Data → Result T BodyFault) → Option Data → Result T BodyFault
body_by read value = said_by read (option_and_then object_itself value)

-- a check of a member: it is read as something
abbrev pub read_at : {T : Type 0} → List ℕ → Option T → Check BodyFault
read_at name read = check (Bad name) (is_some read)

-- what is read of a member that may be missing, and this where it is missing
abbrev pub or_missing : {T : Type 0} → T → (Data → Option T) → Option Data → Option T
or_missing otherwise read None = Some otherwise
or_missing otherwise read (Some d) = read d

-- an item before others, where all of them are read
abbrev pub before : {T : Type 0} → Option T → Option (List T) → Option (List T)
before None rest = None
before (Some x) rest = option_map (λ xs. x ∷ xs) rest

-- the texts of a list, where it has nothing else
abbrev pub texts_of : Items → Option (List (List ℕ))
texts_of no_items = Some []
texts_of (item d ds) = before (as_str d) (texts_of ds)

-- the members of an object, each read under its name, where all of them are
abbrev pub members_read : {T : Type 0} → (List ℕ → Data → Option T) → Members → Option (List T)
members_read read no_members = Some []
members_read read (member name d ms) = before (read name d) (members_read read ms)
