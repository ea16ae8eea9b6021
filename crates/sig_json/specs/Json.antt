-- JSON values of bytes, and look-ups in them (RFC 8259, as serde_json reads it).
use Rattle.std.specs.Prelude.{ℕ, ℤ, List, Option, Some, None, if◌then◌else◌, option_and_then}
use Rattle.std.specs.Str.{is_utf8}
use Rattle.serde_json.specs.Data.{Data, null, boolean, number, string, array, object}
use Rattle.serde_json.specs.Find.{get, as_str, as_number, as_integer}
use Rattle.serde_json.specs.Read.{read}

-- the value that bytes spell
abbrev pub json_of : List ℕ → Option Data
json_of bytes = if is_utf8 bytes then read bytes else None

-- the member of an object
abbrev pub member_of : List ℕ → Data → Option Data
member_of name d = get name d

abbrev pub text_member : List ℕ → Data → Option (List ℕ)
text_member name d = option_and_then as_str (member_of name d)

abbrev pub whole_member : List ℕ → Data → Option ℤ
whole_member name d = option_and_then as_integer (option_and_then as_number (member_of name d))

-- the value itself, where it is an object
abbrev pub object_itself : Data → Option Data
object_itself null = None
object_itself (boolean b) = None
object_itself (number n) = None
object_itself (string s) = None
object_itself (array ds) = None
object_itself (object ms) = Some (object ms)

abbrev pub object_member : List ℕ → Data → Option Data
object_member name d = option_and_then object_itself (member_of name d)
