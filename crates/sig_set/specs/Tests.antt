-- Tests of values and of their members, that hold of nothing where the value isn't there.
use Rattle.std.specs.Prelude.{ℕ, List, Bool, false, ◌&&◌, ℤ, pos, negsuc, Option, Some, None, bytes_eq, length, nat_lt, nat_le, if◌then◌else◌}
use Rattle.serde_json.specs.Data.{Data}
use Rattle.serde_json.specs.Find.{as_object}
use Rattle.sig_json.specs.Members.{has_members}
use Rattle.sig_json.specs.declared.limits.TheConstants.{LAST_NUMBER}

-- a test of what is there
abbrev pub where_there : {T : Type 0} → (T → Bool) → Option T → Bool
where_there test None = false
where_there test (Some d) = test d

-- there is a text, and it is this one
abbrev pub is_text : List ℕ → Option (List ℕ) → Bool
is_text wanted None = false
is_text wanted (Some text) = bytes_eq text wanted

-- there is a text, and it isn't empty
abbrev pub is_filled : Option (List ℕ) → Bool
is_filled None = false
is_filled (Some text) = nat_lt 0 (length text)

-- there is a text that isn't empty, and where one is wanted it is that one
abbrev pub is_filled_and_wanted : Option (List ℕ) → Option (List ℕ) → Bool
is_filled_and_wanted None text = is_filled text
is_filled_and_wanted (Some wanted) text = is_filled text && is_text wanted text

-- a whole number of seconds from 0 to LAST_NUMBER
abbrev pub time_of : Option ℤ → Option ℕ
time_of None = None
time_of (Some (pos n)) = if nat_le n LAST_NUMBER then Some n else None
time_of (Some (negsuc n)) = None

-- an object with at least one member
abbrev pub has_member : Data → Bool
has_member d = where_there has_members (as_object d)
