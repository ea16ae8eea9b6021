-- The payload that is written of what an event keeps.
use Rattle.std.specs.Prelude.{◌^◌, ℕ, ℤ, pos, negsuc, List, [], ◌∷◌, nat_lt, if◌then◌else◌, Option, Some, None, unwrap_or}
use Rattle.serde_json.specs.Data.{Data, null, number, string, object, unsigned, negative, Members, no_members, put}
use Rattle.sig_json.specs.Json.{json_of}
use Rattle.sig_json.specs.Members.{Rule, Kept, Words, Number, Canonical}

-- the value that a kept text spells, null where it spells none
abbrev pub spelled : List ℕ → Data
spelled text = unwrap_or (json_of text) null

-- a whole number as JSON, null outside of -2^63 to 2^64 - 1
abbrev pub whole_data : ℤ → Data
whole_data (pos n) = if nat_lt n (2 ^ 64) then number (unsigned n) else null
whole_data (negsuc n) = if nat_lt n (2 ^ 63) then number (negative (negsuc n)) else null

-- the member that is written for what is kept of it
abbrev pub data_of : Kept → Data
data_of (Words text) = string text
data_of (Number z) = whole_data z
data_of (Canonical text) = spelled text

-- the members, with this one where there is one
abbrev pub put_kept : List ℕ → Option Kept → Members → Members
put_kept name None ms = ms
put_kept name (Some k) ms = put name (data_of k) ms

-- the members, with those that the rules name
abbrev pub put_all : List Rule → List (Option Kept) → Members → Members
put_all [] ks ms = ms
put_all (r ∷ rs) [] ms = ms
put_all (r ∷ rs) (k ∷ ks) ms = put_all rs ks (put_kept r.name k ms)

-- the object with what is kept of its members by the rules
abbrev pub payload_by : List Rule → List (Option Kept) → Data
payload_by rules ks = object (put_all rules ks no_members)
