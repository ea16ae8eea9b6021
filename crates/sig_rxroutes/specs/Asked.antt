-- What queries and bodies ask of the session table (defined here).
use Rattle.std.specs.Prelude.{ℕ, List, ◌&&◌, Option, Some, None, option_and_then, Result, Ok, Err, ok_or, bytes_eq, codes, if◌then◌else◌, nat_le, nat_lt, slice_index}
use Rattle.std.specs.Result.{result_ok}
use Rattle.std.specs.Str.{all_ascii_digits}
use Rattle.std.specs.Str.Parse.{digits_value}
use Rattle.serde_json.specs.Data.{Data}
use Rattle.sig_json.specs.Json.{json_of, object_itself}
use Rattle.sig_json.specs.declared.limits.TheConstants.{LAST_NUMBER}
use Rattle.sig_http.specs.declared.fault.HttpRefusal.{HttpRefusal}
use Rattle.sig_http.specs.declared.fault.HttpRefusal.TheVariants as refusal
use Rattle.sig_subject.specs.declared.subject.Subject.{Subject}
use Rattle.sig_subject.specs.Reading as subjects

-- ---- the query of a page

-- a number up to LAST_NUMBER
abbrev pub within : ℕ → Option ℕ
within n = if nat_le n LAST_NUMBER then Some n else None

-- one from 1 on, in decimal without leading zeros
abbrev pub counted : List ℕ → Option ℕ
counted text = if nat_lt 48 (slice_index text 0) && all_ascii_digits text then within (digits_value 10 text) else None

-- a number up to LAST_NUMBER, in decimal without leading zeros
abbrev pub number_in : List ℕ → Option ℕ
number_in text = if bytes_eq text (codes "0") then Some 0 else counted text

-- the place of the first row, by what stands at `from`; the first of all where nothing does
abbrev pub place_of : Option (List ℕ) → Result ℕ HttpRefusal
place_of None = Ok 0
place_of (Some text) = ok_or (number_in text) (refusal.Bad (codes "from"))

-- ---- the body of a check

-- the subject that an object is (RFC 9493, section 3)
abbrev pub subject_of : Data → Result Subject HttpRefusal
subject_of d = ok_or (result_ok (subjects.subject_of d)) (refusal.Bad (codes "subject"))

abbrev pub subject_by : Option Data → Result Subject HttpRefusal
subject_by None = Err (refusal.Bad (codes "body"))
subject_by (Some d) = subject_of d

-- the subject that a body is: what it spells is an object, and this object is a subject
abbrev pub subject_in : List ℕ → Result Subject HttpRefusal
subject_in body = subject_by (option_and_then object_itself (json_of body))
