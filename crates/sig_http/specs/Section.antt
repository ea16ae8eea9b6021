-- The head section of a message: its bytes up to and with the first empty line after a line that isn't empty (RFC 9112, section 2.1). A line ends with LF, and it is empty where nothing or one CR stands before that.
use Rattle.std.specs.Prelude.{◌≡◌, ◌≤◌, ◌<◌, ℕ, ◌+◌, ◌==◌, nat_lt, nat_le, List, [], ◌∷◌, if◌then◌else◌}
use Rattle.sig_json.specs.declared.limits.TheConstants.{HEAD_BYTES, HEADER_FIELDS}
use Rattle.sig_http.specs.declared.section.Begun.{Begun}
use Rattle.sig_http.specs.declared.section.Begun.TheVariants.{Nothing, Return, Filled}
use Rattle.sig_http.specs.declared.section.Scan.{Scan}
use Rattle.sig_http.specs.declared.section.Section.{Section}
use Rattle.sig_http.specs.declared.section.Section.TheVariants.{Open, Ended, Long}

-- LF and CR
abbrev pub line_feed : ℕ
line_feed = 10

abbrev pub carriage_return : ℕ
carriage_return = 13

-- nothing of a section
abbrev pub start : Scan
start = record { bytes = 0; lines = 0; begun = Nothing }

-- what stands of a line with one more byte that isn't LF
abbrev pub begun_with : Begun → ℕ → Begun
begun_with Nothing b = if b == carriage_return then Return else Filled
begun_with Return b = Filled
begun_with Filled b = Filled

-- the same section with one more byte, so many lines and this line open
abbrev pub one_more : Scan → ℕ → Begun → Section
one_more s lines begun = Open (record { bytes = s.bytes + 1; lines = lines; begun = begun })

-- an empty line: before the first other line it is passed over, after it the section ends
abbrev pub after_empty : Scan → Section
after_empty s = if s.lines == 0 then one_more s 0 Nothing else Ended (s.bytes + 1)

-- a line that isn't empty: a start line and the fields are as many as may come
abbrev pub after_filled : Scan → Section
after_filled s = if nat_lt HEADER_FIELDS s.lines then Long else one_more s (s.lines + 1) Nothing

abbrev pub after_line_of : Begun → Scan → Section
after_line_of Nothing s = after_empty s
after_line_of Return s = after_empty s
after_line_of Filled s = after_filled s

-- the LF of a line came
abbrev pub after_line : Scan → Section
after_line s = after_line_of s.begun s

-- one byte came: none comes after as many as a section may have
abbrev pub after_byte : Scan → ℕ → Section
after_byte s b =
    if nat_le HEAD_BYTES s.bytes then Long
    else (if b == line_feed then after_line s else one_more s s.lines (begun_with s.begun b))

-- what bytes say of a section that was read so far: the first byte that ends it, or that is one too many, decides
abbrev pub section_from : Scan → List ℕ → Section
section_from s [] = Open s
section_from s (b ∷ bytes) = elim (after_byte s b) [ Open next ↦ section_from next bytes | Ended n ↦ Ended n | Long ↦ Long ]

-- a section that hasn't ended has as many bytes as came, and no more than may come; one that ended has more than before, and no more than came
abbrev pub Counts : Scan → ℕ → Section → Type 0
Counts s n (Open next) = (next.bytes ≡ s.bytes + n) × (next.bytes ≤ HEAD_BYTES)
Counts s n (Ended count) = (s.bytes < count) × (count ≤ s.bytes + n)
Counts s n Long = Unit {0}
