-- A chunked body (RFC 9112, section 7.1): chunks, each a line with its size and its bytes, a chunk of size 0, and a trailer section. What is told in the order of its bytes.
use Rattle.std.specs.Prelude.{◌≡◌, ℕ, ◌+◌, ◌-◌, ◌*◌, ◌/◌, ◌<◌, ◌≤◌, ◌==◌, nat_lt, nat_le, Bool, true, false, ◌&&◌, List, [], ◌∷◌, ◌++◌, drop, length, if◌then◌else◌, Option, Some, None}
use Rattle.sig_http.specs.Faults.{OnJudged}
use Rattle.sig_http.specs.Section.{line_feed, carriage_return, begun_with}
use Rattle.sig_http.specs.Values.{hex_digit, number_with, is_blank}
use Rattle.sig_http.specs.declared.limits.TheConstants.{CHUNK_BYTES, CHUNK_FRAME_BYTES, CHUNK_LINE_BYTES, CHUNK_DIGITS, TRAILER_BYTES}
use Rattle.sig_http.specs.declared.section.Begun.{Begun}
use Rattle.sig_http.specs.declared.section.Begun.TheVariants as begins
use Rattle.sig_http.specs.declared.fault.HttpFault.{HttpFault}
use Rattle.sig_http.specs.declared.fault.HttpFault.TheVariants.{Length, BodyLong}
use Rattle.sig_http.specs.declared.chunks.Part.{Part}
use Rattle.sig_http.specs.declared.chunks.Part.TheVariants as parts
use Rattle.sig_http.specs.declared.chunks.SizeLine.{SizeLine}
use Rattle.sig_http.specs.declared.chunks.Phase.{Phase}
use Rattle.sig_http.specs.declared.chunks.Phase.TheVariants.{Line, Data, Return, Newline, Trailer}
use Rattle.sig_http.specs.declared.chunks.Standing.{Standing}
use Rattle.sig_http.specs.declared.chunks.Step.{Step}
use Rattle.sig_http.specs.declared.chunks.Step.TheVariants as steps
use Rattle.sig_http.specs.declared.chunks.Chunk.{Chunk}
use Rattle.sig_http.specs.declared.chunks.Chunk.TheVariants.{On, Keeps, Ended, Broken}
use Rattle.sig_http.specs.declared.chunks.Chunks.{Chunks}
use Rattle.sig_http.specs.declared.chunks.Chunks.TheVariants as told

-- ---- a chunk line: 1 to 16 hexadecimal digits, spaces and tabs, nothing or `;` and bytes other than CR and LF, CR LF

-- nothing of a line
abbrev pub empty_line : SizeLine
empty_line = record { bytes = 0; digits = 0; size = 0; part = parts.Digits }

-- the same line with one more byte, in this part
abbrev pub in_part : SizeLine → Part → SizeLine
in_part line part = record line { bytes = line.bytes + 1; part = part }

-- what a byte after the digits, or after the spaces, begins
abbrev pub after_size : ℕ → Part
after_size b =
    if is_blank b then parts.Pad
    else (if b == 59 then parts.Extension else (if b == carriage_return then parts.Return else parts.Wrong))

-- one more byte in the digits: there is at least one digit, and not too many
abbrev pub digit_or_end : SizeLine → ℕ → Option ℕ → SizeLine
digit_or_end line b (Some digit) =
    if nat_le CHUNK_DIGITS line.digits then in_part line parts.Wrong
    else record { bytes = line.bytes + 1; digits = line.digits + 1; size = number_with 16 line.size digit; part = parts.Digits }
digit_or_end line b None = if line.digits == 0 then in_part line parts.Wrong else in_part line (after_size b)

abbrev pub size_with : SizeLine → ℕ → SizeLine
size_with line b = digit_or_end line b (hex_digit b)

abbrev pub line_in : Part → SizeLine → ℕ → SizeLine
line_in parts.Digits line b = size_with line b
line_in parts.Pad line b = in_part line (after_size b)
line_in parts.Extension line b = in_part line (if b == carriage_return then parts.Return else parts.Extension)
line_in parts.Return line b = in_part line parts.Wrong
line_in parts.Wrong line b = in_part line parts.Wrong

-- one more byte that isn't LF
abbrev pub line_with : SizeLine → ℕ → SizeLine
line_with line b = line_in line.part line b

-- ---- a byte of the body, by where it stands

-- the LF of a whole line: the last chunk has size 0; one that passes the limit is refused before its bytes
abbrev pub after_size_line : ℕ → ℕ → ℕ → Chunk
after_size_line limit held size =
    if size == 0 then On (Trailer 0 begins.Nothing)
    else (if nat_lt (limit - held) size then Broken BodyLong else On (Data size))

abbrev pub after_line_in : Part → ℕ → ℕ → SizeLine → Chunk
after_line_in parts.Return limit held line = after_size_line limit held line.size
after_line_in parts.Digits limit held line = Broken Length
after_line_in parts.Pad limit held line = Broken Length
after_line_in parts.Extension limit held line = Broken Length
after_line_in parts.Wrong limit held line = Broken Length

-- the LF of a line
abbrev pub after_line : ℕ → ℕ → SizeLine → Chunk
after_line limit held line = after_line_in line.part limit held line

-- whether a line has nothing or one CR
abbrev pub is_empty : Begun → Bool
is_empty begins.Nothing = true
is_empty begins.Return = true
is_empty begins.Filled = false

-- a trailer section ends with its first empty line; its other bytes are passed over
abbrev pub trailer_byte : ℕ → Begun → ℕ → Chunk
trailer_byte bytes begun b =
    if (b == line_feed) && is_empty begun then Ended
    else (if nat_le (TRAILER_BYTES - 1) bytes then Broken Length
    else On (Trailer (bytes + 1) (if b == line_feed then begins.Nothing else begun_with begun b)))

-- what a byte says after so many bytes of content
abbrev pub chunk_byte : ℕ → ℕ → Phase → ℕ → Chunk
chunk_byte limit held (Line line) b =
    if b == line_feed then after_line limit held line
    else (if nat_le (CHUNK_LINE_BYTES - 1) line.bytes then Broken Length else On (Line (line_with line b)))
chunk_byte limit held (Data left) b = Keeps (if nat_le left 1 then Return else Data (left - 1))
chunk_byte limit held Return b = On (Newline (b == carriage_return))
chunk_byte limit held (Newline whole) b = if whole && (b == line_feed) then On (Line empty_line) else Broken Length
chunk_byte limit held (Trailer bytes begun) b = trailer_byte bytes begun b

-- ---- the bytes beside the content: chunk lines, line ends and the trailer section

-- as many as a body of this length has in chunks of so many bytes, and with the longest last line and trailer section
abbrev pub frame_bytes : ℕ → ℕ
frame_bytes limit = (limit / CHUNK_BYTES) * CHUNK_FRAME_BYTES + CHUNK_LINE_BYTES + TRAILER_BYTES

-- a byte of the content is none of them, and one that decides a fault decides it; where none may come any more, another one is too many
abbrev pub framed_by : Standing → Chunk → Step
framed_by s (Keeps next) = steps.Keeps (record { spare = s.spare; phase = next })
framed_by s (Broken fault) = steps.Broken fault
framed_by s (On next) = if s.spare == 0 then steps.Broken BodyLong else steps.On (record { spare = s.spare - 1; phase = next })
framed_by s Ended = if s.spare == 0 then steps.Broken BodyLong else steps.Ended

abbrev pub framed_byte : ℕ → ℕ → Standing → ℕ → Step
framed_byte limit held s b = framed_by s (chunk_byte limit held s.phase b)

-- ---- the body

-- nothing of a body
abbrev pub first : ℕ → Standing
first limit = record { spare = frame_bytes limit; phase = Line empty_line }

-- what bytes say of a chunked body: where it stands with its content so far, its content and the bytes after it, or a fault
pub data Chunked : Type 0 where
  Stands : Standing → List ℕ → Chunked
  Holds : List ℕ → List ℕ → Chunked
  Fails : HttpFault → Chunked

-- the first byte that ends it or breaks it decides
abbrev pub chunks_from : ℕ → Standing → List ℕ → List ℕ → Chunked
chunks_from limit s content [] = Stands s content
chunks_from limit s content (b ∷ bytes) = elim (framed_byte limit (length content) s b) [
  | steps.On next ↦ chunks_from limit next content bytes
  | steps.Keeps next ↦ chunks_from limit next (content ++ b ∷ []) bytes
  | steps.Ended ↦ Holds content bytes
  | steps.Broken fault ↦ Fails fault
]

-- what the code answers, with the content that it gathered
abbrev pub Tells : Chunks → List ℕ → List ℕ → Chunked → Type 0
Tells (told.Open s) content bytes is = is ≡ Stands s content
Tells (told.Ended place) content bytes is = (place ≤ length bytes) × (is ≡ Holds content (drop place bytes))
Tells (told.Broken fault) content bytes is = is ≡ Fails fault

-- ---- why reading ends: a bound on the bytes that may still come, over a body that isn't broken

-- bytes of a line at most, and of a trailer section
abbrev pub rest_of_frame : ℕ
rest_of_frame = CHUNK_LINE_BYTES + TRAILER_BYTES + 4

abbrev pub weight : ℕ → Phase → ℕ → ℕ
weight limit (Line line) held = 300 * (limit - held) + (CHUNK_LINE_BYTES - line.bytes) + TRAILER_BYTES + 1
weight limit (Data left) held = 300 * (limit - held - left) + left + 3 + rest_of_frame
weight limit Return held = 300 * (limit - held) + 2 + rest_of_frame
weight limit (Newline whole) held = 300 * (limit - held) + 1 + rest_of_frame
weight limit (Trailer bytes begun) held = TRAILER_BYTES - bytes

-- a byte lessens it, or decides a fault
abbrev pub IsLighter : ℕ → ℕ → Phase → Chunk → Type 0
IsLighter limit held phase (On next) = weight limit next held < weight limit phase held
IsLighter limit held phase (Keeps next) = weight limit next (held + 1) < weight limit phase held
IsLighter limit held phase Ended = Unit {0}
IsLighter limit held phase (Broken fault) = OnJudged fault (Unit {0})

-- the same of a byte where so many may still come
abbrev pub IsStepLighter : ℕ → ℕ → Standing → Step → Type 0
IsStepLighter limit held s (steps.On next) = weight limit next.phase held < weight limit s.phase held
IsStepLighter limit held s (steps.Keeps next) = weight limit next.phase (held + 1) < weight limit s.phase held
IsStepLighter limit held s steps.Ended = Unit {0}
IsStepLighter limit held s (steps.Broken fault) = OnJudged fault (Unit {0})

-- bytes lessen it, or decide a fault
abbrev pub StaysLight : ℕ → Standing → List ℕ → List ℕ → List ℕ → Chunks → Type 0
StaysLight limit s old new bytes (told.Open next) = weight limit next.phase (length new) + length bytes ≤ weight limit s.phase (length old)
StaysLight limit s old new bytes (told.Ended place) = Unit {0}
StaysLight limit s old new bytes (told.Broken fault) = OnJudged fault (Unit {0})
