-- How many bytes of a chunked body come before it is decided.
use Rattle.std.proofs.Common.{◌≡◌, ◌<◌, ◌≤◌, ◌+◌, ◌-◌, ℕ, suc, Bool, true, false, List, [], ◌∷◌, ◌++◌, length, refl, sym, ap, subst, length-append, arith, if◌then◌else◌}
use Rattle.std.specs.Prelude.{nat_lt, nat_le, ◌==◌, ◌&&◌}
use Rattle.std.proofs.lemmas.Bool.{ltb-false, leb-false, eqb-false}
use Rattle.sig_http.specs.declared.limits.TheConstants.{TRAILER_BYTES, CHUNK_LINE_BYTES}
use Rattle.sig_http.specs.declared.fault.HttpFault.TheVariants.{Length, BodyLong}
use Rattle.sig_http.specs.declared.section.Begun.TheVariants as begins
use Rattle.sig_http.specs.declared.chunks.Part.{Part}
use Rattle.sig_http.specs.declared.chunks.Part.TheVariants as parts
use Rattle.sig_http.specs.declared.chunks.SizeLine.{SizeLine}
use Rattle.sig_http.specs.declared.chunks.Phase.{Phase}
use Rattle.sig_http.specs.declared.chunks.Phase.TheVariants.{Line, Data, Return, Newline, Trailer}
use Rattle.sig_http.specs.declared.chunks.Chunk.{Chunk}
use Rattle.sig_http.specs.declared.chunks.Chunk.TheVariants.{On, Keeps, Ended, Broken}
use Rattle.sig_http.specs.declared.chunks.Standing.{Standing}
use Rattle.sig_http.specs.declared.chunks.Step.{Step}
use Rattle.sig_http.specs.declared.chunks.Step.TheVariants as steps
use Rattle.sig_http.specs.Section.{line_feed, begun_with}
use Rattle.sig_http.specs.Chunks.{Chunked, Stands, Holds, Fails, after_line_in, chunk_byte, chunks_from, empty_line, first, frame_bytes, framed_by, framed_byte, is_empty, line_with}
use Rattle.sig_http.specs.Message.{Whole, Unfinished, outcome_of}

-- the content and the rest of its chunk are within the limit
abbrev pub Fits : ℕ → Phase → ℕ → Type 0
Fits limit (Line line) held = held ≤ limit
Fits limit (Data left) held = (0 < left) × (held + left ≤ limit)
Fits limit Return held = held ≤ limit
Fits limit (Newline whole) held = held ≤ limit
Fits limit (Trailer bytes begun) held = held ≤ limit

abbrev ChunkFits : ℕ → ℕ → Chunk → Type 0
ChunkFits limit held (On next) = Fits limit next held
ChunkFits limit held (Keeps next) = Fits limit next (held + 1)
ChunkFits limit held Ended = held ≤ limit
ChunkFits limit held (Broken fault) = Unit {0}

either : (limit held : ℕ) (t : Bool) (a b : Chunk) → ChunkFits limit held a → ChunkFits limit held b → ChunkFits limit held (if t then a else b)
either limit held true a b p q = p
either limit held false a b p q = q

size_fits : (limit held size : ℕ) (none long : Bool) → held ≤ limit → (size == 0) ≡ none → nat_lt (limit - held) size ≡ long
    → ChunkFits limit held (if none then On (Trailer 0 begins.Nothing) else (if long then Broken BodyLong else On (Data size)))
size_fits limit held size true long few e f = few
size_fits limit held size false true few e f = tt
size_fits limit held size false false few e f =
    let some = eqb-false size 0 e in
    let short = ltb-false (limit - held) size f in
    (omega (arith, some), omega (arith, short, few))

line_fits : (part : Part) (limit held : ℕ) (line : SizeLine) → held ≤ limit → ChunkFits limit held (after_line_in part limit held line)
line_fits parts.Return limit held line few = size_fits limit held line.size (line.size == 0) (nat_lt (limit - held) line.size) few refl refl
line_fits parts.Digits limit held line few = tt
line_fits parts.Pad limit held line few = tt
line_fits parts.Extension limit held line few = tt
line_fits parts.Wrong limit held line few = tt

data_fits : (limit held left : ℕ) (last : Bool) → (0 < left) × (held + left ≤ limit) → nat_le left 1 ≡ last → Fits limit (if last then Return else Data (left - 1)) (held + 1)
data_fits limit held left true fits e = omega (arith, fits.0, fits.1)
data_fits limit held left false fits e =
    let more = leb-false left 1 e in
    (omega (arith, more), omega (arith, more, fits.1))

-- whatever byte comes
chunk_fits : (limit held : ℕ) (phase : Phase) (b : ℕ) → Fits limit phase held → ChunkFits limit held (chunk_byte limit held phase b)
chunk_fits limit held (Line line) b fits =
    either limit held (b == line_feed) (after_line_in line.part limit held line) (if nat_le (CHUNK_LINE_BYTES - 1) line.bytes then Broken Length else On (Line (line_with line b)))
    (line_fits line.part limit held line fits)
    (either limit held (nat_le (CHUNK_LINE_BYTES - 1) line.bytes) (Broken Length) (On (Line (line_with line b))) tt fits)
chunk_fits limit held (Data left) b fits = data_fits limit held left (nat_le left 1) fits refl
chunk_fits limit held Return b fits = fits
chunk_fits limit held (Newline whole) b fits = either limit held (whole && (b == line_feed)) (On (Line empty_line)) (Broken Length) fits tt
chunk_fits limit held (Trailer bytes begun) b fits =
    let next = On (Trailer (bytes + 1) (if b == line_feed then begins.Nothing else begun_with begun b)) in
    either limit held ((b == line_feed) && is_empty begun) Ended (if nat_le (TRAILER_BYTES - 1) bytes then Broken Length else next) fits
    (either limit held (nat_le (TRAILER_BYTES - 1) bytes) (Broken Length) next tt fits)

-- the same, and a byte beside the content takes one of those that may come
abbrev StepFits : ℕ → ℕ → Standing → Step → Type 0
StepFits limit held s (steps.On next) = (s.spare ≡ next.spare + 1) × Fits limit next.phase held
StepFits limit held s (steps.Keeps next) = (s.spare ≡ next.spare) × Fits limit next.phase (held + 1)
StepFits limit held s steps.Ended = 0 < s.spare
StepFits limit held s (steps.Broken fault) = Unit {0}

on_fits : (limit held : ℕ) (s : Standing) (next : Phase) (t : Bool) → Fits limit next held → (s.spare == 0) ≡ t
    → StepFits limit held s (if t then steps.Broken BodyLong else steps.On (record { spare = s.spare - 1; phase = next }))
on_fits limit held s next true fits e = tt
on_fits limit held s next false fits e = let some = eqb-false s.spare 0 e in (omega (arith, some), fits)

end_fits : (limit held : ℕ) (s : Standing) (t : Bool) → (s.spare == 0) ≡ t → StepFits limit held s (if t then steps.Broken BodyLong else steps.Ended)
end_fits limit held s true e = tt
end_fits limit held s false e = let some = eqb-false s.spare 0 e in omega (arith, some)

step_fits : (limit held : ℕ) (s : Standing) (chunk : Chunk) → ChunkFits limit held chunk → StepFits limit held s (framed_by s chunk)
step_fits limit held s (On next) fits = on_fits limit held s next (s.spare == 0) fits refl
step_fits limit held s (Keeps next) fits = (refl, fits)
step_fits limit held s Ended fits = end_fits limit held s (s.spare == 0) refl
step_fits limit held s (Broken fault) fits = tt

-- what so many bytes that were told leave of those that may come
abbrev Counted : ℕ → ℕ → ℕ → ℕ → Chunked → Type 0
Counted limit spare held n (Stands s content) = (n + held + s.spare ≡ length content + spare) × (length content ≤ limit)
Counted limit spare held n (Holds content rest) = n + held ≤ length rest + length content + spare
Counted limit spare held n (Fails fault) = Unit {0}

-- one byte more
one_on : (limit spare spare' held n : ℕ) (told : Chunked) → spare ≡ spare' + 1 → Counted limit spare' held n told → Counted limit spare held (suc n) told
one_on limit spare spare' held n (Stands s content) e c = (omega (arith, e, c.0), c.1)
one_on limit spare spare' held n (Holds content rest) e c = omega (arith, e, c)
one_on limit spare spare' held n (Fails fault) e c = tt

one_kept : (limit spare spare' held held' n : ℕ) (told : Chunked) → spare ≡ spare' → held' ≡ held + 1 → Counted limit spare' held' n told → Counted limit spare held (suc n) told
one_kept limit spare spare' held held' n (Stands s content) e f c = (omega (arith, e, f, c.0), c.1)
one_kept limit spare spare' held held' n (Holds content rest) e f c = omega (arith, e, f, c)
one_kept limit spare spare' held held' n (Fails fault) e f c = tt

by_step : (limit : ℕ) (s : Standing) (step : Step) (b : ℕ) (content bytes : List ℕ) → StepFits limit (length content) s step
    → ((next : Standing) (so_far : List ℕ) → Fits limit next.phase (length so_far) → Counted limit next.spare (length so_far) (length bytes) (chunks_from limit next so_far bytes))
    → Counted limit s.spare (length content) (suc (length bytes))
    (elim step [ steps.On next ↦ chunks_from limit next content bytes | steps.Keeps next ↦ chunks_from limit next (content ++ b ∷ []) bytes | steps.Ended ↦ Holds content bytes | steps.Broken fault ↦ Fails fault ])
by_step limit s (steps.On next) b content bytes fits later = one_on limit s.spare next.spare (length content) (length bytes) (chunks_from limit next content bytes) fits.0 (later next content fits.1)
by_step limit s (steps.Keeps next) b content bytes fits later =
    let more : length (content ++ b ∷ []) ≡ length content + 1 = length-append content (b ∷ []) in
    one_kept limit s.spare next.spare (length content) (length (content ++ b ∷ [])) (length bytes) (chunks_from limit next (content ++ b ∷ []) bytes) fits.0 more
    (later next (content ++ b ∷ []) (subst (λ (n : ℕ). Fits limit next.phase n) (sym more) fits.1))
by_step limit s steps.Ended b content bytes fits later = omega (arith, fits)
by_step limit s (steps.Broken fault) b content bytes fits later = tt

within : (limit held : ℕ) (phase : Phase) → Fits limit phase held → held ≤ limit
within limit held (Line line) fits = fits
within limit held (Data left) fits = omega (arith, fits.1)
within limit held Return fits = fits
within limit held (Newline whole) fits = fits
within limit held (Trailer bytes begun) fits = fits

counted : (limit : ℕ) (s : Standing) (content bytes : List ℕ) → Fits limit s.phase (length content) → Counted limit s.spare (length content) (length bytes) (chunks_from limit s content bytes)
counted limit s content [] fits = (omega arith, within limit (length content) s.phase fits)
counted limit s content (b ∷ bytes) fits =
    by_step limit s (framed_byte limit (length content) s b) b content bytes (step_fits limit (length content) s (chunk_byte limit (length content) s.phase b) (chunk_fits limit (length content) s.phase b fits))
    (λ next so_far fits. counted limit next so_far bytes fits)

-- ---- a whole body, and one that isn't decided

whole_few : (limit n : ℕ) (told : Chunked) (content rest : List ℕ) → Counted limit (frame_bytes limit) 0 n told → outcome_of told ≡ Whole content rest → n ≤ length rest + length content + frame_bytes limit
whole_few limit n (Stands s so_far) content rest c e = cc e
whole_few limit n (Holds so_far after) content rest c e =
    let same : (so_far ≡ content) × (after ≡ rest) = (cc e, cc e) in
    omega (arith, c, ap length same.0, ap length same.1)
whole_few limit n (Fails fault) content rest c e = cc e

undecided_few : (limit n : ℕ) (told : Chunked) → Counted limit (frame_bytes limit) 0 n told → outcome_of told ≡ Unfinished → n ≤ limit + frame_bytes limit
undecided_few limit n (Stands s so_far) c e = omega (arith, c.0, c.1)
undecided_few limit n (Holds so_far after) c e = cc e
undecided_few limit n (Fails fault) c e = cc e

pub few_beside : (limit : ℕ) (bytes content rest : List ℕ) → outcome_of (chunks_from limit (first limit) [] bytes) ≡ Whole content rest → length bytes ≤ length rest + length content + frame_bytes limit
few_beside limit bytes content rest e = whole_few limit (length bytes) (chunks_from limit (first limit) [] bytes) content rest (counted limit (first limit) [] bytes (omega arith)) e

pub soon_decided : (limit : ℕ) (bytes : List ℕ) → outcome_of (chunks_from limit (first limit) [] bytes) ≡ Unfinished → length bytes ≤ limit + frame_bytes limit
soon_decided limit bytes e = undecided_few limit (length bytes) (chunks_from limit (first limit) [] bytes) (counted limit (first limit) [] bytes (omega arith)) e
