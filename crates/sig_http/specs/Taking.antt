-- What one call takes of a source: no piece after the bytes that decide the message, and so no more than so many bytes.
use Rattle.std.specs.Prelude.{◌≡◌, ◌⊎◌, ℕ, ◌+◌, ◌≤◌, List, [], ◌++◌, length, take, drop, Option, Some, None}
use Rattle.std.specs.Io.KnownBytes.{Consumes}
use Rattle.sig_json.specs.declared.limits.TheConstants.{HEAD_BYTES, RESPONSE_BODY_BYTES}
use Rattle.httparse.specs.Grammar.{ResponseHead}
use Rattle.sig_http.specs.Pieces.{Draws}
use Rattle.sig_http.specs.Section.{start, section_from}
use Rattle.sig_http.specs.Chunks.{frame_bytes}
use Rattle.sig_http.specs.Message.{Unfinished, body_of, responses, FindsResponse, DecidesRequest, DecidesResponse}
use Rattle.sig_http.specs.declared.limits.TheConstants.{PIECE_BYTES}
use Rattle.sig_http.specs.declared.section.Scan.{Scan}
use Rattle.sig_http.specs.declared.section.Section.TheVariants.{Open, Ended}
use Rattle.sig_http.specs.declared.framing.Framing.{Framing}
use Rattle.sig_http.specs.declared.framing.Framing.TheVariants as framings

-- ---- bytes that don't decide a message yet, so that a further piece is needed

-- they don't decide a request
abbrev pub IsOpenRequest : List ℕ → Type 0
IsOpenRequest bytes = DecidesRequest bytes Unfinished

-- after the head of a response whose body lasts to the end of the source, they are no more than such a body may have
pub record Lasts (bytes : List ℕ) : Type 0 where
  pub section : ℕ
  pub head : ResponseHead
  pub ended : section_from start bytes ≡ Ended section
  pub found : FindsResponse (take section bytes) (Some head)
  pub whole : responses.fault head ≡ None
  pub lasts : responses.framing head ≡ framings.End
  pub few : length (drop section bytes) ≤ RESPONSE_BODY_BYTES

-- they don't decide a response, or decide it only where the source ends after them
abbrev pub IsOpenResponse : List ℕ → Type 0
IsOpenResponse bytes = DecidesResponse bytes Unfinished ⊎ Lasts bytes

-- of a head section, and of a body
abbrev pub IsOpenSection : List ℕ → Type 0
IsOpenSection bytes = (scan : Scan) × (section_from start bytes ≡ Open scan)

abbrev pub IsOpenBody : ℕ → Framing → List ℕ → Type 0
IsOpenBody limit (framings.Length n) bytes = body_of limit (framings.Length n) bytes ≡ Unfinished
IsOpenBody limit framings.Chunks bytes = body_of limit framings.Chunks bytes ≡ Unfinished
IsOpenBody limit framings.End bytes = length bytes ≤ limit

-- ---- what is taken

-- bytes were taken behind those that stood: none, or their last piece only where what came before it was open
abbrev pub IsAwaited : (List ℕ → Type 0) → List ℕ → List ℕ → Type 0
IsAwaited IsOpen old more =
    (more ≡ []) ⊎ ((before : List ℕ) × (last : List ℕ) × (more ≡ before ++ last) × (length last ≤ PIECE_BYTES) × IsOpen (old ++ before))

-- so much was taken of a source, in its order
pub record Takes (IsOpen : List ℕ → Type 0) (old : List ℕ) (left left' : Option (List ℕ)) : Type 0 where
  pub more : List ℕ
  pub gave : Consumes left left' more
  pub awaited : IsAwaited IsOpen old more

-- the same where the bytes that were taken stand behind those that stood
pub record DrawsWhile (IsOpen : List ℕ → Type 0) (old new : List ℕ) (left left' : Option (List ℕ)) : Type 0 where
  pub draws : Draws old new left left'
  pub awaited : IsAwaited IsOpen old draws.more

-- no more than so many bytes were taken of a source, in its order
pub record TakesAtMost (most : ℕ) (left left' : Option (List ℕ)) : Type 0 where
  pub more : List ℕ
  pub gave : Consumes left left' more
  pub few : length more ≤ most

-- ---- how much is taken

-- bytes that don't decide a message with a body of so many bytes: the longest head section, the longest body, and as many
-- bytes beside it as it may have in chunks
abbrev pub open_bytes : ℕ → ℕ
open_bytes limit = HEAD_BYTES + limit + frame_bytes limit

-- bytes that one call takes: those, and the piece that decides the message
abbrev pub taken_bytes : ℕ → ℕ
taken_bytes limit = open_bytes limit + PIECE_BYTES
