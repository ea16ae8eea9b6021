-- A chunked body that is read piece by piece.
use Rattle.std.proofs.Common.{◌≡◌, ℕ, List, [], ◌∷◌, ◌++◌, length, refl, ◌∙◌, ap}
use Rattle.sig_http.specs.Chunks.{Chunked, Stands, Holds, Fails, chunks_from, framed_byte}
use Rattle.sig_http.specs.declared.chunks.Standing.{Standing}
use Rattle.sig_http.specs.declared.chunks.Step.{Step}
use Rattle.sig_http.specs.declared.chunks.Step.TheVariants.{On, Keeps, Ended, Broken}

-- more bytes after those that said this
abbrev pub chunks_then : ℕ → Chunked → List ℕ → Chunked
chunks_then limit (Stands standing content) more = chunks_from limit standing content more
chunks_then limit (Holds content rest) more = Holds content (rest ++ more)
chunks_then limit (Fails fault) more = Fails fault

-- whatever one byte said
by_chunk : (limit : ℕ) (step : Step) (b : ℕ) (content bytes more : List ℕ)
    → ((next : Standing) (so_far : List ℕ) → chunks_from limit next so_far (bytes ++ more) ≡ chunks_then limit (chunks_from limit next so_far bytes) more)
    → (elim step [ On next ↦ chunks_from limit next content (bytes ++ more) | Keeps next ↦ chunks_from limit next (content ++ b ∷ []) (bytes ++ more) | Ended ↦ Holds content (bytes ++ more) | Broken fault ↦ Fails fault ])
    ≡ chunks_then limit (elim step [ On next ↦ chunks_from limit next content bytes | Keeps next ↦ chunks_from limit next (content ++ b ∷ []) bytes | Ended ↦ Holds content bytes | Broken fault ↦ Fails fault ]) more
by_chunk limit (On next) b content bytes more rest = rest next content
by_chunk limit (Keeps next) b content bytes more rest = rest next (content ++ b ∷ [])
by_chunk limit Ended b content bytes more rest = refl
by_chunk limit (Broken fault) b content bytes more rest = refl

-- what bytes say is what their first part says, and then the rest
pub chunks_append : (limit : ℕ) (standing : Standing) (content bytes more : List ℕ)
    → chunks_from limit standing content (bytes ++ more) ≡ chunks_then limit (chunks_from limit standing content bytes) more
chunks_append limit standing content [] more = refl
chunks_append limit standing content (b ∷ bytes) more =
    by_chunk limit (framed_byte limit (length content) standing b) b content bytes more (λ next so_far. chunks_append limit next so_far bytes more)

-- one that stands goes on
pub chunks_stand : (limit : ℕ) (standing next : Standing) (content so_far bytes more : List ℕ) → chunks_from limit standing content bytes ≡ Stands next so_far
    → chunks_from limit standing content (bytes ++ more) ≡ chunks_from limit next so_far more
chunks_stand limit standing next content so_far bytes more e = chunks_append limit standing content bytes more ∙ ap (λ r. chunks_then limit r more) e
