-- A head section that is read piece by piece.
use Rattle.std.proofs.Common.{◌≡◌, ℕ, List, [], ◌∷◌, ◌++◌, refl, ◌∙◌, ap}
use Rattle.sig_http.specs.Section.{section_from, after_byte}
use Rattle.sig_http.specs.declared.section.Scan.{Scan}
use Rattle.sig_http.specs.declared.section.Section.{Section}
use Rattle.sig_http.specs.declared.section.Section.TheVariants.{Open, Ended, Long}

-- more bytes after those that said this
abbrev pub section_then : Section → List ℕ → Section
section_then (Open s) more = section_from s more
section_then (Ended n) more = Ended n
section_then Long more = Long

-- whatever one byte said
by_section : (next : Section) (bytes more : List ℕ) → ((t : Scan) → section_from t (bytes ++ more) ≡ section_then (section_from t bytes) more)
    → (elim next [ Open t ↦ section_from t (bytes ++ more) | Ended n ↦ Ended n | Long ↦ Long ])
    ≡ section_then (elim next [ Open t ↦ section_from t bytes | Ended n ↦ Ended n | Long ↦ Long ]) more
by_section (Open t) bytes more rest = rest t
by_section (Ended n) bytes more rest = refl
by_section Long bytes more rest = refl

-- what bytes say is what their first part says, and then the rest
pub section_append : (s : Scan) (bytes more : List ℕ) → section_from s (bytes ++ more) ≡ section_then (section_from s bytes) more
section_append s [] more = refl
section_append s (b ∷ bytes) more = by_section (after_byte s b) bytes more (λ t. section_append t bytes more)

-- a section that ended is not changed by what follows
pub section_ended : (s : Scan) (bytes more : List ℕ) (n : ℕ) → section_from s bytes ≡ Ended n → section_from s (bytes ++ more) ≡ Ended n
section_ended s bytes more n e = section_append s bytes more ∙ ap (λ r. section_then r more) e

pub section_long : (s : Scan) (bytes more : List ℕ) → section_from s bytes ≡ Long → section_from s (bytes ++ more) ≡ Long
section_long s bytes more e = section_append s bytes more ∙ ap (λ r. section_then r more) e

-- one that is open goes on
pub section_open : (s t : Scan) (bytes more : List ℕ) → section_from s bytes ≡ Open t → section_from s (bytes ++ more) ≡ section_from t more
section_open s t bytes more e = section_append s bytes more ∙ ap (λ r. section_then r more) e
