-- The texts that bytes are.
use Rattle.std.proofs.Common.{◌≡◌, ap, List, ℕ, Bool, true, false, Some, None, refl}
use Rattle.std.specs.Prelude.{IsUtf8, if◌then◌else◌}
use Rattle.std.specs.Str.{is_utf8}
use Rattle.std.proofs.lemmas.Str.{is_utf8-from_IsUtf8, IsUtf8-from_is_utf8}
use Rattle.sig_fields.specs.Kinds.{utf8_in}

pub utf8_is : (bytes : List ℕ) → IsUtf8 bytes → utf8_in bytes ≡ Some bytes
utf8_is bytes h = ap (λ t. if t then Some bytes else None) (is_utf8-from_IsUtf8 bytes h)

pub utf8_isnt : (bytes : List ℕ) → (IsUtf8 bytes → ⊥) → utf8_in bytes ≡ None
utf8_isnt bytes h = ap (λ t. if t then Some bytes else None) (not_utf8 (is_utf8 bytes) (λ is. h (IsUtf8-from_is_utf8 bytes is)))
  where
    not_utf8 : (t : Bool) → (t ≡ true → ⊥) → t ≡ false
    not_utf8 true h = absurd (h refl)
    not_utf8 false h = refl
