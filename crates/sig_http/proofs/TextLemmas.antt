-- Bytes that are UTF-8, and those that aren't.
use Rattle.std.proofs.Common.{◌≡◌, ℕ, true, false, List, Some, None, if◌then◌else◌, refl, ap}
use Rattle.std.specs.Str.{IsUtf8, is_utf8}
use Rattle.std.proofs.lemmas.Str.{is_utf8-from_IsUtf8, IsUtf8-from_is_utf8}
use Rattle.std.specs.Prelude.{Bool}
use Rattle.sig_http.specs.Message.{text_of}

pub text_of_utf8 : (bytes : List ℕ) → IsUtf8 bytes → text_of bytes ≡ Some bytes
text_of_utf8 bytes h = ap (λ b. if b then Some bytes else None) (is_utf8-from_IsUtf8 bytes h)

text_of_by : (bytes : List ℕ) (b : Bool) → is_utf8 bytes ≡ b → ¬ (IsUtf8 bytes) → (if b then Some bytes else None) ≡ None
text_of_by bytes true e h = absurd (h (IsUtf8-from_is_utf8 bytes e))
text_of_by bytes false e h = refl

pub text_of_none : (bytes : List ℕ) → ¬ (IsUtf8 bytes) → text_of bytes ≡ None
text_of_none bytes h = text_of_by bytes (is_utf8 bytes) refl h
