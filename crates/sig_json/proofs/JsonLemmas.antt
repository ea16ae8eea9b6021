-- What is known of the value that bytes spell.
use Rattle.std.proofs.Common.{◌≡◌, ℕ, List, Bool, true, false, None, refl, ◌∙◌}
use Rattle.std.specs.Prelude.{IsUtf8}
use Rattle.std.specs.Str.{is_utf8}
use Rattle.std.proofs.lemmas.Str.{is_utf8-from_IsUtf8, IsUtf8-from_is_utf8}
use Rattle.serde_json.specs.Read.{read}
use Rattle.sig_json.specs.Json.{json_of}

-- of a text the value is what is read of it
pub json_of-utf8 : (bytes : List ℕ) → IsUtf8 bytes → json_of bytes ≡ read bytes
json_of-utf8 bytes h = rw (is_utf8-from_IsUtf8 bytes h) refl

-- there is none where no text is read
pub json_of-none : (bytes : List ℕ) → (IsUtf8 bytes → read bytes ≡ None) → json_of bytes ≡ None
json_of-none bytes h = by_test (is_utf8 bytes) refl
  where
    by_test : (b : Bool) → is_utf8 bytes ≡ b → json_of bytes ≡ None
    by_test true e = json_of-utf8 bytes (IsUtf8-from_is_utf8 bytes e) ∙ h (IsUtf8-from_is_utf8 bytes e)
    by_test false e = rw e refl
