-- What is known of the tree that bytes spell.
use Rattle.std.proofs.Common.{◌≡◌, ℕ, List, Bool, true, false, None, refl, ◌∙◌}
use Rattle.std.specs.Prelude.{IsUtf8}
use Rattle.std.specs.Str.{is_utf8}
use Rattle.std.proofs.lemmas.Str.{is_utf8-from_IsUtf8, IsUtf8-from_is_utf8}
use Rattle.json.specs.Json.{document}
use Rattle.sig_stray.specs.Strays.{tree_of}

-- of a text the tree is its document
pub tree_of-utf8 : (bytes : List ℕ) → IsUtf8 bytes → tree_of bytes ≡ document bytes
tree_of-utf8 bytes h = rw (is_utf8-from_IsUtf8 bytes h) refl

-- there is none where a text has no document
pub tree_of-none : (bytes : List ℕ) → (IsUtf8 bytes → document bytes ≡ None) → tree_of bytes ≡ None
tree_of-none bytes h = by_test (is_utf8 bytes) refl
  where
    by_test : (b : Bool) → is_utf8 bytes ≡ b → tree_of bytes ≡ None
    by_test true e = tree_of-utf8 bytes (IsUtf8-from_is_utf8 bytes e) ∙ h (IsUtf8-from_is_utf8 bytes e)
    by_test false e = rw e refl
