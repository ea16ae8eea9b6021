-- The texts that lines are.
use Rattle.std.proofs.Common.{◌≡◌, ap, sym, List, ℕ, Bool, true, false, None, refl}
use Rattle.std.specs.Prelude.{Result, Ok, Err, IfOk, IsUtf8, if◌then◌else◌}
use Rattle.std.specs.Str.{is_utf8}
use Rattle.std.proofs.lemmas.Str.{is_utf8-from_IsUtf8, IsUtf8-from_is_utf8}
use Rattle.sig_script.specs.Script.{text_line, utf8_line}

-- the line of a text in UTF-8
pub line_of_utf8 : (bytes : List ℕ) → IsUtf8 bytes → text_line bytes ≡ utf8_line bytes
unfolding utf8_line
line_of_utf8 bytes h = sym (ap (λ t. if t then text_line bytes else None) (is_utf8-from_IsUtf8 bytes h))

-- there is none of other bytes
pub line_of_none : (bytes : List ℕ) → (IsUtf8 bytes → ⊥) → None ≡ utf8_line bytes
unfolding utf8_line
line_of_none bytes h = sym (ap (λ t. if t then text_line bytes else None) (not_utf8 bytes (is_utf8 bytes) refl h))
  where
    not_utf8 : (bytes : List ℕ) (t : Bool) → is_utf8 bytes ≡ t → (IsUtf8 bytes → ⊥) → is_utf8 bytes ≡ false
    not_utf8 bytes true is h = absurd (h (IsUtf8-from_is_utf8 bytes is))
    not_utf8 bytes false is h = is

-- a fact on a success gives another
pub if_ok_then : {T E : Type 0} {P Q : T → Type 0} (r : Result T E) → ((x : T) → P x → Q x) → IfOk r P → IfOk r Q
if_ok_then (Ok x) f h = f x h
if_ok_then (Err e) f h = tt
