-- Bytes that are one spelling as a whole.
use Rattle.std.specs.Prelude.{◌≡◌, ◌<◌, ◌-◌, ◌^◌, ℕ, List, [], ◌∷◌, ◌++◌, length, Result, Ok, Err}
use Rattle.sig_fields.specs.Agreeing.{AreBytes}
use Rattle.sig_fields.specs.Kinds.{sized, text_bytes}
use Rattle.sig_fields.specs.declared.fault.DecodeFault.{DecodeFault}
use Rattle.sig_fields.specs.declared.fault.DecodeFault.TheVariants.{Bad}

-- the offset at which these bytes are left
abbrev pub offset_of : List ℕ → List ℕ → ℕ
offset_of bytes left = length bytes - length left

abbrev pub whole_after : {T : Type 0} → List ℕ → Result (T × List ℕ) (List ℕ) → Result T DecodeFault
whole_after bytes (Ok (x, [])) = Ok x
whole_after bytes (Ok (x, b ∷ rest)) = Err (Bad (offset_of bytes (b ∷ rest)))
whole_after bytes (Err from) = Err (Bad (offset_of bytes from))

-- what is read of the bytes where nothing follows; or the offset of the first part that is cut or breaks its rule, and where there is none that
-- of the first byte after the last part
abbrev pub whole : {T : Type 0} → (List ℕ → Result (T × List ℕ) (List ℕ)) → List ℕ → Result T DecodeFault
whole read bytes = whole_after bytes (read bytes)

-- a proper value is decoded of its spelling; what is decoded is proper, and the bytes are its spelling; and no spelling begins with another
pub record IsExact {T : Type 0} (IsProper : T → Type 0) (spelled : T → List ℕ) (decoded : List ℕ → Result T DecodeFault) : Type 0 where
  pub reads : (x : T) → IsProper x → decoded (spelled x) ≡ Ok x
  pub spells : (bytes : List ℕ) (x : T) → AreBytes bytes → decoded bytes ≡ Ok x → IsProper x × (bytes ≡ spelled x)
  pub alone : (x y : T) (more : List ℕ) → IsProper x → IsProper y → spelled x ++ more ≡ spelled y → more ≡ []

-- ---- the law

abbrev pub BytesAreExact : Type 0
BytesAreExact = IsExact (λ (bytes : List ℕ). length bytes < 2 ^ 32) text_bytes (whole sized)
