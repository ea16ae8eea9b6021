-- Numbers of subjects, under which rows are looked for: FNV-1a in 64 bits, over marks and texts (defined here).
use Rattle.std.specs.Prelude.{ℕ, ◌*◌, ◌%◌, ◌^◌, List, [], ◌∷◌, bit_xor}
use Rattle.sig_subject.specs.declared.plain.Plain.{Plain}
use Rattle.sig_subject.specs.declared.plain.Plain.TheVariants as plain
use Rattle.sig_subject.specs.declared.simple.Simple.{Simple}
use Rattle.sig_subject.specs.declared.simple.Simple.TheVariants as simple
use Rattle.sig_sessions.specs.declared.fingerprint.TheConstants.{FIRST, PRIME}

-- the number with one more byte
unfoldable pub with_byte : ℕ → ℕ → ℕ
with_byte number byte = (bit_xor number byte * PRIME) % 2 ^ 64

-- the number with bytes, one after the other
abbrev pub with_bytes : ℕ → List ℕ → ℕ
with_bytes number [] = number
with_bytes number (b ∷ bytes) = with_bytes (with_byte number b) bytes

-- the number with a mark of what comes, and a text
abbrev pub with_text : ℕ → ℕ → List ℕ → ℕ
with_text number mark text = with_bytes (with_byte number mark) text

-- the number with an identifier: a mark of its format before each text
abbrev pub with_plain : ℕ → Plain → ℕ
with_plain number (plain.Account uri) = with_text number 0 uri
with_plain number (plain.Email email) = with_text number 1 email
with_plain number (plain.IssSub iss sub) = with_text (with_text number 2 iss) 2 sub
with_plain number (plain.Opaque id) = with_text number 3 id
with_plain number (plain.Phone phone) = with_text number 4 phone
with_plain number (plain.Did url) = with_text number 5 url
with_plain number (plain.Uri uri) = with_text number 6 uri
with_plain number (plain.JwtId iss jti) = with_text (with_text number 7 iss) 7 jti
with_plain number (plain.Saml issuer id) = with_text (with_text number 8 issuer) 8 id
with_plain number (plain.Unknown canon) = with_text number 9 canon

abbrev pub with_plains : ℕ → List Plain → ℕ
with_plains number [] = number
with_plains number (p ∷ ps) = with_plains (with_plain number p) ps

-- the number of an identifier
abbrev pub of_simple : Simple → ℕ
of_simple (simple.Plain p) = with_plain FIRST p
of_simple (simple.Aliases ps) = with_plains (with_byte FIRST 10) ps
