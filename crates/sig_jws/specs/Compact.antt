-- The compact serialization of a signed text (RFC 7515, section 7.1).
use Rattle.std.specs.Prelude.{ℕ, List, [], ◌∷◌, ◌++◌, length, ◌==◌, ◌||◌, if◌then◌else◌, ◌≡◌, false, Result, Ok, Err}
use Rattle.std.specs.List.{slice_split}
use Rattle.base64.specs.Engines.{url_safe_no_pad}
use Rattle.base64.specs.GeneralPurpose.{encode_of, decode_of}
use Rattle.sig_jws.specs.Hmac.{hmac_of}
use Rattle.sig_jws.specs.declared.compact.Compact.{Compact}
use Rattle.sig_jws.specs.declared.compact.SplitFault.{SplitFault}
use Rattle.sig_jws.specs.declared.compact.SplitFault.TheVariants.{Dots, Header, Payload, Mac}

-- the byte `.` between two parts
abbrev pub dot : ℕ
dot = 46

-- bytes in the URL's alphabet without padding (RFC 7515, section 2; RFC 4648, section 5)
abbrev pub base64url : List ℕ → List ℕ
base64url bytes = encode_of url_safe_no_pad bytes

-- the text that the MAC covers (RFC 7515, section 5.1, step 5)
abbrev pub input_of : List ℕ → List ℕ → List ℕ
input_of header payload = base64url header ++ dot ∷ base64url payload

-- header and payload under a key (RFC 7515, section 7.1)
unfoldable pub signed : List ℕ → List ℕ → List ℕ → List ℕ
signed header payload key = input_of header payload ++ dot ∷ base64url (hmac_of key (input_of header payload))

-- the first fault decides
infixl 10 ◌>>=◌
abbrev pub ◌>>=◌ : {A B : Type 0} → Result A SplitFault → (A → Result B SplitFault) → Result B SplitFault
(Ok x) >>= f = f x
(Err e) >>= f = Err e

-- a result, with this fault in place of its own
abbrev pub or_fault : {A E : Type 0} → SplitFault → Result A E → Result A SplitFault
or_fault fault (Ok x) = Ok x
or_fault fault (Err e) = Err fault

-- the bytes whose encoding a part is, or this fault where it is none (RFC 7515, section 5.2, steps 2, 6 and 7)
abbrev pub decoded : SplitFault → List ℕ → Result (List ℕ) SplitFault
decoded fault part = or_fault fault (decode_of url_safe_no_pad part)

-- three parts, none of them empty, read from the left (RFC 7515, section 5.2, steps 1, 2, 6 and 7)
abbrev pub parts_of : List (List ℕ) → Result Compact SplitFault
parts_of (header ∷ payload ∷ mac ∷ []) =
    if (length header == 0) || (length payload == 0) || (length mac == 0) then Err Dots else (do
      h ← decoded Header header
      p ← decoded Payload payload
      m ← decoded Mac mac
      Ok (record { header = h; payload = p; mac = m; input = header ++ dot ∷ payload }))
parts_of parts = Err Dots

-- a text, cut at each dot
abbrev pub cut_at_dots : List ℕ → List (List ℕ)
cut_at_dots text = slice_split (λ b. b == dot) text

-- what a text in compact form holds, or the first thing that is wrong with it (RFC 7515, section 5.2)
unfoldable pub split_of : List ℕ → Result Compact SplitFault
split_of text = parts_of (cut_at_dots text)

-- the parts of a text with two dots, none of them empty, and the signing input
pub record AreParts (parts : List (List ℕ)) (header payload mac input : List ℕ) : Type 0 where
  pub three : parts ≡ header ∷ payload ∷ mac ∷ []
  pub full_header : (length header == 0) ≡ false
  pub full_payload : (length payload == 0) ≡ false
  pub full_mac : (length mac == 0) ≡ false
  pub covered : input ≡ header ++ dot ∷ payload
