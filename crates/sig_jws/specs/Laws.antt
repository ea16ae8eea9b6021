-- What holds of signed texts, whatever they say.
use Rattle.std.specs.Prelude.{◌≡◌, ◌≢◌, ℕ, List, [], ◌∷◌, ◌++◌, Ok}
use Rattle.base64.specs.GeneralPurpose.{IsBytes}
use Rattle.sig_jws.specs.Hmac.{hmac_of}
use Rattle.sig_jws.specs.Compact.{base64url, dot, input_of, signed, split_of}
use Rattle.sig_jws.specs.declared.compact.Compact.{Compact}

-- a signed text gives back its header and its payload, with the MAC and the text that it covers
abbrev pub GivesBackWhatWasSigned : Type 0
GivesBackWhatWasSigned =
    (header payload key : List ℕ) → IsBytes header → IsBytes payload → header ≢ [] → payload ≢ []
    → split_of (signed header payload key)
    ≡ Ok (record {
      header = header;
      payload = payload;
      mac = hmac_of key (input_of header payload);
      input = input_of header payload;
    })

-- a text that is split is spelled by what it holds, so no two texts are split alike
abbrev pub IsSpelledByItsParts : Type 0
IsSpelledByItsParts =
    (text : List ℕ) (token : Compact) → IsBytes text → split_of text ≡ Ok token
    → (token.input ≡ input_of token.header token.payload) × (text ≡ token.input ++ dot ∷ base64url token.mac)

-- a text whose MAC is right is the signed text of what it holds
abbrev pub IsSignedWhereItVerifies : Type 0
IsSignedWhereItVerifies =
    (text key : List ℕ) (token : Compact) → IsBytes text → split_of text ≡ Ok token → token.mac ≡ hmac_of key token.input
    → text ≡ signed token.header token.payload key
