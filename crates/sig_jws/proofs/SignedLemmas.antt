-- A signed text gives back what was signed.
use Rattle.std.proofs.Common.{◌≡◌, ℕ, ◌==◌, Bool, false, List, [], ◌∷◌, ◌++◌, length, refl, ap, ◌∙◌}
use Rattle.std.specs.Prelude.{◌||◌, if◌then◌else◌, Result, Ok, Err}
use Rattle.std.proofs.lemmas.List.{append_assoc}
use Rattle.std.proofs.lemmas.List.Splits.{slice_split_at, slice_split_none}
use Rattle.base64.specs.Engines.{url_safe_no_pad}
use Rattle.base64.specs.GeneralPurpose.{decode_of}
use Rattle.sig_jws.specs.Hmac.{hmac_of}
use Rattle.sig_jws.specs.Compact.{◌>>=◌, base64url, cut_at_dots, decoded, dot, input_of, or_fault, parts_of, signed, split_of}
use Rattle.sig_jws.specs.declared.compact.Compact.{Compact}
use Rattle.sig_jws.specs.declared.compact.SplitFault.{SplitFault}
use Rattle.sig_jws.specs.declared.compact.SplitFault.TheVariants.{Dots, Header, Payload, Mac}
use Rattle.sig_jws.specs.Laws.{GivesBackWhatWasSigned}
use Rattle.sig_jws.proofs.DigestLemmas.{IsBytes-hmac_of, hmac_of-full}
use Rattle.sig_jws.proofs.EncodingLemmas.{Dotless, Dotless-base64url, base64url-full, spells}

-- what is answered of a good text
abbrev read : List ℕ → List ℕ → List ℕ → List ℕ → Result Compact SplitFault
read h p m input = Ok (record { header = h; payload = p; mac = m; input = input })

cut_in_three : (header payload mac : List ℕ) → Dotless header → Dotless payload → Dotless mac
    → cut_at_dots ((header ++ dot ∷ payload) ++ dot ∷ mac) ≡ header ∷ payload ∷ mac ∷ []
cut_in_three header payload mac no_header no_payload no_mac =
    ap cut_at_dots (append_assoc header (dot ∷ payload) (dot ∷ mac))
    ∙ slice_split_at (λ b. b == dot) header dot (payload ++ dot ∷ mac) no_header refl
    ∙ ap (λ parts. header ∷ parts) (slice_split_at (λ b. b == dot) payload dot mac no_payload refl)
    ∙ ap (λ parts. header ∷ payload ∷ parts) (slice_split_none (λ b. b == dot) mac no_mac)

none_empty : (header payload mac : Bool) (answer : Result Compact SplitFault) → header ≡ false → payload ≡ false → mac ≡ false
    → (if header || payload || mac then Err Dots else answer) ≡ answer
none_empty header payload mac answer full_header full_payload full_mac = rw (full_header, full_payload, full_mac) refl

-- parts that spell bytes, read one after the other
three_read : (rh rp rm : Result (List ℕ) SplitFault) (input h p m : List ℕ) → rh ≡ Ok h → rp ≡ Ok p → rm ≡ Ok m
    → (rh >>= λ h'. rp >>= λ p'. rm >>= λ m'. read h' p' m' input) ≡ read h p m input
three_read rh rp rm input h p m is_h is_p is_m = rw (is_h, is_p, is_m) refl

three_decoded : (header payload mac h p m : List ℕ)
    → (length header == 0) ≡ false → (length payload == 0) ≡ false → (length mac == 0) ≡ false
    → decode_of url_safe_no_pad header ≡ Ok h → decode_of url_safe_no_pad payload ≡ Ok p → decode_of url_safe_no_pad mac ≡ Ok m
    → parts_of (header ∷ payload ∷ mac ∷ []) ≡ read h p m (header ++ dot ∷ payload)
three_decoded header payload mac h p m full_header full_payload full_mac is_h is_p is_m =
    none_empty (length header == 0) (length payload == 0) (length mac == 0) _ full_header full_payload full_mac
    ∙ three_read (decoded Header header) (decoded Payload payload) (decoded Mac mac) (header ++ dot ∷ payload) h p m
    (ap (or_fault Header) is_h) (ap (or_fault Payload) is_p) (ap (or_fault Mac) is_m)

pub gives_back : GivesBackWhatWasSigned
unfolding split_of signed
gives_back header payload key header_bytes payload_bytes header_full payload_full =
    let input = input_of header payload in
    let mac = hmac_of key input in
    let mac_bytes = IsBytes-hmac_of key input in
    ap parts_of
    (cut_in_three (base64url header) (base64url payload) (base64url mac)
    (Dotless-base64url header) (Dotless-base64url payload) (Dotless-base64url mac))
    ∙ three_decoded (base64url header) (base64url payload) (base64url mac) header payload mac
    (base64url-full header header_bytes header_full) (base64url-full payload payload_bytes payload_full)
    (base64url-full mac mac_bytes (hmac_of-full key input))
    (spells header header_bytes) (spells payload payload_bytes) (spells mac mac_bytes)
