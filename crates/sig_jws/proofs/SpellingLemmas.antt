-- A text that is split is spelled by what it holds.
use Rattle.std.proofs.Common.{◌≡◌, ℕ, ◌+◌, ◌<◌, ◌==◌, Bool, true, false, List, [], ◌∷◌, ◌++◌, length, refl, sym, ap, ◌∙◌, subst}
use Rattle.std.specs.Prelude.{◌||◌, if◌then◌else◌, Result, Ok, Err}
use Rattle.std.specs.List.{join_with_byte}
use Rattle.std.proofs.lemmas.List.{append_assoc, get_or-append-add}
use Rattle.std.proofs.lemmas.List.Splits.{join_with_byte-slice_split}
use Rattle.base64.specs.Engines.{url_safe_no_pad}
use Rattle.base64.specs.GeneralPurpose.{IsBytes, decode_of}
use Rattle.base64.proofs.EngineFacts.{decode_of_strict, front_bytes}
use Rattle.sig_jws.specs.Hmac.{hmac_of}
use Rattle.sig_jws.specs.Compact.{◌>>=◌, base64url, cut_at_dots, decoded, dot, input_of, or_fault, parts_of, signed, split_of}
use Rattle.sig_jws.specs.declared.compact.Compact.{Compact}
use Rattle.sig_jws.specs.declared.compact.SplitFault.{SplitFault}
use Rattle.sig_jws.specs.declared.compact.SplitFault.TheVariants.{Dots, Header, Payload, Mac}
use Rattle.sig_jws.specs.Laws.{IsSignedWhereItVerifies, IsSpelledByItsParts}

-- the three parts of a text, and what was read of them
record Holds (parts : List (List ℕ)) (token : Compact) : Type 0 where
  header : List ℕ
  payload : List ℕ
  mac : List ℕ
  three : parts ≡ header ∷ payload ∷ mac ∷ []
  reads_header : decode_of url_safe_no_pad header ≡ Ok token.header
  reads_payload : decode_of url_safe_no_pad payload ≡ Ok token.payload
  reads_mac : decode_of url_safe_no_pad mac ≡ Ok token.mac
  covered : token.input ≡ header ++ dot ∷ payload

bind_Ok : {A B : Type 0} (r : Result A SplitFault) (f : A → Result B SplitFault) (y : B) → (r >>= f) ≡ Ok y → (x : A) × (r ≡ Ok x) × (f x ≡ Ok y)
bind_Ok (Ok x) f y e = (x, refl, e)
bind_Ok (Err d) f y e = cc e

or_fault_Ok : {A E : Type 0} (fault : SplitFault) (r : Result A E) (x : A) → or_fault fault r ≡ Ok x → r ≡ Ok x
or_fault_Ok fault (Ok y) x e = cc e
or_fault_Ok fault (Err d) x e = cc e

guard_Ok : {A : Type 0} (b : Bool) (r : Result A SplitFault) (x : A) → (if b then Err Dots else r) ≡ Ok x → r ≡ Ok x
guard_Ok true r x e = cc e
guard_Ok false r x e = e

holds : (parts : List (List ℕ)) (token : Compact) → parts_of parts ≡ Ok token → Holds parts token
holds [] token e = cc e
holds (a ∷ []) token e = cc e
holds (a ∷ b ∷ []) token e = cc e
holds (header ∷ payload ∷ mac ∷ []) token e =
    let input : List ℕ = header ++ dot ∷ payload in
    let full = guard_Ok ((length header == 0) || (length payload == 0) || (length mac == 0)) _ token e in
    let h = bind_Ok (decoded Header header) _ token full in
    let p = bind_Ok (decoded Payload payload) _ token h.2 in
    let m = bind_Ok (decoded Mac mac) _ token p.2 in
    let is : token ≡ record { header = h.0; payload = p.0; mac = m.0; input = input } = cc m.2 in
    record {
      header = header;
      payload = payload;
      mac = mac;
      three = refl;
      reads_header = or_fault_Ok Header _ h.0 h.1 ∙ ap (λ (t : Compact). Ok t.header) (sym is);
      reads_payload = or_fault_Ok Payload _ p.0 p.1 ∙ ap (λ (t : Compact). Ok t.payload) (sym is);
      reads_mac = or_fault_Ok Mac _ m.0 m.1 ∙ ap (λ (t : Compact). Ok t.mac) (sym is);
      covered = ap (λ (t : Compact). t.input) is;
    }
holds (a ∷ b ∷ c ∷ d ∷ more) token e = cc e

IsBytes-back : (front back : List ℕ) → IsBytes (front ++ back) → IsBytes back
IsBytes-back front back whole i = subst (λ (n : ℕ). n < 256) (get_or-append-add front back i 0) (whole (length front + i))

pub spelled : IsSpelledByItsParts
unfolding split_of
spelled text token bytes e =
    let parts = holds (cut_at_dots text) token e in
    let whole : text ≡ parts.header ++ dot ∷ (parts.payload ++ dot ∷ parts.mac) =
    sym (join_with_byte-slice_split dot text) ∙ ap (join_with_byte dot) parts.three in
    let all = subst IsBytes whole bytes in
    let rest = IsBytes-back (dot ∷ []) (parts.payload ++ dot ∷ parts.mac) (IsBytes-back parts.header (dot ∷ (parts.payload ++ dot ∷ parts.mac)) all) in
    let last = IsBytes-back (dot ∷ []) parts.mac (IsBytes-back parts.payload (dot ∷ parts.mac) rest) in
    let is_header = decode_of_strict url_safe_no_pad parts.header token.header (refl, refl) (front_bytes parts.header _ all) parts.reads_header in
    let is_payload = decode_of_strict url_safe_no_pad parts.payload token.payload (refl, refl) (front_bytes parts.payload _ rest) parts.reads_payload in
    let is_mac = decode_of_strict url_safe_no_pad parts.mac token.mac (refl, refl) last parts.reads_mac in
    let input : parts.header ++ dot ∷ parts.payload ≡ input_of token.header token.payload =
    ap (λ h. h ++ dot ∷ parts.payload) is_header ∙ ap (λ p. base64url token.header ++ dot ∷ p) is_payload in
    let text_is : text ≡ token.input ++ dot ∷ base64url token.mac =
    whole ∙ sym (append_assoc parts.header (dot ∷ parts.payload) (dot ∷ parts.mac))
    ∙ ap (λ i. i ++ dot ∷ parts.mac) (sym parts.covered) ∙ ap (λ m. token.input ++ dot ∷ m) is_mac in
    (parts.covered ∙ input, text_is)

pub signed_where_verified : IsSignedWhereItVerifies
unfolding signed
signed_where_verified text key token bytes e right =
    let is = spelled text token bytes e in
    is.1 ∙ ap (λ mac. token.input ++ dot ∷ base64url mac) right
    ∙ ap (λ input. input ++ dot ∷ base64url (hmac_of key input)) is.0
