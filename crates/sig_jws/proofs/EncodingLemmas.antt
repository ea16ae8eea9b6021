-- Texts in the URL's alphabet: none has a dot, and each spells its bytes.
use Rattle.std.proofs.Common.{◌≡◌, ◌≢◌, ℕ, ◌+◌, ◌*◌, ◌/◌, ◌%◌, ◌==◌, not, false, List, [], ◌∷◌, length, refl, sym, ap, ◌∙◌, arith, inl, inr}
use Rattle.std.specs.Prelude.{slice_index, Ok}
use Rattle.std.specs.List.{All}
use Rattle.std.proofs.lemmas.Bool.{cases_lt, not-true}
use Rattle.std.proofs.lemmas.Bool.Decides.{nat_tests}
use Rattle.std.proofs.lemmas.List.{append-nil, get_or_past}
use Rattle.std.proofs.lemmas.List.Elements.{All-nil, All-cons, All-append}
use Rattle.base64.specs.Engines.{url_safe_no_pad}
use Rattle.base64.specs.GeneralPurpose.{IsBytes, decode_of}
use Rattle.base64.specs.Rfc4648.{encode_group, encode_symbols}
use Rattle.base64.proofs.EngineFacts.{decode_of-encode_of, encode_of-nil}
use Rattle.base64.proofs.Tables.{all_below_at}
use Rattle.sig_jws.specs.Compact.{base64url, dot}

-- no byte of the list is a dot
abbrev pub Dotless : List ℕ → Type 0
Dotless text = All (λ b. (b == dot) ≡ false) text

-- the 64 symbols (RFC 4648, section 5)
abbrev alphabet : List ℕ
alphabet = url_safe_no_pad.encode_table

symbol : (k : ℕ) → (slice_index alphabet k == dot) ≡ false
symbol k = elim (cases_lt k 64) [
  | inl lt ↦ not-true (slice_index alphabet k == dot) (all_below_at (λ i. not (slice_index alphabet i == dot)) 64 k refl lt)
  | inr ge ↦ rw (get_or_past alphabet k 0 ge) refl
]

with_symbol : (i : ℕ) (text : List ℕ) → Dotless text → Dotless (slice_index alphabet i ∷ text)
with_symbol i text rest = All-cons (λ b. (b == dot) ≡ false) (slice_index alphabet i) text (symbol i) rest

no_symbol : Dotless []
no_symbol = All-nil (λ b. (b == dot) ≡ false)

two : (i j : ℕ) → Dotless (slice_index alphabet i ∷ slice_index alphabet j ∷ [])
two i j = with_symbol i (slice_index alphabet j ∷ []) (with_symbol j [] no_symbol)

three : (i j k : ℕ) → Dotless (slice_index alphabet i ∷ slice_index alphabet j ∷ slice_index alphabet k ∷ [])
three i j k = with_symbol i (slice_index alphabet j ∷ slice_index alphabet k ∷ []) (two j k)

four : (i j k l : ℕ) → Dotless (slice_index alphabet i ∷ slice_index alphabet j ∷ slice_index alphabet k ∷ slice_index alphabet l ∷ [])
four i j k l = with_symbol i (slice_index alphabet j ∷ slice_index alphabet k ∷ slice_index alphabet l ∷ []) (three j k l)

symbols : (bytes : List ℕ) → Dotless (encode_symbols alphabet bytes)
unfolding encode_symbols
symbols [] = no_symbol
symbols (a ∷ []) = two (a / 4) (a % 4 * 16)
symbols (a ∷ b ∷ []) = three (a / 4) (a % 4 * 16 + b / 16) (b % 16 * 4)
symbols (a ∷ b ∷ c ∷ rest) =
    All-append (λ b. (b == dot) ≡ false) (encode_group alphabet a b c) (encode_symbols alphabet rest)
    (four (a / 4) (a % 4 * 16 + b / 16) (b % 16 * 4 + c / 64) (c % 64)) (symbols rest)

pub Dotless-base64url : (bytes : List ℕ) → Dotless (base64url bytes)
Dotless-base64url bytes = rw (append-nil (encode_symbols alphabet bytes)) (symbols bytes)

pub spells : (bytes : List ℕ) → IsBytes bytes → decode_of url_safe_no_pad (base64url bytes) ≡ Ok bytes
spells bytes are_bytes = decode_of-encode_of url_safe_no_pad bytes refl are_bytes

is_full : (text : List ℕ) → text ≢ [] → (length text == 0) ≡ false
is_full [] full = absurd (full refl)
is_full (b ∷ text) full = grind (arith, nat_tests)

-- the empty text spells no bytes, so a text that spells some isn't empty
pub base64url-full : (bytes : List ℕ) → IsBytes bytes → bytes ≢ [] → (length (base64url bytes) == 0) ≡ false
base64url-full bytes are_bytes full = is_full (base64url bytes) (λ none. full (same none))
  where
    same : base64url bytes ≡ [] → bytes ≡ []
    same none =
        let empty = spells [] (λ i. omega arith) in
        let whole = sym (spells bytes are_bytes) ∙ ap (decode_of url_safe_no_pad) (none ∙ sym (encode_of-nil url_safe_no_pad)) ∙ empty in
        cc whole
