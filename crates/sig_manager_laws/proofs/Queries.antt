-- The stream that a query names is read of it.
use Rattle.std.proofs.Common.{◌≡◌, ◌∙◌, ap, ℕ, zero, suc, List, [], ◌∷◌, map, All, true, Some, IsUtf8, refl, cond, codes}
use Rattle.std.specs.Prelude.{bytes_eq}
use Rattle.std.specs.Str.Lossy.{utf8_lossy}
use Rattle.std.proofs.lemmas.List.Elements.{All-cons, All-nil}
use Rattle.std.proofs.lemmas.Slice.Eq.{bytes_eq-Decides}
use Rattle.std.proofs.lemmas.Str.{utf8_lossy-IsUtf8}
use Rattle.base64.specs.GeneralPurpose.{IsBytes}
use Rattle.percent_encoding.proofs.PercentLemmas.{IsByte}
use Rattle.form_urlencoded.specs.Form.{decode, raw_pairs}
use Rattle.form_urlencoded.proofs.FormLemmas.{IsBytePair, round_trip}
use Rattle.sig_http.specs.Query.{first_named, is_name, text_of, value_in}
use Rattle.sig_set.proofs.ByteLemmas.{IsBytes-utf8}
use Rattle.sig_manager.specs.Asking.{query_of}
use Rattle.sig_manager_laws.proofs.Canonical.{ascii}

each_byte : (bytes : List ℕ) → IsBytes bytes → All IsByte bytes
each_byte [] h = All-nil IsByte
each_byte (b ∷ bytes) h = All-cons IsByte b bytes (h zero) (each_byte bytes (λ i. h (suc i)))

utf8_bytes : (text : List ℕ) → IsUtf8 text → All IsByte text
utf8_bytes text h = each_byte text (IsBytes-utf8 text h)

abbrev decoded : List ℕ × List ℕ → List ℕ × List ℕ
decoded pair = (decode pair.0, decode pair.1)

-- a text whose bytes were decoded
spells : (bytes text : List ℕ) → decode bytes ≡ text → IsUtf8 text → text_of bytes ≡ text
spells bytes text h is = ap utf8_lossy h ∙ utf8_lossy-IsUtf8 text is

first_of : (pair one : List ℕ × List ℕ) (pairs : List (List ℕ × List ℕ)) → ◌≡◌ {A = List (List ℕ × List ℕ)} (decoded pair ∷ map decoded pairs) (one ∷ [])
    → decoded pair ≡ one
first_of pair one pairs h = cc

found : (name text : List ℕ) (pairs : List (List ℕ × List ℕ)) → IsUtf8 name → IsUtf8 text → map decoded pairs ≡ (name, text) ∷ []
    → first_named name pairs ≡ Some text
found name text [] one two h = cc
found name text (pair ∷ pairs) one two h =
    let same : decoded pair ≡ (name, text) = first_of pair (name, text) pairs h in
    let key : text_of pair.0 ≡ name = spells pair.0 name (ap (λ p. p.0) same) one in
    let value : text_of pair.1 ≡ text = spells pair.1 text (ap (λ p. p.1) same) two in
    let is : is_name pair.0 name ≡ true = ap (λ t. bytes_eq t name) key ∙ (bytes_eq-Decides name name).1 refl in
    ap (λ b. cond b (Some (text_of pair.1)) (first_named name pairs)) is ∙ ap (λ t. Some t) value

pub named_in : (stream : List ℕ) → IsUtf8 stream → value_in (query_of stream) (codes "stream_id") ≡ Some stream
named_in stream h =
    let name : List ℕ = codes "stream_id" in
    let both : IsBytePair (name, stream) = (utf8_bytes name (ascii name refl), utf8_bytes stream h) in
    found name stream (raw_pairs (query_of stream)) (ascii name refl) h
    (round_trip ((name, stream) ∷ []) (All-cons IsBytePair (name, stream) [] both (All-nil IsBytePair)))
