-- What is written of an ask is read as that ask.
use Rattle.std.proofs.Common.{◌≡◌, ◌≤◌, ◌<◌, ◌^◌, ℕ, suc, List, [], ◌∷◌, map, All, true, Option, Some, None, Ordering, Less, Equal, Greater, nat_cmp, IsUtf8, refl, ap, arith}
use Rattle.std.specs.Prelude.{⊤, Ok, IfSome}
use Rattle.std.specs.Cmp.Lexicographic.{slice_cmp}
use Rattle.std.specs.Ordering.{match_ordering}
use Rattle.json.proofs.Printed.Utf8.{are_ascii, IsUtf8-are_ascii}
use Rattle.serde_json.specs.Data.{string, depth, items_depth, members_depth}
use Rattle.serde_json.specs.Read.{max_depth}
use Rattle.serde_json.specs.View.{items_of}
use Rattle.sig_json.proofs.ReadBack.{canon_reads}
use Rattle.sig_json.specs.Canon.{AreCanonical, IsBelow, IsCanonical, MembersAreCanonical}
use Rattle.sig_terms.specs.declared.call.Reported.{Reported}
use Rattle.sig_delivery.specs.Asks.{ask_data, ask_in, error_data, error_members, errors_by_name, errors_of, jti_of}
use Rattle.sig_delivery.specs.Bodies.{before, texts_of}
use Rattle.sig_delivery.specs.Laws.{ReadsBackAsk}
use Rattle.sig_delivery.specs.Named.{IsBelowAll, IsByName, placed}
use Rattle.sig_delivery.proofs.ByNames.{is_by_name}

ascii : (text : List ℕ) → are_ascii text ≡ true → IsUtf8 text
ascii text h = IsUtf8-are_ascii text h

-- ---- lists of texts

rest_utf8 : (text : List ℕ) (texts : List (List ℕ)) → All IsUtf8 (text ∷ texts) → All IsUtf8 texts
rest_utf8 text texts h k d small = h (suc k) d (omega arith)

texts_canonical : (texts : List (List ℕ)) → All IsUtf8 texts → AreCanonical (items_of (map (λ t. string t) texts))
texts_canonical [] h = tt
texts_canonical (text ∷ texts) h = (h 0 [] (omega arith), texts_canonical texts (rest_utf8 text texts h))

texts_shallow : (texts : List (List ℕ)) → items_depth (items_of (map (λ t. string t) texts)) ≤ 0
texts_shallow [] = omega arith
texts_shallow (text ∷ texts) = omega (arith, texts_shallow texts)

texts_back : (texts : List (List ℕ)) → texts_of (items_of (map (λ t. string t) texts)) ≡ Some texts
texts_back [] = refl
texts_back (text ∷ texts) = ap (before (Some text)) (texts_back texts)

-- ---- errors

abbrev HaveTexts : List Reported → Type 0
HaveTexts [] = ⊤
HaveTexts (r ∷ rs) = IsUtf8 r.jti × IsUtf8 r.code × HaveTexts rs

all_texts : (rs : List Reported) → All (λ (r : Reported). IsUtf8 r.jti) rs → All (λ (r : Reported). IsUtf8 r.code) rs → HaveTexts rs
all_texts [] h j = tt
all_texts (r ∷ rs) h j = (h 0 r (omega arith), j 0 r (omega arith), all_texts rs (λ k d small. h (suc k) d (omega arith)) (λ k d small. j (suc k) d (omega arith)))

texts_placed : (r : Reported) (rs : List Reported) → IsUtf8 r.jti → IsUtf8 r.code → HaveTexts rs → HaveTexts (placed jti_of r rs)
texts_placed r [] name code h = (name, code, tt)
texts_placed r (s ∷ rs) name code h = at (slice_cmp nat_cmp r.jti s.jti) (texts_placed r rs name code h.2)
  where
    at : (o : Ordering) → HaveTexts (placed jti_of r rs) → HaveTexts (match_ordering o (r ∷ s ∷ rs) (r ∷ rs) (s ∷ placed jti_of r rs))
    at Less rest = (name, code, h)
    at Equal rest = (name, code, h.2)
    at Greater rest = (h.0, h.1, rest)

ordered_texts : (rs : List Reported) → HaveTexts rs → HaveTexts (errors_by_name rs)
ordered_texts [] h = tt
ordered_texts (r ∷ rs) h = texts_placed r (errors_by_name rs) h.0 h.1 (ordered_texts rs h.2)

below_members : (k : List ℕ) (rs : List Reported) → IsBelowAll jti_of k rs → IsBelow k (error_members rs)
below_members k [] h = tt
below_members k (r ∷ rs) h = (h.0, below_members k rs h.1)

error_canonical : (code : List ℕ) → IsUtf8 code → IsCanonical (error_data code)
error_canonical code h = (ascii _ refl, h, (refl, tt), (ascii _ refl, h, tt, tt))

members_canonical : (rs : List Reported) → IsByName jti_of rs → HaveTexts rs → MembersAreCanonical (error_members rs)
members_canonical [] order h = tt
members_canonical (r ∷ rs) order h = (h.0, error_canonical r.code h.1, below_members r.jti rs order.0, members_canonical rs order.1 h.2)

members_shallow : (rs : List Reported) → members_depth (error_members rs) ≤ 1
members_shallow [] = omega arith
members_shallow (r ∷ rs) = omega (arith, members_shallow rs)

errors_back : (rs : List Reported) → errors_of (error_members rs) ≡ Some rs
errors_back [] = refl
errors_back (r ∷ rs) = ap (before (Some r)) (errors_back rs)

-- ---- the ask

data_canonical : (max : Option ℕ) (acks : List (List ℕ)) (errors : List Reported) → IfSome max (λ n. n < 2 ^ 64) → All IsUtf8 acks → MembersAreCanonical (error_members (errors_by_name errors))
    → IsCanonical (ask_data (record { max = max; acks = acks; errors = errors }))
data_canonical None acks errors small texts h =
    (ascii _ refl, texts_canonical acks texts, (refl, (refl, tt)), (ascii _ refl, tt, (refl, tt), (ascii _ refl, h, tt, tt)))
data_canonical (Some n) acks errors small texts h =
    (ascii _ refl, texts_canonical acks texts, (refl, (refl, (refl, tt))), (ascii _ refl, small, (refl, (refl, tt)), (ascii _ refl, tt, (refl, tt), (ascii _ refl, h, tt, tt))))

data_shallow : (max : Option ℕ) (acks : List (List ℕ)) (errors : List Reported) → depth (ask_data (record { max = max; acks = acks; errors = errors })) ≤ max_depth
data_shallow None acks errors = omega (arith, texts_shallow acks, members_shallow (errors_by_name errors))
data_shallow (Some n) acks errors = omega (arith, texts_shallow acks, members_shallow (errors_by_name errors))

in_data : (max : Option ℕ) (acks : List (List ℕ)) (errors : List Reported) → ask_in (ask_data (record { max = max; acks = acks; errors = errors })) ≡ Ok (record { max = max; acks = acks; errors = errors_by_name errors })
unfolding ask_in
in_data None acks errors = rw (texts_back acks, errors_back (errors_by_name errors)) refl
in_data (Some n) acks errors = rw (texts_back acks, errors_back (errors_by_name errors)) refl

pub reads_back_ask : ReadsBackAsk
reads_back_ask ask texts =
    let errors = members_canonical (errors_by_name ask.errors) (is_by_name jti_of ask.errors) (ordered_texts ask.errors (all_texts ask.errors texts.jtis texts.codes)) in
    let spelled = canon_reads (ask_data ask) (data_canonical ask.max ask.acks ask.errors texts.max texts.acks errors) (data_shallow ask.max ask.acks ask.errors) in
    rw spelled (in_data ask.max ask.acks ask.errors)
