-- What is written of tokens is read as their identifiers and their signed texts.
use Rattle.std.proofs.Common.{◌≡◌, ◌≤◌, ℕ, suc, List, [], ◌∷◌, ◌++◌, All, Bool, Some, Ordering, Less, Equal, Greater, nat_cmp, IsUtf8, refl, ap, arith}
use Rattle.std.specs.Prelude.{⊤, Ok}
use Rattle.std.specs.Cmp.Lexicographic.{slice_cmp}
use Rattle.std.specs.Ordering.{match_ordering}
use Rattle.std.specs.Str.{IsAscii}
use Rattle.std.proofs.lemmas.Str.{IsAscii-append, IsUtf8-from_ascii}
use Rattle.std.proofs.lemmas.Str.Ascii.{IsAscii-cons}
use Rattle.base64.proofs.EngineFacts.{IsAscii-encode_of}
use Rattle.base64.specs.Engines.{url_safe_no_pad}
use Rattle.json.proofs.Printed.Utf8.{IsUtf8-are_ascii}
use Rattle.serde_json.specs.Data.{depth, members_depth}
use Rattle.serde_json.specs.Read.{max_depth}
use Rattle.sig_json.proofs.ReadBack.{canon_reads}
use Rattle.sig_json.specs.Canon.{IsBelow, IsCanonical, MembersAreCanonical}
use Rattle.sig_jws.specs.Compact.{base64url, dot, input_of, signed}
use Rattle.sig_jws.specs.Hmac.{hmac_of}
use Rattle.sig_jws.specs.declared.key.Key.{Key}
use Rattle.sig_set.specs.Written.{header_text_of, payload_text_of}
use Rattle.sig_terms.specs.declared.token.Token.{Token}
use Rattle.sig_delivery.specs.declared.sets.Listed.{Listed}
use Rattle.sig_delivery.specs.Bodies.{before}
use Rattle.sig_delivery.specs.Laws.{ReadsBackSets}
use Rattle.sig_delivery.specs.Named.{IsBelowAll, IsByName, placed}
use Rattle.sig_delivery.specs.Sets.{all_signed, jti_of, listed, listed_members, listed_of, sets_data, sets_in, signed_as}
use Rattle.sig_delivery.proofs.ByNames.{is_by_name}

-- ---- signed texts are ASCII

encoded_ascii : (m : List ℕ) → IsAscii (base64url m)
encoded_ascii m = IsAscii-encode_of url_safe_no_pad m

joined_ascii : (xs ys : List ℕ) → IsAscii xs → IsAscii ys → IsAscii (xs ++ dot ∷ ys)
joined_ascii xs ys h k = IsAscii-append xs (dot ∷ ys) h (IsAscii-cons dot ys (omega arith) k)

signed_ascii : (header payload key : List ℕ) → IsAscii (signed header payload key)
unfolding signed
signed_ascii header payload key =
    joined_ascii (input_of header payload) (base64url (hmac_of key (input_of header payload)))
    (joined_ascii (base64url header) (base64url payload) (encoded_ascii header) (encoded_ascii payload))
    (encoded_ascii (hmac_of key (input_of header payload)))

-- ---- identifiers and texts in UTF-8

abbrev pub HaveTexts : List Listed → Type 0
HaveTexts [] = ⊤
HaveTexts (l ∷ ls) = IsUtf8 l.jti × IsUtf8 l.text × HaveTexts ls

texts_placed : (l : Listed) (ls : List Listed) → IsUtf8 l.jti → IsUtf8 l.text → HaveTexts ls → HaveTexts (placed jti_of l ls)
texts_placed l [] name text h = (name, text, tt)
texts_placed l (m ∷ ls) name text h = at (slice_cmp nat_cmp l.jti m.jti) (texts_placed l ls name text h.2)
  where
    at : (o : Ordering) → HaveTexts (placed jti_of l ls) → HaveTexts (match_ordering o (l ∷ m ∷ ls) (l ∷ ls) (m ∷ placed jti_of l ls))
    at Less rest = (name, text, h)
    at Equal rest = (name, text, h.2)
    at Greater rest = (h.0, h.1, rest)

rest_utf8 : (t : Token) (ts : List Token) → All (λ (s : Token). IsUtf8 s.claims.jti) (t ∷ ts) → All (λ (s : Token). IsUtf8 s.claims.jti) ts
rest_utf8 t ts h k d small = h (suc k) d (omega arith)

listed_texts : (key : Key) (ts : List Token) → All (λ (t : Token). IsUtf8 t.claims.jti) ts → HaveTexts (listed key ts)
listed_texts key [] h = tt
listed_texts key (t ∷ ts) h =
    texts_placed (signed_as key t) (listed key ts) (h 0 t (omega arith))
    (IsUtf8-from_ascii _ (signed_ascii (header_text_of key.kid) (payload_text_of t.claims) key.bytes))
    (listed_texts key ts (rest_utf8 t ts h))

-- ---- the members that are written

below_members : (k : List ℕ) (ls : List Listed) → IsBelowAll jti_of k ls → IsBelow k (listed_members ls)
below_members k [] h = tt
below_members k (l ∷ ls) h = (h.0, below_members k ls h.1)

members_canonical : (ls : List Listed) → IsByName jti_of ls → HaveTexts ls → MembersAreCanonical (listed_members ls)
members_canonical [] order h = tt
members_canonical (l ∷ ls) order h = (h.0, h.1, below_members l.jti ls order.0, members_canonical ls order.1 h.2)

members_shallow : (ls : List Listed) → members_depth (listed_members ls) ≤ 0
members_shallow [] = omega arith
members_shallow (l ∷ ls) = omega (arith, members_shallow ls)

members_back : (ls : List Listed) → listed_of (listed_members ls) ≡ Some ls
members_back [] = refl
members_back (l ∷ ls) = ap (before (Some l)) (members_back ls)

data_canonical : (more : Bool) (ls : List Listed) → IsByName jti_of ls → HaveTexts ls → IsCanonical (sets_data more ls)
data_canonical more ls order h =
    (IsUtf8-are_ascii _ refl, tt, (refl, tt), (IsUtf8-are_ascii _ refl, members_canonical ls order h, tt, tt))

data_shallow : (more : Bool) (ls : List Listed) → depth (sets_data more ls) ≤ max_depth
data_shallow more ls = omega (arith, members_shallow ls)

in_data : (more : Bool) (ls : List Listed) → sets_in (sets_data more ls) ≡ Ok (record { tokens = ls; more = more })
unfolding sets_in
in_data more ls = rw (members_back ls) refl

pub reads_back_sets : ReadsBackSets
reads_back_sets tokens more key texts =
    let ls = listed key tokens in
    let order = is_by_name jti_of (all_signed key tokens) in
    let spelled = canon_reads (sets_data more ls) (data_canonical more ls order (listed_texts key tokens texts)) (data_shallow more ls) in
    rw spelled (in_data more ls)
