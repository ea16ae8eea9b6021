-- UTF-8 is bytes.
use Rattle.std.proofs.Common.{◌≡◌, ℕ, zero, suc, ◌+◌, ◌/◌, ◌<◌, true, List, [], ◌∷◌, ◌++◌, IsUtf8, subst, arith, inl, inr}
use Rattle.std.proofs.lemmas.Bool.{and_parts, cases_lt, lt-ltb, le-ltb}
use lib.Utf8.{scalar, scalars, next, encode, encodes, scalar_cases}
use Rattle.base64.specs.GeneralPurpose.{IsBytes}

no_bytes : IsBytes []
no_bytes i = omega arith

one_more : (b : ℕ) (bytes : List ℕ) → b < 256 → IsBytes bytes → IsBytes (b ∷ bytes)
one_more b bytes small rest zero = small
one_more b bytes small rest (suc i) = rest i

IsBytes-append : (front back : List ℕ) → IsBytes front → IsBytes back → IsBytes (front ++ back)
IsBytes-append [] back h k = k
IsBytes-append (b ∷ front) back h k = one_more b (front ++ back) (h 0) (IsBytes-append front back (λ i. h (suc i)) k)

small_scalar : (c : ℕ) → scalar c ≡ true → c < 1114112
small_scalar c ok = elim (scalar_cases c ok) [ inl low ↦ omega arith | inr high ↦ omega arith ]

-- the bytes of one character
one : (a : ℕ) → a < 256 → IsBytes (a ∷ [])
one a h = one_more a [] h no_bytes

two : (a b : ℕ) → a < 256 → b < 256 → IsBytes (a ∷ b ∷ [])
two a b h k = one_more a (b ∷ []) h (one b k)

three : (a b c : ℕ) → a < 256 → b < 256 → c < 256 → IsBytes (a ∷ b ∷ c ∷ [])
three a b c h k l = one_more a (b ∷ c ∷ []) h (two b c k l)

four : (a b c d : ℕ) → a < 256 → b < 256 → c < 256 → d < 256 → IsBytes (a ∷ b ∷ c ∷ d ∷ [])
four a b c d h k l m = one_more a (b ∷ c ∷ d ∷ []) h (three b c d k l m)

IsBytes-encode : (c : ℕ) → c < 1114112 → IsBytes (encode c)
unfolding encode
IsBytes-encode c small = elim (cases_lt c 128) [
  | inl h ↦ rw (lt-ltb c 128 h) (one c (omega arith))
  | inr k ↦ rw (le-ltb c 128 k) (elim (cases_lt c 2048) [
    | inl h ↦ rw (lt-ltb c 2048 h) (two (192 + c / 64) (next c) (omega arith) (omega arith))
    | inr l ↦ rw (le-ltb c 2048 l) (elim (cases_lt c 65536) [
      | inl h ↦ rw (lt-ltb c 65536 h) (three (224 + c / 4096) (next (c / 64)) (next c) (omega arith) (omega arith) (omega arith))
      | inr m ↦ rw (le-ltb c 65536 m) (four (240 + c / 262144) (next (c / 4096)) (next (c / 64)) (next c) (omega arith) (omega arith) (omega arith) (omega arith))
    ])
  ])
]

all_encoded : (cs : List ℕ) → scalars cs ≡ true → IsBytes (encodes cs)
all_encoded [] ok = no_bytes
all_encoded (c ∷ cs) ok =
    let both = and_parts (scalar c) (scalars cs) ok in
    IsBytes-append (encode c) (encodes cs) (IsBytes-encode c (small_scalar c both.0)) (all_encoded cs both.1)

pub IsBytes-utf8 : (bytes : List ℕ) → IsUtf8 bytes → IsBytes bytes
IsBytes-utf8 bytes h = subst IsBytes h.1.1 (all_encoded h.0 h.1.0)
