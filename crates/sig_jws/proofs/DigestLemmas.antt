-- A digest is 32 bytes.
use Rattle.std.proofs.Common.{◌≡◌, ◌≢◌, ℕ, zero, suc, ◌<◌, List, [], length, ap, arith, inl, inr}
use Rattle.std.specs.Prelude.{slice_index}
use Rattle.std.specs.List.{All}
use Rattle.std.specs.Int.{byte_at, bytes_high_first, to_be_bytes, w32}
use Rattle.std.proofs.lemmas.Bool.{cases_lt}
use Rattle.std.proofs.lemmas.List.{get_or_past}
use Rattle.std.proofs.lemmas.List.Elements.{All-nil, All-cons, All-append, All-get_or}
use Rattle.base64.specs.GeneralPurpose.{IsBytes}
use Rattle.sha2.specs.Sha256.{digest_bytes, sha256}
use Rattle.sha2.proofs.Facts256.{length-sha256}
use Rattle.sig_jws.specs.Hmac.{hmac_of}

byte_at-small : (k n : ℕ) → byte_at k n < 256
byte_at-small zero n = omega arith
byte_at-small (suc k) n = omega arith

high_first : (k n : ℕ) → All (λ b. b < 256) (bytes_high_first k n)
high_first zero n = All-nil (λ b. b < 256)
high_first (suc k) n = All-cons (λ b. b < 256) (byte_at k n) (bytes_high_first k n) (byte_at-small k n) (high_first k n)

words : (hash : List ℕ) (n : ℕ) → All (λ b. b < 256) (digest_bytes hash n)
unfolding digest_bytes
words hash zero = All-nil (λ b. b < 256)
words hash (suc n) =
    All-append (λ b. b < 256) (digest_bytes hash n) (to_be_bytes w32 (slice_index hash n)) (words hash n) (high_first 4 (slice_index hash n))

-- what holds of each element holds at each place, since past the end there is 0
IsBytes-from_All : (bytes : List ℕ) → All (λ b. b < 256) bytes → IsBytes bytes
IsBytes-from_All bytes all i = elim (cases_lt i (length bytes)) [
  | inl lt ↦ All-get_or (λ b. b < 256) bytes i 0 lt all
  | inr ge ↦ rw (get_or_past bytes i 0 ge) (omega arith)
]

IsBytes-sha256 : (message : List ℕ) → IsBytes (sha256 message)
unfolding sha256
IsBytes-sha256 message = IsBytes-from_All _ (words _ 8)

pub IsBytes-hmac_of : (key message : List ℕ) → IsBytes (hmac_of key message)
unfolding hmac_of
IsBytes-hmac_of key message = IsBytes-sha256 _

length-hmac_of : (key message : List ℕ) → length (hmac_of key message) ≡ 32
unfolding hmac_of
length-hmac_of key message = length-sha256 _

pub hmac_of-full : (key message : List ℕ) → hmac_of key message ≢ []
hmac_of-full key message none =
    let size = length-hmac_of key message in
    let no_size = ap length none in
    omega (arith, size, no_size)
