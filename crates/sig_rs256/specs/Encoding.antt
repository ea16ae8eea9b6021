-- The encoded message (RFC 8017, section 9.2, with SHA-256).
use Rattle.std.specs.Prelude.{ℕ, ◌-◌, List, [], ◌∷◌, ◌++◌, replicate}
use Rattle.sha2.specs.Sha256.{sha256}

-- the DER of DigestInfo before a digest of SHA-256 (RFC 8017, section 9.2, note 1)
abbrev pub digest_info : List ℕ
digest_info =
    0x30 ∷ 0x31 ∷ 0x30 ∷ 0x0d ∷ 0x06 ∷ 0x09 ∷ 0x60 ∷ 0x86 ∷ 0x48 ∷ 0x01 ∷ 0x65 ∷ 0x03 ∷ 0x04 ∷ 0x02 ∷ 0x01 ∷ 0x05 ∷ 0x00 ∷ 0x04 ∷ 0x20 ∷ []

-- a digest of 32 bytes as an encoded message of so many bytes: 0, 1, padding of 255, 0 and the DER (steps 2 to 5)
abbrev pub encoded_digest : ℕ → List ℕ → List ℕ
encoded_digest bytes digest = 0 ∷ 1 ∷ replicate (bytes - 54) 255 ++ 0 ∷ digest_info ++ digest

-- a message, encoded in so many bytes
abbrev pub encoded : ℕ → List ℕ → List ℕ
encoded bytes message = encoded_digest bytes (sha256 message)
