-- The MAC of a message (RFC 2104, with SHA-256 of FIPS 180-4 and its blocks of 64 bytes).
use Rattle.std.specs.Prelude.{ℕ, ◌-◌, List, ◌++◌, length, map, replicate, bit_xor, nat_lt, if◌then◌else◌}
use Rattle.sha2.specs.Sha256.{sha256}

-- the key, hashed first where it is longer than a block (RFC 2104, section 2)
abbrev pub short_key : List ℕ → List ℕ
short_key key = if nat_lt 64 (length key) then sha256 key else key

-- the key as one block, with zeros at its end (RFC 2104, section 2, step 1)
abbrev pub block_of : List ℕ → List ℕ
block_of key = short_key key ++ replicate (64 - length (short_key key)) 0

-- each byte of a block, with this byte added bit by bit (RFC 2104, section 2, steps 2 and 5)
abbrev pub mixed : ℕ → List ℕ → List ℕ
mixed byte block = map (λ b. bit_xor b byte) block

-- the MAC of a message under a key (RFC 2104, section 2; `HS256` of RFC 7518, section 3.2)
unfoldable pub hmac_of : List ℕ → List ℕ → List ℕ
hmac_of key message = sha256 (mixed 0x5c (block_of key) ++ sha256 (mixed 0x36 (block_of key) ++ message))
