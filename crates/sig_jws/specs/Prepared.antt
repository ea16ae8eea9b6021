-- A key that is prepared for many messages (RFC 2104, section 4).
use Rattle.std.specs.Prelude.{ℕ, List}
use Rattle.sha2.specs.Hashers.{Holds256}
use Rattle.sha2.specs.declared.Sha256.{Sha256}
use Rattle.sig_jws.specs.Hmac.{block_of, mixed}

-- the hashers of the inner and of the outer digest have each taken in their block of a key, and nothing more
pub record AreKeyed (key : List ℕ) (inner outer : Sha256) : Type 0 where
  pub inner_block : Holds256 inner (mixed 0x36 (block_of key))
  pub outer_block : Holds256 outer (mixed 0x5c (block_of key))
