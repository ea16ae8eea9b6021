-- What is taken of a source, of any source.
use Rattle.std.specs.Prelude.{◌≡◌, ℕ, ◌+◌, ◌≤◌, List, ◌++◌, length, Option}
use Rattle.std.specs.Io.KnownBytes.{Consumes, IsAtEnd}
use Rattle.sig_outside.specs.Causes.{Raised}
use Rattle.sig_http.specs.declared.limits.TheConstants.{PIECE_BYTES}
use Rattle.sig_http.specs.declared.fault.HttpFault.{HttpFault}
use Rattle.sig_http.specs.declared.fault.HttpFault.TheVariants.{Head, Host, HeadLong, Length, BodyLong, Coding, Expect, Cut, Link, Memory}

-- bytes were taken of the source, in its order, and stand behind those that stood
pub record Draws (old new : List ℕ) (left left' : Option (List ℕ)) : Type 0 where
  pub more : List ℕ
  pub gave : Consumes left left' more
  pub stands : new ≡ old ++ more

-- one piece of so many bytes: none only at the end of the input
pub record IsPiece (n : ℕ) (old new : List ℕ) (left' : Option (List ℕ)) : Type 0 where
  pub count : length new ≡ length old + n
  pub bound : n ≤ PIECE_BYTES
  pub ends : n ≡ 0 → IsAtEnd left'

-- no piece was taken: the source failed and its count was raised by one, or memory ran out
abbrev pub Halts : HttpFault → ℕ → ℕ → Type 0
Halts Link before now = Raised before now
Halts Memory before now = now ≡ before
Halts Head before now = ⊥
Halts Host before now = ⊥
Halts HeadLong before now = ⊥
Halts Length before now = ⊥
Halts BodyLong before now = ⊥
Halts Coding before now = ⊥
Halts Expect before now = ⊥
Halts Cut before now = ⊥
