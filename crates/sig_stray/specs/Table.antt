-- The members that each object of settings may have, and what they hold.
use Rattle.std.specs.Prelude.{ℕ, List, [], ◌∷◌, find, Option, option_map, bytes_eq, codes}
use Rattle.sig_stray.specs.declared.table.ObjectKind.{ObjectKind}
use Rattle.sig_stray.specs.declared.table.ObjectKind.TheVariants.{Transmitter, Client, Key, Receiver, Issuer, IssuerKey, Principal, Peer}
use Rattle.sig_stray.specs.declared.table.Holds.{Holds}
use Rattle.sig_stray.specs.declared.table.Holds.TheVariants.{Value, Object, List as ListOf}

-- a member's name, and what it holds
pub record Row : Type 0 where
  pub name : List ℕ
  pub holds : Holds

abbrev pub value : List ℕ → Row
value name = record { name = name; holds = Value }

abbrev pub one : List ℕ → ObjectKind → Row
one name kind = record { name = name; holds = Object kind }

abbrev pub each : List ℕ → ObjectKind → Row
each name kind = record { name = name; holds = ListOf kind }

-- the table
abbrev pub members_of : ObjectKind → List Row
members_of Transmitter =
    value (codes "issuer")
    ∷ value (codes "base")
    ∷ value (codes "listen")
    ∷ value (codes "operator")
    ∷ value (codes "default_subjects")
    ∷ value (codes "min_verification_interval")
    ∷ one (codes "key") Key
    ∷ each (codes "clients") Client
    ∷ value (codes "tls_gateway")
    ∷ []
members_of Client = value (codes "aud") ∷ value (codes "bearer") ∷ value (codes "name") ∷ []
members_of Key = value (codes "k") ∷ value (codes "kid") ∷ []
members_of Receiver =
    value (codes "audience")
    ∷ value (codes "listen")
    ∷ value (codes "reader")
    ∷ each (codes "issuers") Issuer
    ∷ each (codes "principals") Principal
    ∷ one (codes "poll") Peer
    ∷ value (codes "tls_gateway")
    ∷ []
members_of Issuer = value (codes "iss") ∷ each (codes "keys") IssuerKey ∷ []
-- a secret or a public key; the last six are members of a JWK that aren't read (RFC 7517, section 4)
members_of IssuerKey =
    value (codes "k")
    ∷ value (codes "kid")
    ∷ value (codes "kty")
    ∷ value (codes "alg")
    ∷ value (codes "n")
    ∷ value (codes "e")
    ∷ value (codes "use")
    ∷ value (codes "key_ops")
    ∷ value (codes "x5u")
    ∷ value (codes "x5c")
    ∷ value (codes "x5t")
    ∷ value (codes "x5t#S256")
    ∷ []
members_of Principal = value (codes "bearer") ∷ value (codes "iss") ∷ []
members_of Peer = value (codes "bearer") ∷ value (codes "iss") ∷ value (codes "url") ∷ []

-- what the member of this name holds, where an object of this kind may have it
abbrev pub held : ObjectKind → List ℕ → Option Holds
held kind name = option_map (λ (row : Row). row.holds) (find (λ (row : Row). bytes_eq name row.name) (members_of kind))
