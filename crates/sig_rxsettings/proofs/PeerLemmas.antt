-- The peer's bearer beside those that were read before it.
use Rattle.std.proofs.Common.{◌≡◌, ◌∙◌, ap, sym, refl, ℕ, List, [], ◌∷◌, Bool, true, false, Option, Some, None}
use Rattle.std.specs.Prelude.{◌||◌, bytes_eq, map, Ok, Err, codes, if◌then◌else◌}
use Rattle.std.specs.List.{list_any}
use Rattle.sig_rxnode.specs.declared.rules.Peer.{Peer}
use Rattle.sig_rxnode.specs.declared.rules.Principal.{Principal}
use Rattle.sig_settings.specs.declared.fault.ValueFault.TheVariants.{Wrong}
use Rattle.sig_settings.specs.Bearers.{unless_at, was_read}
use Rattle.sig_settings.specs.Lists.{is_among}
use Rattle.sig_settings.specs.Members.{told_of}
use Rattle.sig_settings.specs.Paths.{Path}
use Rattle.sig_rxsettings.specs.Peers.{has_own_bearer, peer_path, read_before}
use Rattle.sig_rxsettings.specs.Principals.{bearer_of}

read_among : (reader bearer : List ℕ) (principals : List Principal)
    → was_read (read_before reader principals) bearer ≡ (bytes_eq reader bearer || is_among bearer_of bearer principals)
read_among reader bearer principals = ap (λ t. bytes_eq reader bearer || t) (mapped principals)
  where
    mapped : (ps : List Principal) → list_any (λ b. bytes_eq b bearer) (map bearer_of ps) ≡ list_any (λ (p : Principal). bytes_eq (bearer_of p) bearer) ps
    mapped [] = refl
    mapped (p ∷ ps) = ap (λ t. bytes_eq (bearer_of p) bearer || t) (mapped ps)

abbrev told_if : Bool → Option Path
told_if b = if b then Some (peer_path (codes "bearer")) else None

-- by the code's test of it
tested : (reader : List ℕ) (principals : List Principal) (peer : Peer) (b : Bool) → b ≡ (bytes_eq reader peer.bearer || is_among bearer_of peer.bearer principals)
    → has_own_bearer reader principals (Some peer) ≡ unless_at (told_if b)
tested reader principals peer b is = ap (λ t. unless_at (told_if t)) (read_among reader peer.bearer principals ∙ sym is)

-- one that was read is told
pub told_peer : (reader : List ℕ) (principals : List Principal) (peer : Peer) (b : Bool) → b ≡ (bytes_eq reader peer.bearer || is_among bearer_of peer.bearer principals)
    → b ≡ true → has_own_bearer reader principals (Some peer) ≡ Err (told_of (Wrong (peer_path (codes "bearer"))))
told_peer reader principals peer b is h = tested reader principals peer b is ∙ ap (λ t. unless_at (told_if t)) h

-- and any other passes
pub passed_peer : (reader : List ℕ) (principals : List Principal) (peer : Peer) (b : Bool) → b ≡ (bytes_eq reader peer.bearer || is_among bearer_of peer.bearer principals)
    → b ≡ false → has_own_bearer reader principals (Some peer) ≡ Ok tt
passed_peer reader principals peer b is h = tested reader principals peer b is ∙ ap (λ t. unless_at (told_if t)) h
