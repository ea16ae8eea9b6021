-- What a lock keeps of a node.
use Rattle.std.proofs.Common.{◌≡◌, Option, Some, None, sym, subst}
use Rattle.std.proofs.Math.Logic.{∥∥₁_elim, ∥∥₁_map}
use Rattle.std.specs.Coded.{Unit-prop}
use Rattle.std.specs.Prelude.{IfSome}

module _ {N : Type 0} where
  follows_prop : (follows : N → N → Type 0) → ((before now : N) → IsProp (follows before now)) → (before : Option N) (now : N)
      → IsProp (IfSome before (λ (b : N). follows b now))
  follows_prop follows once None now = Unit-prop
  follows_prop follows once (Some before) now = once before now

  -- the node under the lock follows what it was before its watch was opened
  pub still_follows : (follows : N → N → Type 0) → ((before now : N) → IsProp (follows before now)) → (before : N) (told : Option N) (now : N)
      → ∥ Some before ≡ told ∥₁ → ∥ follows before now ∥₁ → IfSome told (λ (b : N). follows b now)
  still_follows follows once before told now same h =
      ∥∥₁_elim same (follows_prop follows once told now)
      (λ is. subst (λ (o : Option N). IfSome o (λ (b : N). follows b now)) is (∥∥₁_elim h (once before now) (λ f. f)))

  -- a node goes on following
  pub follows_on : (follows : N → N → Type 0) (before old new : N) → (follows before old → follows before new) → ∥ follows before old ∥₁ → ∥ follows before new ∥₁
  follows_on follows before old new on h = ∥∥₁_map h on

  -- what it was is told
  pub told_follows : (follows : N → N → Type 0) (before : N) (told : Option N) (now : N) → Some before ≡ told → IfSome told (λ (b : N). follows b now) → follows before now
  told_follows follows before told now same h = subst (λ (o : Option N). IfSome o (λ (b : N). follows b now)) (sym same) h
