-- Of which streams something is kept, after what is kept of one changed.
use Rattle.std.proofs.Common.{◌≡◌, ◌∙◌, ap, subst, refl, ℕ, List, Bool, true, false, is_some, bytes_eq}
use Rattle.std.proofs.lemmas.Slice.Eq.{bytes_eq-Decides}
use Rattle.std.specs.Map.{lookup}
use Rattle.std.specs.Prelude.{Some}
use Rattle.sig_courier.specs.declared.late.Late.{Late}
use Rattle.sig_courier.specs.Schedule.{Kept, StaysKnown, is_known}

pub stays_as_it_is : (kept : Kept) → StaysKnown kept kept
stays_as_it_is kept stream known = known

pub stays_known : (old new : Kept) (own : List ℕ) → is_known new own ≡ true
    → ((other : List ℕ) → bytes_eq own other ≡ false → is_known new other ≡ is_known old other) → StaysKnown old new
stays_known old new own known others stream before = by (bytes_eq own stream) refl
  where
    by : (b : Bool) → bytes_eq own stream ≡ b → is_known new stream ≡ true
    by true is = subst (λ (n : List ℕ). is_known new n ≡ true) ((bytes_eq-Decides own stream).0 is) known
    by false is = others stream is ∙ before

pub stays_added : (old new : Kept) (own : List ℕ) (late : Late) → lookup (bytes_eq own) new ≡ Some late
    → ((other : List ℕ) → bytes_eq own other ≡ false → lookup (bytes_eq other) new ≡ lookup (bytes_eq other) old) → StaysKnown old new
stays_added old new own late put others =
    stays_known old new own (ap is_some put) (λ other apart. ap is_some (others other apart))
