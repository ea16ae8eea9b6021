-- What holds of a value that may be there.
use Rattle.std.proofs.Common.{◌≡◌, subst, Bool, true, false, Option, Some, None, refl}
use Rattle.std.specs.Prelude.{IfSome, option_and_then, option_map, if◌then◌else◌}

pub some_if : {A : Type 0} (P : A → Type 0) (t : Bool) (o : Option A) → IfSome o P → IfSome (if t then o else None) P
some_if P true o p = p
some_if P false o p = tt

pub some_where : {A : Type 0} (P : A → Type 0) (t : Bool) (o : Option A) → (t ≡ true → IfSome o P) → IfSome (if t then o else None) P
some_where P true o p = p refl
some_where P false o p = tt

pub some_then : {A B : Type 0} (P : B → Type 0) (f : A → Option B) (o : Option A) → ((a : A) → o ≡ Some a → IfSome (f a) P) → IfSome (option_and_then f o) P
some_then P f None h = tt
some_then P f (Some a) h = h a refl

pub some_map : {A B : Type 0} (P : B → Type 0) (f : A → B) (o : Option A) → ((a : A) → o ≡ Some a → P (f a)) → IfSome (option_map f o) P
some_map P f None h = tt
some_map P f (Some a) h = h a refl

-- what holds of all that is there holds of this
pub there : {A : Type 0} (P : A → Type 0) (o : Option A) (a : A) → IfSome o P → o ≡ Some a → P a
there P o a h is = subst (λ o. IfSome o P) is h
