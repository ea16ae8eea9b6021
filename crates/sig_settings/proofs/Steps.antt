-- Readings in steps, taken apart: what each step gave.
use Rattle.std.proofs.Common.{◌≡◌, ℕ, List, Option, Some, None, refl}
use Rattle.std.specs.Prelude.{Result, Ok, Err, ok_or, option_and_then}
use Rattle.serde_json.specs.Data.{Data}
use Rattle.sig_stream.specs.Steps.{◌>>=◌}
use Rattle.sig_settings.specs.declared.fault.ValueFault.{ValueFault}
use Rattle.sig_settings.specs.declared.path.Step.{Step}
use Rattle.sig_settings.specs.Members.{found, member_at, needed, optional, optional_at, told, under}

pub stepped : {A B E : Type 0} (r : Result A E) (f : A → Result B E) (y : B) → (r >>= f) ≡ Ok y → (x : A) × (r ≡ Ok x) × (f x ≡ Ok y)
stepped (Ok x) f y h = (x, refl, h)
stepped (Err e) f y h = cc

pub then_some : {A B : Type 0} (o : Option A) (f : A → Option B) (y : B) → option_and_then f o ≡ Some y → (x : A) × (o ≡ Some x) × (f x ≡ Some y)
then_some None f y h = cc
then_some (Some x) f y h = (x, refl, h)

pub ok_some : {T E : Type 0} (o : Option T) (e : E) (x : T) → ok_or o e ≡ Ok x → o ≡ Some x
ok_some None e x h = cc
ok_some (Some y) e x h = cc

pub ok_same : {T E : Type 0} (x y : T) → ◌≡◌ {A = Result T E} (Ok x) (Ok y) → x ≡ y
ok_same x y h = cc

-- what was read of a value was found in it
pub found_is : {T : Type 0} (o : Option T) (x : T) → found o ≡ Ok x → o ≡ Some x
found_is o x h = ok_some o _ x h

-- what was read under a step was read
pub under_ok : {T : Type 0} (step : Step) (r : Result T ValueFault) (x : T) → under step r ≡ Ok x → r ≡ Ok x
under_ok step (Ok y) x h = h
under_ok step (Err fault) x h = cc

pub told_ok : {T : Type 0} (r : Result T ValueFault) (x : T) → told r ≡ Ok x → r ≡ Ok x
told_ok (Ok y) x h = cc
told_ok (Err fault) x h = cc

-- a member that is needed was there, and one that may be missing was read
pub needed_is : {T : Type 0} (kind : Data → Result T ValueFault) (name : List ℕ) (d : Data) (x : T) → needed kind name d ≡ Ok x → member_at kind name d ≡ Ok x
unfolding needed
needed_is kind name d x h = told_ok (member_at kind name d) x h

pub optional_is : {T : Type 0} (kind : Data → Result T ValueFault) (name : List ℕ) (d : Data) (x : Option T) → optional kind name d ≡ Ok x → optional_at kind name d ≡ Ok x
unfolding optional
optional_is kind name d x h = told_ok (optional_at kind name d) x h
