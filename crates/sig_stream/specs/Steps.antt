-- Readings in steps, of which the first fault decides.
use Rattle.std.specs.Prelude.{Option, Some, None, Result, Ok, Err}
use Rattle.serde_json.specs.Data.{Data}
use Rattle.sig_json.specs.Answers.{result_map}

-- what a step gives is the next one's, and its fault is that of all
infixl 10 ◌>>=◌
abbrev pub ◌>>=◌ : {A B E : Type 0} → Result A E → (A → Result B E) → Result B E
(Ok x) >>= f = f x
(Err e) >>= f = Err e

-- what is read of a member, where it is given
abbrev pub where_given : {T E : Type 0} → (Data → Result T E) → Option Data → Result (Option T) E
where_given read None = Ok None
where_given read (Some d) = result_map (λ x. Some x) (read d)
