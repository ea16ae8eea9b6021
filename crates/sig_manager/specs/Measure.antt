-- How many requests may still be made once the streams are listed.
use Rattle.std.specs.Prelude.{ℕ, List, [], ◌∷◌, ◌+◌, Option, Some, None}
use Rattle.sig_manager.specs.Exchange.{Managed}
use Rattle.sig_manager.specs.declared.step.Step.{Step}
use Rattle.sig_manager.specs.declared.step.Step.TheVariants as step

-- the request of a step, and of one that may come after it
abbrev pub weight : Step → ℕ
weight (step.Status stream wanted) = 2
weight (step.Delete stream) = 1
weight (step.Replace stream w) = 1
weight (step.Create w status) = 2
weight (step.SetStatus stream status) = 1

abbrev pub weight_of : List Step → ℕ
weight_of [] = 0
weight_of (s ∷ ss) = weight s + weight_of ss

-- the most requests that may still be made; before the list nothing is known
abbrev pub left_by : Option (List Step) → Option ℕ
left_by None = None
left_by (Some steps) = Some (weight_of steps)

abbrev pub left : Managed → Option ℕ
left m = left_by m.steps
