-- The logs of a watch beside the turns of its node.
use Rattle.std.specs.Prelude.{◌≡◌, ℕ, ◌≤◌, ◌==◌, List, All, filter, length}

-- the turns of one link, in order
abbrev pub of_link : {T : Type 0} → (T → ℕ) → ℕ → List T → List T
of_link link_of number turns = filter (λ t. link_of t == number) turns

-- each log has the node's turns of its link, in order, and each turn of the node is of a link with a log
pub record HasTurns {G T : Type 0} (link_of : T → ℕ) (number_of : G → ℕ) (turns_of : G → List T) (logs : List G) (turns : List T) : Type 0 where
  pub each : All (λ (log : G). turns_of log ≡ of_link link_of (number_of log) turns) logs
  pub known : All (λ (t : T). (1 ≤ link_of t) × (link_of t ≤ length logs)) turns
