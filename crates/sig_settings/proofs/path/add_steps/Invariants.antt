use Rattle.std.proofs.Common.{◌≡◌, ◌++◌, string_bytes, drop}
use Rattle.sig_settings.specs.Paths.{steps_text}
use Rattle.sig_settings.proofs.path.add_steps.Given as goal

abbrev pub invariant-loop-step : goal.invariant-loop-step
invariant-loop-step l = string_bytes l.initial.text ++ steps_text l.steps ≡ string_bytes l.text ++ steps_text (drop l.step-index l.steps)
