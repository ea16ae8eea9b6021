-- What is seen of a step.
use Rattle.std.specs.Prelude.{option_map}
use Rattle.sig_terms.specs.Reply.{Reply}
use Rattle.sig_ledger.specs.Room.{Ready}
use Rattle.sig_ledger.specs.declared.step.Step.{Step}

-- its answer, and its fact
abbrev pub reply_in : Step → Reply
reply_in step = record { answer = step.answer; change = option_map (λ (r : Ready). r.fact) step.change }
