use Rattle.std.proofs.Common.{◌≡◌, take}
use Rattle.sig_ticking.specs.Texts.{attempts_text}
use Rattle.sig_ticking.proofs.text.text_of.Given as goal

abbrev pub invariant-loop-attempt : goal.invariant-loop-attempt
invariant-loop-attempt l = l.text ≡ attempts_text l.number (take l.attempt-index l.attempts)
