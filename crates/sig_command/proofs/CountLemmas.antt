-- What an input and an output counted, moment after moment.
use Rattle.std.proofs.Common.{◌≡◌, ◌∙◌, subst, ℕ, inl, inr}
use Rattle.sig_outside.specs.Causes.{Raised}
use Rattle.sig_command.specs.declared.lines_end.LinesEnd.{LinesEnd}
use Rattle.sig_command.specs.declared.lines_end.LinesEnd.TheVariants.{Done, Stopped, Input, Output, Memory}
use Rattle.sig_command.specs.Moment.{Calm, InputState, Moment, OutputCalm, OutputState, OutputStopped}
use Rattle.sig_command.specs.Progress.{IsStop}
use Rattle.sig_command.specs.Telling.{Telling, WhyEnded, WhyPut}

-- an input and an output at a moment
abbrev pub at : InputState → OutputState → Moment
at input output = record { input = input; output = output }

raised_since : (a b c : ℕ) → b ≡ a → Raised b c → Raised a c
raised_since a b c same h = subst (λ n. Raised n c) same h

pub output_calm-then : (a b c : OutputState) → OutputCalm a b → OutputCalm b c → OutputCalm a c
output_calm-then a b c first then = (then.0 ∙ first.0, then.1 ∙ first.1)

pub output_stopped-since : (a b c : OutputState) → OutputCalm a b → OutputStopped b c → OutputStopped a c
output_stopped-since a b c calm (inl h) = inl (raised_since a.faults b.faults c.faults calm.0 h.0, h.1 ∙ calm.1)
output_stopped-since a b c calm (inr h) = inr (raised_since a.stalls b.stalls c.stalls calm.1 h.0, h.1 ∙ calm.0)

pub calm-then : (a b c : Moment) → Calm a b → Calm b c → Calm a c
calm-then a b c first then = (then.0 ∙ first.0, output_calm-then a.output b.output c.output first.1 then.1)

-- nothing failed before, so the cause is one since then too
pub why_since : (t : Telling) (a b c : Moment) (e : LinesEnd) → Calm a b → WhyEnded t b c e → WhyEnded t a c e
why_since t a b c Done calm h = calm-then a b c calm h
why_since t a b c (Stopped s) calm h = (h.0, calm-then a b c calm h.1)
why_since t a b c Input calm h =
    (raised_since a.input.faults b.input.faults c.input.faults calm.0 h.0, output_calm-then a.output b.output c.output calm.1 h.1)
why_since t a b c Output calm h = (
  elim h.0 [
    | inl same ↦ inl (same ∙ calm.0)
    | inr failed ↦ inr (raised_since a.input.faults b.input.faults c.input.faults calm.0 failed)
  ],
  output_stopped-since a.output b.output c.output calm.1 h.1,
)
why_since t a b c Memory calm h = calm-then a b c calm h

pub put_why-since : (a b c : OutputState) (e : LinesEnd) → OutputCalm a b → WhyPut b c e → WhyPut a c e
put_why-since a b c Done calm h = output_calm-then a b c calm h
put_why-since a b c (Stopped s) calm h = h
put_why-since a b c Input calm h = h
put_why-since a b c Output calm h = output_stopped-since a b c calm h
put_why-since a b c Memory calm h = output_calm-then a b c calm h

-- what follows the lines is put at the end of the input
pub last-why : (t : Telling) (a : Moment) (input : InputState) (m b : OutputState) (e : LinesEnd) → WhyEnded t a (at input m) Done → WhyPut m b e → WhyEnded t a (at input b) e
last-why t a input m b Done h put = (h.0, output_calm-then a.output m b h.1 put)
last-why t a input m b (Stopped s) h put = absurd put
last-why t a input m b Input h put = absurd put
last-why t a input m b Output h put = (inl h.0, output_stopped-since a.output m b h.1 put)
last-why t a input m b Memory h put = (h.0, output_calm-then a.output m b h.1 put)

-- what is gathered is put where the lines stopped
pub rest-why : (t : Telling) (a : Moment) (input : InputState) (m b : OutputState) (e : LinesEnd) → IsStop e → OutputCalm m b → WhyEnded t a (at input m) e → WhyEnded t a (at input b) e
rest-why t a input m b Done stop calm h = absurd stop
rest-why t a input m b (Stopped s) stop calm h = (h.0, (h.1.0, output_calm-then a.output m b h.1.1 calm))
rest-why t a input m b Input stop calm h = (h.0, output_calm-then a.output m b h.1 calm)
rest-why t a input m b Output stop calm h = absurd stop
rest-why t a input m b Memory stop calm h = absurd stop

-- the output stopped there
pub rest_failed-why : (t : Telling) (a : Moment) (input : InputState) (m b : OutputState) (e : LinesEnd) → IsStop e → OutputStopped m b → WhyEnded t a (at input m) e
    → WhyEnded t a (at input b) Output
rest_failed-why t a input m b Done stop stopped h = absurd stop
rest_failed-why t a input m b (Stopped s) stop stopped h = (inl h.1.0, output_stopped-since a.output m b h.1.1 stopped)
rest_failed-why t a input m b Input stop stopped h = (inr h.0, output_stopped-since a.output m b h.1 stopped)
rest_failed-why t a input m b Output stop stopped h = absurd stop
rest_failed-why t a input m b Memory stop stopped h = absurd stop
