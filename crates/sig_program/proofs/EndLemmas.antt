-- How the ending of the words and its last line make the ending of the run.
use Rattle.std.proofs.Common.{◌≡◌, ◌∙◌, ap, sym, subst, ℕ, ◌≤◌, ◌<◌, List, [], length, Option, None, Some, refl, inl, inr, length-append, arith, ◌+◌, ◌++◌}
use Rattle.std.specs.Prelude.{◌⊎◌, IfSome}
use Rattle.std.specs.Io.KnownBytes.{Appends, Consumes}
use Rattle.std.specs.Str.Lines.{lines}
use Rattle.std.proofs.KnownBytes.{Appends-trans, Appends-nil}
use Rattle.sig_json.specs.declared.limits.TheConstants.{LAST_NUMBER}
use Rattle.sig_outside.specs.Causes.{AppendsPrefix, Raised, Rose}
use Rattle.sig_outside.proofs.CauseLemmas.{appends_prefix, appends_then_prefix, prefix_longer, raised_rose}
use Rattle.sig_command.specs.Moment.{InputState, Moment, OutputCalm, OutputState, OutputStopped}
use Rattle.sig_command.specs.Telling.{Telling, CanStop, IsTextAt, WhyEnded, Wrote, WroteWhole, whole_text}
use Rattle.sig_command.proofs.CountLemmas.{at, output_calm-then, output_stopped-since}
use Rattle.sig_schedules.proofs.ReplayLemmas.{full-number}
use Rattle.sig_command.specs.declared.lines_end.LinesEnd.{LinesEnd}
use Rattle.sig_command.specs.declared.lines_end.LinesEnd.TheVariants.{Done, Stopped, Input, Output, Memory}
use Rattle.sig_command.specs.declared.stop.Stop.TheVariants as stops
use Rattle.sig_fold.specs.Fold.{fold_telling, trust_of}
use Rattle.sig_set.specs.declared.trust.Issuer.{Issuer}
use Rattle.sig_set.specs.declared.trust.Trust.{Trust}
use Rattle.sig_program.specs.declared.command.Command.{Command}
use Rattle.sig_program.specs.declared.command.Command.TheVariants.{Fold, Replay}
use Rattle.sig_program.specs.declared.ending.Ending.{Ending}
use Rattle.sig_program.specs.declared.ending.Ending.TheVariants.{Usage, Ran}
use Rattle.sig_program.specs.Ends.{Cause, EndedBy, Finished, IsTextOf, Spoke, WroteAll, WroteLined, WrotePrefixLined, ending_at, last_line, status_of, telling_of}

-- ---- what was written

-- but where the output stopped, a whole text was written
whole-wrote : (t : Telling) (input : List ℕ) (a b : Moment) (e : LinesEnd) → (Ran e ≡ Ran Output → ⊥) → Wrote t input a b e → WroteWhole t input a b e
whole-wrote t input a b Done other w = w
whole-wrote t input a b (Stopped s) other w = w
whole-wrote t input a b Input other w = w
whole-wrote t input a b Output other w = absurd (other refl)
whole-wrote t input a b Memory other w = w

-- nothing was written
wrote-nothing : (a b : Moment) → b.output.written ≡ a.output.written → Appends a.output.written b.output.written []
wrote-nothing a b same = subst (λ x. Appends a.output.written x []) (sym same) (Appends-nil a.output.written)

spoke-whole : (command : Option Command) (input : List ℕ) (a b : Moment) (e : Ending) → (e ≡ Ran Output → ⊥)
    → Cause command a b e → Spoke command input a b e → (t : List ℕ) × IsTextOf command input b.input.left e t × Appends a.output.written b.output.written t
spoke-whole None input a b Usage other cause same = ([], refl, wrote-nothing a b same)
spoke-whole None input a b (Ran Done) other cause same = absurd cause
spoke-whole None input a b (Ran (Stopped s)) other cause same = absurd cause
spoke-whole None input a b (Ran Input) other cause same = absurd cause
spoke-whole None input a b (Ran Output) other cause same = absurd (other refl)
spoke-whole None input a b (Ran Memory) other cause same = ([], refl, wrote-nothing a b same)
spoke-whole (Some c) input a b Usage other cause w = absurd w
spoke-whole (Some c) input a b (Ran e) other cause w =
    let whole = whole-wrote (telling_of c) input a b e other w in (whole.0, whole.1, whole.2)

-- an ending other than a stopped output
lined-all : (command : Option Command) (input : List ℕ) (a b : Moment) (e : Ending) → (e ≡ Ran Output → ⊥)
    → WroteLined command input a b e → WroteAll command input a b e
lined-all command input a b Usage other w = w
lined-all command input a b (Ran Done) other w = w
lined-all command input a b (Ran (Stopped s)) other w = w
lined-all command input a b (Ran Input) other w = w
lined-all command input a b (Ran Output) other w = absurd (other refl)
lined-all command input a b (Ran Memory) other w = w

-- the text and then the last line were written
spoke-lined : (command : Option Command) (input : List ℕ) (a : Moment) (i : InputState) (m b : OutputState) (e : Ending) → (e ≡ Ran Output → ⊥)
    → Cause command a (at i m) e → Spoke command input a (at i m) e → Appends m.written b.written (last_line e) → WroteAll command input a (at i b) e
spoke-lined command input a i m b e other cause s put =
    let w = spoke-whole command input a (at i m) e other cause s in
    lined-all command input a (at i b) e other (w.0, w.1, Appends-trans a.output.written m.written b.written w.0 (last_line e) w.2 put)

-- the output stopped after a prefix of the last line
spoke-stopped : (command : Option Command) (input : List ℕ) (a : Moment) (i : InputState) (m b : OutputState) (e : Ending) → (e ≡ Ran Output → ⊥)
    → Cause command a (at i m) e → Spoke command input a (at i m) e → AppendsPrefix m.written b.written (last_line e) → WrotePrefixLined command input a (at i b)
spoke-stopped command input a i m b e other cause s put =
    let w = spoke-whole command input a (at i m) e other cause s in
    (e, w.0, w.1, appends_then_prefix a.output.written m.written b.written w.0 (last_line e) w.2 put)

-- the output stopped before the last line
spoke-prefix : (command : Option Command) (input : List ℕ) (a b : Moment) → Spoke command input a b (Ran Output) → WrotePrefixLined command input a b
spoke-prefix None input a b same =
    (Usage, [], refl, appends_prefix a.output.written b.output.written (last_line Usage) [] (last_line Usage) refl (wrote-nothing a b same))
spoke-prefix (Some c) input a b w = (Ran w.0, w.1, w.2, prefix_longer a.output.written b.output.written w.1 (last_line (Ran w.0)) w.3)

-- an ending without last line is written as it stands
spoke-unlined : (command : Option Command) (input : List ℕ) (a : Moment) (i : InputState) (m b : OutputState) (e : Ending) → last_line e ≡ [] → b.written ≡ m.written
    → Cause command a (at i m) e → Spoke command input a (at i m) e → WroteAll command input a (at i b) e
spoke-unlined command input a i m b Usage none same cause s = cc
spoke-unlined command input a i m b (Ran Done) none same cause s =
    spoke-lined command input a i m b (Ran Done) (λ is. cc) cause s (wrote-nothing (at i m) (at i b) same)
spoke-unlined command input a i m b (Ran (Stopped (stops.Line n))) none same cause s = cc
spoke-unlined command input a i m b (Ran (Stopped (stops.Full n))) none same cause s = cc
spoke-unlined command input a i m b (Ran Input) none same cause s = cc
spoke-unlined command input a i m b (Ran Output) none same cause s =
    let w = spoke-prefix command input a (at i m) s in
    (w.0, w.1, w.2, subst (λ x. AppendsPrefix a.output.written x (w.1 ++ last_line w.0)) (sym same) w.3)
spoke-unlined command input a i m b (Ran Memory) none same cause s = cc

wrote-finished : (command : Option Command) (input : List ℕ) (a : Moment) (i : InputState) (m b : OutputState) (ending e : Ending)
    → Cause command a (at i m) ending → Spoke command input a (at i m) ending → Finished ending m b e → WroteAll command input a (at i b) e
wrote-finished command input a i m b ending e cause s (inl u) =
    subst (WroteAll command input a (at i b)) (sym u.1) (spoke-unlined command input a i m b ending u.0 u.2.0 cause s)
wrote-finished command input a i m b ending e cause s (inr (inl l)) =
    subst (WroteAll command input a (at i b)) (sym l.0) (spoke-lined command input a i m b ending l.1 cause s l.2)
wrote-finished command input a i m b ending e cause s (inr (inr f)) =
    subst (WroteAll command input a (at i b)) (sym f.0) (spoke-stopped command input a i m b ending f.1 cause s f.2)

-- the words are a command, and it wrote so
pub spoke-some : (command : Option Command) (c : Command) (told : Option (List ℕ)) (a b : Moment) (e : LinesEnd) → Some c ≡ command
    → IfSome told (λ input. Wrote (telling_of c) input a b e) → IfSome told (λ input. Spoke command input a b (Ran e))
spoke-some command c told a b e is h = subst (λ o. IfSome told (λ input. Spoke o input a b (Ran e))) is h

-- the command is `fold`, and it wrote so
pub fold-wrote : (c : Command) (issuer : Issuer) (aud : List ℕ) (told : Option (List ℕ)) (a b : Moment) (e : LinesEnd) → Fold issuer aud ≡ c
    → IfSome told (λ input. Wrote (telling_of (Fold issuer aud)) input a b e) → IfSome told (λ input. Wrote (telling_of c) input a b e)
fold-wrote c issuer aud told a b e is h = subst (λ k. IfSome told (λ input. Wrote (telling_of k) input a b e)) is h

-- what a folder with this trust and this issuer's name wrote
pub folder-wrote : (issuer : Issuer) (aud : List ℕ) (trust : Trust) (name : List ℕ) (told : Option (List ℕ)) (a b : Moment) (e : LinesEnd)
    → trust ≡ trust_of issuer aud → name ≡ issuer.iss → IfSome told (λ input. Wrote (fold_telling trust name) input a b e)
    → IfSome told (λ input. Wrote (telling_of (Fold issuer aud)) input a b e)
folder-wrote issuer aud trust name told a b e trusts named h =
    subst (λ n. IfSome told (λ input. Wrote (fold_telling (trust_of issuer aud) n) input a b e)) named
    (subst (λ t. IfSome told (λ input. Wrote (fold_telling t name) input a b e)) trusts h)

-- what the command `replay` wrote
pub replay-wrote : (c : Command) (told : Option (List ℕ)) (a b : Moment) (e : LinesEnd) → Replay ≡ c
    → IfSome told (λ input. Wrote (telling_of Replay) input a b e) → IfSome told (λ input. Wrote (telling_of c) input a b e)
replay-wrote c told a b e is h = subst (λ k. IfSome told (λ input. Wrote (telling_of k) input a b e)) is h

-- where memory ended before the words were known, nothing was written
pub spoke-nothing : (command : Option Command) (told : Option (List ℕ)) (a : Moment) → IfSome told (λ input. Spoke command input a a (Ran Memory))
spoke-nothing command None a = tt
spoke-nothing None (Some input) a = refl
spoke-nothing (Some c) (Some input) a = ([], (whole_text (telling_of c) input, refl), Appends-nil a.output.written)

-- ---- why it ended

stopped-calm : (a m b : OutputState) → OutputStopped a m → OutputCalm m b → OutputStopped a b
stopped-calm a m b (inl h) calm = inl (subst (Raised a.faults) (sym calm.0) h.0, calm.1 ∙ h.1)
stopped-calm a m b (inr h) calm = inr (subst (Raised a.stalls) (sym calm.1) h.0, calm.0 ∙ h.1)

-- what is put after the ending leaves its cause
why-calm : (t : Telling) (a : Moment) (i : InputState) (m b : OutputState) (e : LinesEnd) → OutputCalm m b → WhyEnded t a (at i m) e → WhyEnded t a (at i b) e
why-calm t a i m b Done calm h = (h.0, output_calm-then a.output m b h.1 calm)
why-calm t a i m b (Stopped s) calm h = (h.0, (h.1.0, output_calm-then a.output m b h.1.1 calm))
why-calm t a i m b Input calm h = (h.0, output_calm-then a.output m b h.1 calm)
why-calm t a i m b Output calm h = (h.0, stopped-calm a.output m b h.1 calm)
why-calm t a i m b Memory calm h = (h.0, output_calm-then a.output m b h.1 calm)

-- the output stopped after it
why-stopped : (t : Telling) (a : Moment) (i : InputState) (m b : OutputState) (e : LinesEnd) → (Ran e ≡ Ran Output → ⊥) → OutputStopped m b → WhyEnded t a (at i m) e
    → WhyEnded t a (at i b) Output
why-stopped t a i m b Done other stopped h = (inl h.0, output_stopped-since a.output m b h.1 stopped)
why-stopped t a i m b (Stopped s) other stopped h = (inl h.1.0, output_stopped-since a.output m b h.1.1 stopped)
why-stopped t a i m b Input other stopped h = (inr h.0, output_stopped-since a.output m b h.1 stopped)
why-stopped t a i m b Output other stopped h = absurd (other refl)
why-stopped t a i m b Memory other stopped h = (inl h.0, output_stopped-since a.output m b h.1 stopped)

cause-calm : (command : Option Command) (a : Moment) (i : InputState) (m b : OutputState) (e : Ending) → OutputCalm m b → Cause command a (at i m) e → Cause command a (at i b) e
cause-calm None a i m b Usage calm h = (h.0, output_calm-then a.output m b h.1 calm)
cause-calm None a i m b (Ran Done) calm h = h
cause-calm None a i m b (Ran (Stopped s)) calm h = h
cause-calm None a i m b (Ran Input) calm h = h
cause-calm None a i m b (Ran Output) calm h = (h.0, stopped-calm a.output m b h.1 calm)
cause-calm None a i m b (Ran Memory) calm h = (h.0, output_calm-then a.output m b h.1 calm)
cause-calm (Some c) a i m b Usage calm h = h
cause-calm (Some c) a i m b (Ran e) calm h = why-calm (telling_of c) a i m b e calm h

cause-stopped : (command : Option Command) (a : Moment) (i : InputState) (m b : OutputState) (e : Ending) → (e ≡ Ran Output → ⊥) → OutputStopped m b
    → Cause command a (at i m) e → Cause command a (at i b) (Ran Output)
cause-stopped None a i m b Usage other stopped h = (h.0, output_stopped-since a.output m b h.1 stopped)
cause-stopped None a i m b (Ran Done) other stopped h = absurd h
cause-stopped None a i m b (Ran (Stopped s)) other stopped h = absurd h
cause-stopped None a i m b (Ran Input) other stopped h = absurd h
cause-stopped None a i m b (Ran Output) other stopped h = absurd (other refl)
cause-stopped None a i m b (Ran Memory) other stopped h = (h.0, output_stopped-since a.output m b h.1 stopped)
cause-stopped (Some c) a i m b Usage other stopped h = absurd h
cause-stopped (Some c) a i m b (Ran e) other stopped h = why-stopped (telling_of c) a i m b e other stopped h

cause-finished : (command : Option Command) (a : Moment) (i : InputState) (m b : OutputState) (ending e : Ending)
    → Cause command a (at i m) ending → Finished ending m b e → Cause command a (at i b) e
cause-finished command a i m b ending e h (inl u) = subst (Cause command a (at i b)) (sym u.1) (cause-calm command a i m b ending u.2.1 h)
cause-finished command a i m b ending e h (inr (inl l)) = subst (Cause command a (at i b)) (sym l.0) (cause-calm command a i m b ending l.3 h)
cause-finished command a i m b ending e h (inr (inr f)) = subst (Cause command a (at i b)) (sym f.0) (cause-stopped command a i m b ending f.1 f.3 h)

-- ---- the ending of the run

some-map : {P Q : List ℕ → Type 0} (o : Option (List ℕ)) → ((x : List ℕ) → P x → Q x) → IfSome o P → IfSome o Q
some-map None f h = tt
some-map (Some x) f h = f x h

pub finished-ends : (command : Option Command) (a : Moment) (i : InputState) (m b : OutputState) (ending e : Ending)
    → Cause command a (at i m) ending → IfSome a.input.left (λ told. Spoke command told a (at i m) ending)
    → Finished ending m b e → EndedBy command a (at i b) e
finished-ends command a i m b ending e cause text finished = record {
  cause = cause-finished command a i m b ending e cause finished;
  text = some-map a.input.left (λ told s. wrote-finished command told a i m b ending e cause s finished) text;
}

-- words that are no command are told by their status
pub usage-ended : (command : Option Command) (a b : Moment) (e : Ending) → EndedBy command a b e → status_of e ≡ 1 → command ≡ None
usage-ended None a b e h is = refl
usage-ended (Some c) a b Usage h is = absurd h.cause
usage-ended (Some c) a b (Ran Done) h is = absurd (omega (arith, is))
usage-ended (Some c) a b (Ran (Stopped (stops.Line n))) h is = absurd (omega (arith, is))
usage-ended (Some c) a b (Ran (Stopped (stops.Full n))) h is = absurd (omega (arith, is))
usage-ended (Some c) a b (Ran Input) h is = absurd (omega (arith, is))
usage-ended (Some c) a b (Ran Output) h is = absurd (omega (arith, is))
usage-ended (Some c) a b (Ran Memory) h is = absurd (omega (arith, is))

-- what was read of a told input is no longer than it
read-within : (input read : List ℕ) (left : Option (List ℕ)) → Consumes (Some input) left read → length read ≤ length input
read-within input read None h = absurd h
read-within input read (Some rest) h = omega (arith, ap length h, length-append read rest)

-- a number by which lines stop a command is 2^62 at least
full-late : (c : Command) (n : ℕ) → CanStop (telling_of c) (stops.Full n) → LAST_NUMBER ≤ n
full-late (Fold issuer aud) n can = absurd (subst (λ o. IfSome o (λ stop. ⊥)) can.1 tt)
full-late Replay n can = let is : LAST_NUMBER < n = full-number can.0 n can.1 in omega (arith, is)

full-least : (c : Command) (n : ℕ) → (n ≡ LAST_NUMBER) ⊎ CanStop (telling_of c) (stops.Full n) → LAST_NUMBER ≤ n
full-least c n (inl is) = omega (arith, is)
full-least c n (inr can) = full-late c n can

-- over an input that is short enough it is the lines that need too great a number
full-ended : (c : Command) (left : Option (List ℕ)) (input : List ℕ) (n : ℕ) → (n ≡ LAST_NUMBER) ⊎ CanStop (telling_of c) (stops.Full n)
    → (text : List ℕ) → IsTextAt (telling_of c) input left (Stopped (stops.Full n)) text → length input < LAST_NUMBER
    → Ran (Stopped (stops.Full n)) ≡ ending_at ((telling_of c).stop (lines input))
full-ended c left input n cause text (inl cut) short =
    let within : length cut.0 ≤ length input = read-within input cut.0 left cut.2.0 in
    absurd (omega (arith, within, cut.1, short, full-least c n cause))
full-ended c left input n cause text (inr stopped) short = ap ending_at (sym stopped.0)

-- without faults, and over an input that is short enough, a command ends as its lines alone say, or out of memory
pub complete-ended : (c : Command) (a b : Moment) (input : List ℕ) (e : Ending)
    → EndedBy (Some c) a b e → a.input.left ≡ Some input → length input < LAST_NUMBER
    → (Rose a.input.faults b.input.faults → ⊥) → (Rose a.output.faults b.output.faults → ⊥) → (Rose a.output.stalls b.output.stalls → ⊥)
    → (e ≡ ending_at ((telling_of c).stop (lines input))) ⊎ (e ≡ Ran Memory)
complete-ended c a b input Usage h told short in_ok out_ok flows = absurd h.cause
complete-ended c a b input (Ran Done) h told short in_ok out_ok flows =
    let wrote = subst (λ o. IfSome o (λ t. WroteLined (Some c) t a b (Ran Done))) told h.text in
    inl (ap ending_at (sym wrote.1.1))
complete-ended c a b input (Ran (Stopped (stops.Line n))) h told short in_ok out_ok flows =
    let wrote = subst (λ o. IfSome o (λ t. WroteLined (Some c) t a b (Ran (Stopped (stops.Line n))))) told h.text in
    inl (ap ending_at (sym wrote.1.0))
complete-ended c a b input (Ran (Stopped (stops.Full n))) h told short in_ok out_ok flows =
    let wrote = subst (λ o. IfSome o (λ t. WroteLined (Some c) t a b (Ran (Stopped (stops.Full n))))) told h.text in
    inl (full-ended c b.input.left input n h.cause.0 wrote.0 wrote.1 short)
complete-ended c a b input (Ran Input) h told short in_ok out_ok flows = absurd (in_ok (raised_rose a.input.faults b.input.faults h.cause.0))
complete-ended c a b input (Ran Output) h told short in_ok out_ok flows =
    absurd (elim h.cause.1 [
      | inl failed ↦ out_ok (raised_rose a.output.faults b.output.faults failed.0)
      | inr stuck ↦ flows (raised_rose a.output.stalls b.output.stalls stuck.0)
    ])
complete-ended c a b input (Ran Memory) h told short in_ok out_ok flows = inr refl

pub complete-status : (command : Option Command) (c : Command) (a b : Moment) (input : List ℕ) (e : Ending) (status : ℕ)
    → EndedBy command a b e → command ≡ Some c → status ≡ status_of e → a.input.left ≡ Some input → length input < LAST_NUMBER
    → (Rose a.input.faults b.input.faults → ⊥) → (Rose a.output.faults b.output.faults → ⊥) → (Rose a.output.stalls b.output.stalls → ⊥)
    → (status ≡ status_of (ending_at ((telling_of c).stop (lines input)))) ⊎ (status ≡ 9)
complete-status command c a b input e status h is of_e told short in_ok out_ok flows =
    elim (complete-ended c a b input e (subst (λ o. EndedBy o a b e) is h) told short in_ok out_ok flows) [
      | inl by_lines ↦ inl (of_e ∙ ap status_of by_lines)
      | inr memory ↦ inr (of_e ∙ ap status_of memory)
    ]
