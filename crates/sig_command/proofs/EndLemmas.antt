-- How the ending of the lines becomes that of the command.
use Rattle.std.proofs.Common.{◌≡◌, ◌∙◌, ap, sym, subst, ℕ, List, [], ◌++◌, Option, None, Some, refl, inl, inr, append_assoc, append-nil}
use Rattle.std.specs.Prelude.{◌⊎◌, IfSome}
use Rattle.std.specs.Io.KnownBytes.{Appends}
use Rattle.std.specs.Str.Lines.{lines}
use Rattle.std.proofs.KnownBytes.{Appends-trans}
use Rattle.sig_outside.specs.Causes.{AppendsPrefix}
use Rattle.sig_outside.proofs.CauseLemmas.{appends_prefix, appends_then_prefix, prefix_longer}
use Rattle.sig_command.specs.declared.lines_end.LinesEnd.{LinesEnd}
use Rattle.sig_command.specs.declared.lines_end.LinesEnd.TheVariants.{Done, Stopped as StoppedSo, Input, Output, Memory}
use Rattle.sig_command.specs.declared.stop.Stop.{Stop}
use Rattle.sig_command.specs.declared.stop.Stop.TheVariants as stops
use Rattle.sig_command.specs.Moment.{Moment}
use Rattle.sig_command.specs.Telling.{Telling, IsStoppedText, IsTextAt, IsTextOfLines, PutSo, Wrote, WrotePrefix, WroteWhole, unless_stopped, whole_text}
use Rattle.sig_command.specs.Progress.{IsStop, LinesEnded, ReadAll, Stopped, StoppedBy}
use Rattle.sig_command.proofs.PutLemmas.{put_join}

-- a prefix of the whole text is what a command has written that gives up
gave_up-prefix : (t : Telling) (input : List ℕ) (a b : Moment) → AppendsPrefix a.output.written b.output.written (whole_text t input) → WrotePrefix t input a b
gave_up-prefix t input a b h = (Memory, h.0, (h.1, h.2), appends_prefix a.output.written b.output.written h.0 h.0 [] (sym (append-nil h.0)) h.3)

gave_up-whole : (t : Telling) (input : List ℕ) (a b : Moment) → AppendsPrefix a.output.written b.output.written (whole_text t input) → WroteWhole t input a b Memory
gave_up-whole t input a b h = (h.0, (h.1, h.2), h.3)

-- a prefix of the lines' text is one of the whole text
lines-gave_up : (t : Telling) (input : List ℕ) (old new : Option (List ℕ)) → AppendsPrefix old new (t.text (lines input)) → AppendsPrefix old new (whole_text t input)
lines-gave_up t input old new h = prefix_longer old new (t.text (lines input)) (unless_stopped (t.stop (lines input)) (t.last (lines input))) h

-- all lines were given, and what follows them ended so
pub last-wrote : (t : Telling) (stands : List (List ℕ) → Type 0) (input gathered : List ℕ) (a b : Moment) (mid : Option (List ℕ)) (e : LinesEnd)
    → ReadAll t stands input b.input.left gathered a.output.written mid → PutSo (gathered ++ t.last (lines input)) mid b.output.written e → Wrote t input a b e
last-wrote t stands input gathered a b mid e all h =
    let last : List ℕ = t.last (lines input) in
    let whole : whole_text t input ≡ all.text ++ (gathered ++ last) =
    ap (λ o. t.text (lines input) ++ unless_stopped o last) all.going ∙ ap (λ text. text ++ last) (sym all.printed) ∙ append_assoc all.text gathered last in
    by_end t input a b e all.told all.going (put_join (whole_text t input) all.text (gathered ++ last) a.output.written mid b.output.written e whole all.wrote h)
  where
    by_end : (t : Telling) (input : List ℕ) (a b : Moment) (e : LinesEnd) → b.input.left ≡ Some [] → t.stop (lines input) ≡ None
        → PutSo (whole_text t input) a.output.written b.output.written e → Wrote t input a b e
    by_end t input a b Done told going h = (whole_text t input, (told, going, refl), h)
    by_end t input a b (StoppedSo s) told going h = absurd h
    by_end t input a b Input told going h = absurd h
    by_end t input a b Output told going h = gave_up-prefix t input a b h
    by_end t input a b Memory told going h = gave_up-whole t input a b h

-- what the lines print that were given before the input stopped
stopped-text : (t : Telling) (input gathered : List ℕ) (left old mid : Option (List ℕ)) → (s : Stopped t input left gathered old mid) → IsTextOfLines t input s.read (s.text ++ gathered)
stopped-text t input gathered left old mid s = record { given = s.given; are = s.are; going = s.going; printed = s.printed }

-- what the lines print up to the one that stopped the command
stopped_by-text : (t : Telling) (input gathered : List ℕ) (left old mid : Option (List ℕ)) (why : Stop) → (s : StoppedBy t input left gathered old mid why)
    → IsStoppedText t input left why (s.text ++ gathered)
stopped_by-text t input gathered left old mid why s = (s.stop, s.printed, s.read, s.consumed, s.by)

-- the text of the lines that stopped, and what was put of it
ended-text : (t : Telling) (stands : List (List ℕ) → Type 0) (input gathered : List ℕ) (left old mid : Option (List ℕ)) (e : LinesEnd) → IsStop e
    → LinesEnded t stands input left gathered old mid e → (text : List ℕ) × IsTextAt t input left e (text ++ gathered) × Appends old mid text
ended-text t stands input gathered left old mid Done stop h = absurd stop
ended-text t stands input gathered left old mid (StoppedSo (stops.Line n)) stop s = (s.text, stopped_by-text t input gathered left old mid (stops.Line n) s, s.wrote)
ended-text t stands input gathered left old mid (StoppedSo (stops.Full n)) stop (inl h) =
    (h.0.text, inl (h.0.read, h.1, (h.0.consumed, stopped-text t input gathered left old mid h.0)), h.0.wrote)
ended-text t stands input gathered left old mid (StoppedSo (stops.Full n)) stop (inr s) =
    (s.text, inr (stopped_by-text t input gathered left old mid (stops.Full n) s), s.wrote)
ended-text t stands input gathered left old mid Input stop s = (s.text, (s.read, (s.consumed, stopped-text t input gathered left old mid s)), s.wrote)
ended-text t stands input gathered left old mid Output stop h = absurd stop
ended-text t stands input gathered left old mid Memory stop h = absurd stop

-- a whole text was written at an ending where the lines stopped
stop-whole : (t : Telling) (input : List ℕ) (a b : Moment) (e : LinesEnd) → IsStop e → WroteWhole t input a b e → Wrote t input a b e
stop-whole t input a b Done stop w = absurd stop
stop-whole t input a b (StoppedSo s) stop w = w
stop-whole t input a b Input stop w = w
stop-whole t input a b Output stop w = absurd stop
stop-whole t input a b Memory stop w = absurd stop

-- the lines stopped, and what is gathered was put
pub stopped-put : (t : Telling) (stands : List (List ℕ) → Type 0) (input gathered : List ℕ) (a b : Moment) (mid : Option (List ℕ)) (e : LinesEnd) → IsStop e
    → LinesEnded t stands input b.input.left gathered a.output.written mid e → Appends mid b.output.written gathered → Wrote t input a b e
stopped-put t stands input gathered a b mid e stop h put =
    let text = ended-text t stands input gathered b.input.left a.output.written mid e stop h in
    stop-whole t input a b e stop (text.0 ++ gathered, text.1, Appends-trans a.output.written mid b.output.written text.0 gathered text.2 put)

-- the lines stopped, and the output after them
pub stopped-failed : (t : Telling) (stands : List (List ℕ) → Type 0) (input gathered : List ℕ) (a b : Moment) (mid : Option (List ℕ)) (e : LinesEnd) → IsStop e
    → LinesEnded t stands input b.input.left gathered a.output.written mid e → AppendsPrefix mid b.output.written gathered → WrotePrefix t input a b
stopped-failed t stands input gathered a b mid e stop h put =
    let text = ended-text t stands input gathered b.input.left a.output.written mid e stop h in
    (e, text.0 ++ gathered, text.1, appends_then_prefix a.output.written mid b.output.written text.0 gathered text.2 put)

-- nothing follows
pub nothing-follows : (t : Telling) (stands : List (List ℕ) → Type 0) (input gathered : List ℕ) (a b : Moment) (e : LinesEnd)
    → (e ≡ Output) ⊎ (e ≡ Memory) → LinesEnded t stands input b.input.left gathered a.output.written b.output.written e → Wrote t input a b e
nothing-follows t stands input gathered a b e (inl is) h =
    subst (λ x. Wrote t input a b x) (sym is)
    (gave_up-prefix t input a b (lines-gave_up t input a.output.written b.output.written (subst (LinesEnded t stands input b.input.left gathered a.output.written b.output.written) is h)))
nothing-follows t stands input gathered a b e (inr is) h =
    subst (λ x. Wrote t input a b x) (sym is)
    (gave_up-whole t input a b (lines-gave_up t input a.output.written b.output.written (subst (LinesEnded t stands input b.input.left gathered a.output.written b.output.written) is h)))

pub some-map : {P Q : List ℕ → Type 0} (o : Option (List ℕ)) → ((x : List ℕ) → P x → Q x) → IfSome o P → IfSome o Q
some-map None f h = tt
some-map (Some x) f h = f x h
