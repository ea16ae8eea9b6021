-- How a command comes on, line by line.
use Rattle.std.proofs.Common.{◌≡◌, ◌∙◌, ap, sym, subst, ℕ, ◌+◌, List, [], ◌∷◌, ◌++◌, length, Option, Some, refl, inl, inr, arith, append_assoc, append-nil, length-append}
use Rattle.std.proofs.lemmas.List.{append_cancel_right, length-replicate}
use Rattle.std.specs.Prelude.{◌⊎◌, Result, Ok, Err, OnOk, None, IfSome, replicate}
use Rattle.std.specs.Io.KnownBytes.{Appends, Consumes}
use Rattle.std.specs.Str.Lines.{lines, strip_carriage_return}
use Rattle.std.proofs.KnownBytes.{Appends-trans, Appends-nil}
use Rattle.sig_outside.specs.Causes.{AppendsPrefix}
use Rattle.sig_outside.specs.Lines.{Cuts, HasNoLf, Gives, Stops, number_after}
use Rattle.sig_outside.specs.Reading.{IsFailing, IsOpen, Reading}
use Rattle.sig_outside.specs.declared.mode.Mode.TheVariants as modes
use Rattle.sig_outside.specs.declared.line.Line.{Line}
use Rattle.sig_outside.specs.declared.line.Line.TheVariants.{Text, Long, End}
use Rattle.sig_outside.specs.declared.line.LineFault.{LineFault}
use Rattle.sig_outside.specs.declared.line.LineFault.TheVariants as faults
use Rattle.sig_outside.proofs.CauseLemmas.{appends_prefix, appends_then_prefix, prefix_longer}
use Rattle.sig_outside.proofs.LineLemmas.{lines_first, cuts_lines}
use Rattle.sig_command.specs.declared.lines_end.LinesEnd.{LinesEnd}
use Rattle.sig_command.specs.declared.lines_end.LinesEnd.TheVariants as ends
use Rattle.sig_command.specs.Moment.{Calm, InputCalm, InputFailed, Moment, OutputCalm}
use Rattle.sig_command.specs.declared.stop.Stop.{Stop}
use Rattle.sig_command.specs.declared.stop.Stop.TheVariants as stops
use Rattle.sig_command.specs.Telling.{Telling, AreLinesOf, IsLineOf, WhyEnded, WhyStopped}
use Rattle.sig_json.specs.declared.limits.TheConstants.{LAST_NUMBER}
use Rattle.sig_command.specs.WholeLines.{whole_lines}
use Rattle.sig_command.specs.Progress.{EndsWith, Progress, Standing, Stopped, StoppedBy, ReadAll, LinesEnded, NotTaken, Stood, Telt, Untold, bytes_in, ending_by}
use Rattle.sig_command.proofs.WholeLines.{whole_lines-first, whole_lines-none}

-- ---- the prefix of the input

-- a line with its LF is added to the prefix
ends_with-more : (prefix part : List ℕ) (given : List (List ℕ)) → HasNoLf part → EndsWith prefix given
    → EndsWith (prefix ++ (part ++ 10 ∷ [])) (given ++ strip_carriage_return part ∷ [])
ends_with-more prefix part given none ends = record {
  whole = λ rest.
      ap whole_lines (append_assoc prefix (part ++ 10 ∷ []) rest ∙ ap (λ bytes. prefix ++ bytes) (append_assoc part (10 ∷ []) rest))
      ∙ ends.whole (part ++ 10 ∷ rest) ∙ ap (λ ls. given ++ ls) (whole_lines-first part rest none)
      ∙ sym (append_assoc given (strip_carriage_return part ∷ []) (whole_lines rest));
  each = λ rest.
      ap lines (append_assoc prefix (part ++ 10 ∷ []) rest ∙ ap (λ bytes. prefix ++ bytes) (append_assoc part (10 ∷ []) rest))
      ∙ ends.each (part ++ 10 ∷ rest) ∙ ap (λ ls. given ++ ls) (lines_first part rest none)
      ∙ sym (append_assoc given (strip_carriage_return part ∷ []) (lines rest));
}

nil_left : (xs ys : List ℕ) → xs ++ ys ≡ [] → xs ≡ []
nil_left [] ys h = refl
nil_left (x ∷ xs) ys h = cc

nil_right : (xs ys : List ℕ) → xs ++ ys ≡ [] → ys ≡ []
nil_right [] ys h = h
nil_right (x ∷ xs) ys h = cc

-- the lines of the whole input are those that were given, and others
pub others_of : (input kept rest : List ℕ) (given : List (List ℕ)) → Progress input kept rest given → (others : List (List ℕ)) × (lines input ≡ given ++ others)
others_of input kept rest given p =
    elim p.so_far [
      | inl ends ↦ (lines (kept ++ rest), ap lines p.parts ∙ ends.each (kept ++ rest))
      | inr all ↦ ([], sym all.all ∙ sym (append-nil given))
    ]

-- where nothing is kept or left, all lines were given
pub all_given : (input kept rest : List ℕ) (given : List (List ℕ)) → Progress input kept rest given → kept ++ rest ≡ [] → given ≡ lines input
all_given input kept rest given p none =
    elim p.so_far [
      | inl ends ↦ sym (ap lines (p.parts ∙ ap (λ bytes. p.prefix ++ bytes) none) ∙ ends.each [] ∙ append-nil given)
      | inr all ↦ all.all
    ]

-- no line is cut off of nothing
not_cut : (line rest : List ℕ) → Cuts [] line rest → ⊥
not_cut line rest (inl k) = no_lf k.0 k.1
  where
    no_lf : (prefix : List ℕ) → [] ≡ prefix ++ 10 ∷ rest → ⊥
    no_lf [] e = cc
    no_lf (b ∷ prefix) e = cc
not_cut line rest (inr k) = let none : length line ≡ 0 = sym (ap length k.0) in absurd (omega (arith, none, k.3))

-- one line is cut off
pub progress-more : (input kept rest kept' rest' line : List ℕ) (given : List (List ℕ)) → Progress input kept rest given
    → Cuts (kept ++ rest) line (kept' ++ rest') → Progress input kept' rest' (given ++ line ∷ [])
progress-more input kept rest kept' rest' line given p (inl k) =
    elim p.so_far [
      | inl ends ↦ record {
        prefix = p.prefix ++ (k.0 ++ 10 ∷ []);
        parts = p.parts ∙ ap (λ bytes. p.prefix ++ bytes) (k.1 ∙ sym (append_assoc k.0 (10 ∷ []) (kept' ++ rest'))) ∙ sym (append_assoc p.prefix (k.0 ++ 10 ∷ []) (kept' ++ rest'));
        so_far = inl (subst (λ l. EndsWith (p.prefix ++ (k.0 ++ 10 ∷ [])) (given ++ l ∷ [])) (sym k.3) (ends_with-more p.prefix k.0 given k.2 ends));
      }
      | inr all ↦ absurd (not_cut line (kept' ++ rest') (subst (λ bytes. Cuts bytes line (kept' ++ rest')) (ap (λ bytes. bytes ++ rest) all.none_kept ∙ all.none_left) (inl k)))
    ]
progress-more input kept rest kept' rest' line given p (inr k) =
    elim p.so_far [
      | inl ends ↦ record {
        prefix = input;
        parts = sym (ap (λ bytes. input ++ bytes) k.1 ∙ append-nil input);
        so_far = inr (record {
          none_kept = nil_left kept' rest' k.1;
          none_left = nil_right kept' rest' k.1;
          all = sym (ap lines p.parts ∙ ends.each (kept ++ rest) ∙ ap (λ ls. given ++ ls) (cuts_lines (kept ++ rest) line (kept' ++ rest') (inr k) ∙ ap (λ bytes. line ∷ lines bytes) k.1));
        });
      }
      | inr all ↦ absurd (not_cut line (kept' ++ rest') (subst (λ bytes. Cuts bytes line (kept' ++ rest')) (ap (λ bytes. bytes ++ rest) all.none_kept ∙ all.none_left) (inr k)))
    ]

-- a line that is cut off of all that is kept and left is cut off of what was read
cuts-read : (kept more after kept' line left : List ℕ) → left ≡ more ++ after → Cuts (kept ++ left) line (kept' ++ after) → Cuts (kept ++ more) line kept'
cuts-read kept more after kept' line left parts (inl k) = inl (
  k.0,
  append_cancel_right (kept ++ more) (k.0 ++ 10 ∷ kept') after
      (append_assoc kept more after ∙ ap (λ bytes. kept ++ bytes) (sym parts) ∙ k.1 ∙ sym (append_assoc k.0 (10 ∷ kept') after)),
  k.2,
  k.3,
)
cuts-read kept more after kept' line left parts (inr k) =
    let none : after ≡ [] = nil_right kept' after k.1 in inr (
      ap (λ bytes. kept ++ bytes) (sym (parts ∙ ap (λ bytes. more ++ bytes) none ∙ append-nil more)) ∙ k.0,
      nil_left kept' after k.1,
      k.2,
      k.3,
    )

-- the lines of what was read are those that were given, the one that is cut off, and others
lines-read : (input kept rest more after kept' line : List ℕ) (given : List (List ℕ)) → (p : Progress input kept rest given) → rest ≡ more ++ after
    → Cuts (kept ++ rest) line (kept' ++ after) → (others : List (List ℕ)) × (lines (p.prefix ++ (kept ++ more)) ≡ (given ++ line ∷ []) ++ others)
lines-read input kept rest more after kept' line given p parts cut =
    let read : List ℕ = p.prefix ++ (kept ++ more) in
    let short : Cuts (kept ++ more) line (kept' ++ []) = subst (Cuts (kept ++ more) line) (sym (append-nil kept')) (cuts-read kept more after kept' line rest parts cut) in
    elim p.so_far [
      | inl ends ↦ others_of read kept' [] (given ++ line ∷ [])
          (progress-more read kept more kept' [] line given (record { prefix = p.prefix; parts = refl; so_far = inl ends }) short)
      | inr all ↦ absurd (not_cut line (kept' ++ after) (subst (λ bytes. Cuts bytes line (kept' ++ after)) (ap (λ bytes. bytes ++ rest) all.none_kept ∙ all.none_left) cut))
    ]

-- ---- standing between two lines

-- more lines print more
abbrev pub Grows : Telling → Type 0
Grows t = (given more : List (List ℕ)) → (rest : List ℕ) × (t.text (given ++ more) ≡ t.text given ++ rest)

-- what stopped the command stops it with more lines too
abbrev pub Stays : Telling → Type 0
Stays t = (given more : List (List ℕ)) (s : Stop) → t.stop given ≡ Some s → (t.stop (given ++ more) ≡ Some s) × (t.text (given ++ more) ≡ t.text given)

-- before the first line
pub standing-first : (t : Telling) (stands : List (List ℕ) → Type 0) (input : List ℕ) (reader : Reading) (left : Option (List ℕ)) (gathered : List ℕ) (old : Option (List ℕ))
    → left ≡ Some input → reader.kept ≡ [] → reader.number ≡ 0 → reader.taken ≡ 0 → stands [] → t.stop [] ≡ None → t.text [] ≡ [] → gathered ≡ []
    → Standing t stands input reader left gathered old old
standing-first t stands input reader left gathered old told kept number taken stood going none nothing = record {
  given = [];
  rest = input;
  told = told;
  progress = record {
    prefix = [];
    parts = ap (λ bytes. bytes ++ input) (sym kept);
    so_far = inl (record { whole = λ rest. refl; each = λ rest. refl });
  };
  number = number;
  taken = taken ∙ ap length (sym kept);
  stood = stood;
  going = going;
  text = [];
  wrote = Appends-nil old;
  printed = nothing ∙ sym none;
}

-- a part of what was gathered is put
pub standing-put : (t : Telling) (stands : List (List ℕ) → Type 0) (input : List ℕ) (reader : Reading) (left : Option (List ℕ)) (gathered gathered' text : List ℕ) (old now new : Option (List ℕ))
    → text ++ gathered' ≡ gathered → Appends now new text → Standing t stands input reader left gathered old now
    → Standing t stands input reader left gathered' old new
standing-put t stands input reader left gathered gathered' text old now new parts put s = record {
  given = s.given;
  rest = s.rest;
  told = s.told;
  progress = s.progress;
  number = s.number;
  taken = s.taken;
  stood = s.stood;
  going = s.going;
  text = s.text ++ text;
  wrote = Appends-trans old now new s.text text s.wrote put;
  printed = append_assoc s.text text gathered' ∙ ap (λ bytes. s.text ++ bytes) parts ∙ s.printed;
}

-- the text of the lines so far begins that of the whole input
standing-whole : (t : Telling) (stands : List (List ℕ) → Type 0) (input : List ℕ) (reader : Reading) (left : Option (List ℕ)) (gathered : List ℕ) (old now : Option (List ℕ))
    → Grows t → (s : Standing t stands input reader left gathered old now)
    → (more : List ℕ) × (t.text (lines input) ≡ (s.text ++ gathered) ++ more)
standing-whole t stands input reader left gathered old now grows s =
    let others = others_of input reader.kept s.rest s.given s.progress in
    let whole = grows s.given others.0 in
    (whole.0, ap t.text others.1 ∙ whole.1 ∙ ap (λ text. text ++ whole.0) (sym s.printed))

-- it gives up: a prefix of the whole text is written
pub standing-given_up : (t : Telling) (stands : List (List ℕ) → Type 0) (input : List ℕ) (reader : Reading) (left : Option (List ℕ)) (gathered : List ℕ) (old now : Option (List ℕ))
    → Grows t → Standing t stands input reader left gathered old now → AppendsPrefix old now (t.text (lines input))
standing-given_up t stands input reader left gathered old now grows s =
    let whole = standing-whole t stands input reader left gathered old now grows s in
    appends_prefix old now _ s.text (gathered ++ whole.0) (whole.1 ∙ append_assoc s.text gathered whole.0) s.wrote

-- what is gathered can't be put: a prefix of the whole text is written
pub standing-put_failed : (t : Telling) (stands : List (List ℕ) → Type 0) (input : List ℕ) (reader : Reading) (left : Option (List ℕ)) (gathered : List ℕ) (old now new : Option (List ℕ))
    → Grows t → AppendsPrefix now new gathered → Standing t stands input reader left gathered old now
    → AppendsPrefix old new (t.text (lines input))
standing-put_failed t stands input reader left gathered old now new grows prefix s =
    let whole = standing-whole t stands input reader left gathered old now grows s in
    subst (AppendsPrefix old new) (sym whole.1) (prefix_longer old new (s.text ++ gathered) whole.0 (appends_then_prefix old now new s.text gathered s.wrote prefix))

-- ---- what the reader gives

-- the bytes of a line that is given
line_bytes : (room : ℕ) (line : Line) (old new : Reading) (rest : List ℕ) (left : Option (List ℕ)) (g : Gives room line old new rest left) → (line ≡ End → ⊥)
    → (bytes : List ℕ) × IsLineOf room (bytes_in line) bytes × Cuts (old.kept ++ rest) bytes (new.kept ++ g.took.after)
line_bytes room (Text number bytes) old new rest left g some = (bytes, refl, g.first.2)
line_bytes room (Long number) old new rest left g some = (g.first.1.0, g.first.1.1, g.first.1.2)
line_bytes room End old new rest left g some = absurd (some refl)

-- a line that is there has some bytes, told or not
pub some_bytes : (room : ℕ) (line : Line) → (line ≡ End → ⊥) → (bytes : List ℕ) × IsLineOf room (bytes_in line) bytes
some_bytes room (Text number bytes) some = (bytes, refl)
some_bytes room (Long number) some = (replicate (room + 1) 0, omega (arith, length-replicate {A = ℕ} (room + 1) 0))
some_bytes room End some = absurd (some refl)

-- what was taken is the prefix and what is kept
taken-more : (input prefix kept rest more after prefix' kept' : List ℕ) (taken taken' : ℕ) → input ≡ prefix ++ (kept ++ rest) → rest ≡ more ++ after
    → input ≡ prefix' ++ (kept' ++ after) → taken ≡ length (prefix ++ kept) → taken' ≡ taken + length more → taken' ≡ length (prefix' ++ kept')
taken-more input prefix kept rest more after prefix' kept' taken taken' one two three is more_is =
    omega (arith, ap length one, ap length two, ap length three, length-append {A = ℕ})

-- a line is given and taken
pub standing-told : (t : Telling) (stood stands : List (List ℕ) → Type 0) (room before : ℕ) (input : List ℕ) (reader reader' : Reading) (left left' : Option (List ℕ)) (gathered gathered' : List ℕ)
    (old now : Option (List ℕ)) (line : Line) → (s : Standing t stood input reader left gathered old now)
    → Gives room line reader reader' s.rest left' → (line ≡ End → ⊥) → reader.number ≡ before → reader'.number ≡ before + 1
    → Telt t stood stands room before line gathered gathered'
    → Standing t stands input reader' left' gathered' old now
standing-told t stood stands room before input reader reader' left left' gathered gathered' old now line s g some counted number telt =
    let b = line_bytes room line reader reader' s.rest left' g some in
    let p : Progress input reader'.kept g.took.after (s.given ++ b.0 ∷ []) = progress-more input reader.kept s.rest reader'.kept g.took.after b.0 s.given s.progress b.2 in
    let told = telt s.given b.0 s.stood s.going (ap (λ n. n + 1) (sym counted ∙ s.number)) b.1 in
    record {
      given = s.given ++ b.0 ∷ [];
      rest = g.took.after;
      told = g.took.told;
      progress = p;
      number = omega (arith, number, counted, s.number, length-append s.given (b.0 ∷ []));
      taken = taken-more input s.progress.prefix reader.kept s.rest g.took.more g.took.after p.prefix reader'.kept reader.taken reader'.taken s.progress.parts g.took.parts p.parts s.taken g.took.taken;
      stood = told.0;
      going = told.1;
      text = s.text;
      wrote = s.wrote;
      printed =
          ap (λ bytes. s.text ++ bytes) told.3 ∙ sym (append_assoc s.text gathered told.2)
          ∙ ap (λ bytes. bytes ++ told.2) s.printed ∙ sym told.4;
    }

-- what was read, and what is left
read_parts : (input prefix kept rest more after : List ℕ) → input ≡ prefix ++ (kept ++ rest) → rest ≡ more ++ after → input ≡ (prefix ++ (kept ++ more)) ++ after
read_parts input prefix kept rest more after one two =
    one ∙ ap (λ bytes. prefix ++ (kept ++ bytes)) two
    ∙ sym (append_assoc prefix (kept ++ more) after ∙ ap (λ bytes. prefix ++ bytes) (append_assoc kept more after))

-- a line is given, and stops the command
pub standing-stopped_by : (t : Telling) (stood : List (List ℕ) → Type 0) (room before : ℕ) (input : List ℕ) (reader reader' : Reading) (left left' : Option (List ℕ)) (gathered : List ℕ)
    (old now : Option (List ℕ)) (line : Line) (why : Stop) → Stays t → (s : Standing t stood input reader left gathered old now)
    → Gives room line reader reader' s.rest left' → (line ≡ End → ⊥) → reader.number ≡ before
    → ((given : List (List ℕ)) (bytes : List ℕ) → stood given → t.stop given ≡ None → before + 1 ≡ length given + 1 → IsLineOf room (bytes_in line) bytes
    → (t.stop (given ++ bytes ∷ []) ≡ Some why) × (t.text (given ++ bytes ∷ []) ≡ t.text given))
    → StoppedBy t input left' gathered old now why
standing-stopped_by t stood room before input reader reader' left left' gathered old now line why stays s g some counted stops =
    let b = line_bytes room line reader reader' s.rest left' g some in
    let p : Progress input reader'.kept g.took.after (s.given ++ b.0 ∷ []) = progress-more input reader.kept s.rest reader'.kept g.took.after b.0 s.given s.progress b.2 in
    let here = stops s.given b.0 s.stood s.going (ap (λ n. n + 1) (sym counted ∙ s.number)) b.1 in
    let others = others_of input reader'.kept g.took.after (s.given ++ b.0 ∷ []) p in
    let on = stays (s.given ++ b.0 ∷ []) others.0 why here.0 in
    let read : List ℕ = s.progress.prefix ++ (reader.kept ++ g.took.more) in
    let more_read = lines-read input reader.kept s.rest g.took.more g.took.after reader'.kept b.0 s.given s.progress g.took.parts b.2 in
    record {
      stop = ap t.stop others.1 ∙ on.0;
      read = read;
      consumed = subst (λ o. Consumes (Some input) o read) (sym g.took.told) (read_parts input s.progress.prefix reader.kept s.rest g.took.more g.took.after s.progress.parts g.took.parts);
      by = ap t.stop more_read.1 ∙ (stays (s.given ++ b.0 ∷ []) more_read.0 why here.0).0;
      text = s.text;
      wrote = s.wrote;
      printed = s.printed ∙ sym (ap t.text others.1 ∙ on.1 ∙ here.1);
    }

-- the input has ended
pub standing-ended : (t : Telling) (stands : List (List ℕ) → Type 0) (room : ℕ) (input : List ℕ) (reader reader' : Reading) (left left' : Option (List ℕ)) (gathered : List ℕ) (old now : Option (List ℕ))
    → (s : Standing t stands input reader left gathered old now) → Gives room End reader reader' s.rest left'
    → ReadAll t stands input left' gathered old now
standing-ended t stands room input reader reader' left left' gathered old now s g =
    let all = all_given input reader.kept s.rest s.given s.progress g.first.0 in
    record {
      told = g.took.told ∙ ap Some (nil_right reader'.kept g.took.after g.first.1);
      stood = subst stands all s.stood;
      going = sym (ap t.stop all) ∙ s.going;
      text = s.text;
      wrote = s.wrote;
      printed = s.printed ∙ ap t.text all;
    }

-- the lines that were given before the reader stopped
lines_of_read : (input kept rest more after : List ℕ) (given : List (List ℕ)) → (p : Progress input kept rest given) → rest ≡ more ++ after → HasNoLf (kept ++ more)
    → AreLinesOf given input (p.prefix ++ (kept ++ more))
lines_of_read input kept rest more after given p parts within =
    elim p.so_far [
      | inl ends ↦ inl (sym (ends.whole (kept ++ more) ∙ ap (λ ls. given ++ ls) (whole_lines-none (kept ++ more) within) ∙ append-nil given))
      | inr all ↦ inr (
        sym (p.parts ∙ ap (λ bytes. p.prefix ++ (kept ++ bytes)) (all.none_left ∙ sym (nil_left more after (sym parts ∙ all.none_left)))),
        all.all,
      )
    ]

-- the reader stopped within a line
pub standing-stopped : (t : Telling) (stands : List (List ℕ) → Type 0) (input : List ℕ) (reader reader' : Reading) (left left' : Option (List ℕ)) (gathered : List ℕ) (old now : Option (List ℕ))
    → (s : Standing t stands input reader left gathered old now) → Stops reader reader' s.rest left'
    → (stopped : Stopped t input left' gathered old now) × (length stopped.read ≡ reader'.taken)
standing-stopped t stands input reader reader' left left' gathered old now s stops =
    let read : List ℕ = s.progress.prefix ++ (reader.kept ++ stops.took.more) in
    let parts : input ≡ read ++ stops.took.after = read_parts input s.progress.prefix reader.kept s.rest stops.took.more stops.took.after s.progress.parts stops.took.parts in (
      record {
        read = read;
        consumed = subst (λ o. Consumes (Some input) o read) (sym stops.took.told) parts;
        given = s.given;
        are = lines_of_read input reader.kept s.rest stops.took.more stops.took.after s.given s.progress stops.took.parts stops.within;
        going = s.going;
        text = s.text;
        wrote = s.wrote;
        printed = s.printed;
      },
      omega (arith, s.taken, stops.took.taken, length-append {A = ℕ}),
    )

-- a line that is there is counted
pub number-more : (line : Line) (before : ℕ) → (line ≡ End → ⊥) → number_after before line ≡ before + 1
number-more (Text number bytes) before some = refl
number-more (Long number) before some = refl
number-more End before some = absurd (some refl)

-- a fact on a success gives another
pub on_ok_map : {T E A B : Type 0} (r : Result T E) → (A → B) → OnOk r A → OnOk r B
on_ok_map (Ok x) f a = f a
on_ok_map (Err e) f a = tt

-- two facts on a success give a third
pub on_ok_two : {T E A B C : Type 0} (r : Result T E) → (A → B → C) → OnOk r A → OnOk r B → OnOk r C
on_ok_two (Ok x) f a b = f a b
on_ok_two (Err e) f a b = tt

-- how it ends at the end of the input
ended-so : (t : Telling) (stood stands : List (List ℕ) → Type 0) (room : ℕ) (input : List ℕ) (reader reader' : Reading) (left left' : Option (List ℕ)) (gathered gathered' : List ℕ)
    (old now : Option (List ℕ)) (line : Line) → (s : Standing t stood input reader left gathered old now) → Gives room line reader reader' s.rest left'
    → line ≡ End → ((given : List (List ℕ)) → stood given → stands given) → gathered' ≡ gathered → ReadAll t stands input left' gathered' old now
ended-so t stood stands room input reader reader' left left' gathered gathered' old now line s g is same nothing =
    let at_end : Gives room End reader reader' s.rest left' = subst (λ l. Gives room l reader reader' s.rest left') is g in
    let ended : ReadAll t stood input left' gathered old now = standing-ended t stood room input reader reader' left left' gathered old now s at_end in
    subst (λ bytes. ReadAll t stands input left' bytes old now) (sym nothing)
    (record { told = ended.told; stood = same (lines input) ended.stood; going = ended.going; text = ended.text; wrote = ended.wrote; printed = ended.printed })

-- how it ends where a line stopped the command
stopped_by-ends : (t : Telling) (stands : List (List ℕ) → Type 0) (input : List ℕ) (left : Option (List ℕ)) (gathered : List ℕ) (old now : Option (List ℕ)) (why : Stop)
    → StoppedBy t input left gathered old now why → LinesEnded t stands input left gathered old now (ends.Stopped why)
stopped_by-ends t stands input left gathered old now (stops.Line n) s = s
stopped_by-ends t stands input left gathered old now (stops.Full n) s = inr s

-- how it ends where a line that is there wasn't taken
not_taken-ends : (t : Telling) (stood stands : List (List ℕ) → Type 0) (room before : ℕ) (input : List ℕ) (reader reader' : Reading) (left left' : Option (List ℕ)) (gathered gathered' : List ℕ)
    (old now : Option (List ℕ)) (line : Line) (e : LinesEnd) → Grows t → Stays t → (s : Standing t stood input reader left gathered old now)
    → Gives room line reader reader' s.rest left' → reader.number ≡ before → (line ≡ End → ⊥)
    → NotTaken t stood room (before + 1) (bytes_in line) gathered gathered' e → LinesEnded t stands input left' gathered' old now e
not_taken-ends t stood stands room before input reader reader' left left' gathered gathered' old now line ends.Done grows stays s g counted some u = absurd u
not_taken-ends t stood stands room before input reader reader' left left' gathered gathered' old now line (ends.Stopped why) grows stays s g counted some u =
    subst (λ bytes. LinesEnded t stands input left' bytes old now (ends.Stopped why)) (sym u.1)
    (stopped_by-ends t stands input left' gathered old now why
    (standing-stopped_by t stood room before input reader reader' left left' gathered old now line why stays s g some counted u.0))
not_taken-ends t stood stands room before input reader reader' left left' gathered gathered' old now line ends.Input grows stays s g counted some u = absurd u
not_taken-ends t stood stands room before input reader reader' left left' gathered gathered' old now line ends.Output grows stays s g counted some u = absurd u
not_taken-ends t stood stands room before input reader reader' left left' gathered gathered' old now line ends.Memory grows stays s g counted some u =
    standing-given_up t stood input reader left gathered old now grows s

-- how it ends where no line was taken
pub untold-ends : (t : Telling) (stood stands : List (List ℕ) → Type 0) (room before : ℕ) (input : List ℕ) (reader reader' : Reading) (left left' : Option (List ℕ)) (gathered gathered' : List ℕ)
    (old now : Option (List ℕ)) (line : Line) (e : LinesEnd) → Grows t → Stays t → (s : Standing t stood input reader left gathered old now)
    → Gives room line reader reader' s.rest left' → reader.number ≡ before → Untold t stood stands room before line gathered gathered' e
    → LinesEnded t stands input left' gathered' old now e
untold-ends t stood stands room before input reader reader' left left' gathered gathered' old now line e grows stays s g counted (inl u) =
    subst (λ x. LinesEnded t stands input left' gathered' old now x) (sym u.0)
    (ended-so t stood stands room input reader reader' left left' gathered gathered' old now line s g u.1 u.2 u.3)
untold-ends t stood stands room before input reader reader' left left' gathered gathered' old now line e grows stays s g counted (inr u) =
    not_taken-ends t stood stands room before input reader reader' left left' gathered gathered' old now line e grows stays s g counted u.0 u.1

-- the counts of lines and those that were taken, one more
pub stood-more : (t : Telling) (stood stands : List (List ℕ) → Type 0) (room before : ℕ) (gathered gathered' : List ℕ) (line : Line)
    → Stood t stood before → (line ≡ End → ⊥) → Telt t stood stands room before line gathered gathered' → Stood t stands (before + 1)
stood-more t stood stands room before gathered gathered' line s some telt =
    let b = some_bytes room line some in
    let told = telt s.0 b.0 s.1 s.2 (ap (λ n. n + 1) (sym s.3)) b.1 in
    (s.0 ++ b.0 ∷ [], told.0, told.1, omega (arith, s.3, length-append s.0 (b.0 ∷ [])))

-- a line may stop the command so
why_stopped : (t : Telling) (given : List (List ℕ)) (why : Stop) → t.stop given ≡ Some why → WhyStopped t why
why_stopped t given (stops.Line n) is = (given, is)
why_stopped t given (stops.Full n) is = inr (given, is)

-- why it ends where a line that is there wasn't taken
not_taken-why : (t : Telling) (stood : List (List ℕ) → Type 0) (room before : ℕ) (a b : Moment) (gathered gathered' : List ℕ) (line : Line) (e : LinesEnd)
    → Stood t stood before → (line ≡ End → ⊥) → Calm a b → NotTaken t stood room (before + 1) (bytes_in line) gathered gathered' e → WhyEnded t a b e
not_taken-why t stood room before a b gathered gathered' line ends.Done s some calm u = absurd u
not_taken-why t stood room before a b gathered gathered' line (ends.Stopped why) s some calm u =
    let bytes = some_bytes room line some in
    (why_stopped t (s.0 ++ bytes.0 ∷ []) why (u.0 s.0 bytes.0 s.1 s.2 (ap (λ n. n + 1) (sym s.3)) bytes.1).0, calm)
not_taken-why t stood room before a b gathered gathered' line ends.Input s some calm u = absurd u
not_taken-why t stood room before a b gathered gathered' line ends.Output s some calm u = absurd u
not_taken-why t stood room before a b gathered gathered' line ends.Memory s some calm u = calm

-- why it ends where no line was taken
pub untold-why : (t : Telling) (stood stands : List (List ℕ) → Type 0) (room before : ℕ) (a b : Moment) (gathered gathered' : List ℕ) (line : Line) (e : LinesEnd)
    → Stood t stood before → Calm a b → Untold t stood stands room before line gathered gathered' e → WhyEnded t a b e
untold-why t stood stands room before a b gathered gathered' line e s calm (inl u) = subst (λ x. WhyEnded t a b x) (sym u.0) calm
untold-why t stood stands room before a b gathered gathered' line e s calm (inr u) =
    not_taken-why t stood room before a b gathered gathered' line e s u.0 calm u.1

-- a reader that was open failed now
pub failed_now : {P : Type 0} (r : Reading) → IsOpen r → (IsOpen r × P) ⊎ IsFailing r → P
failed_now r reads (inl h) = h.1
failed_now r reads (inr failing) = let apart : modes.Open ≡ modes.Failing = sym reads ∙ failing in cc

-- why it ends where the reader stopped
pub fault-why : (t : Telling) (a b : Moment) (fault : LineFault) → (fault ≡ faults.Failed → InputFailed a.input b.input)
    → ((fault ≡ faults.Failed → ⊥) → InputCalm a.input b.input) → ((n : ℕ) → fault ≡ faults.Endless n → n ≡ LAST_NUMBER) → OutputCalm a.output b.output
    → WhyEnded t a b (ending_by fault)
fault-why t a b faults.Failed failed calm endless out = (failed refl, out)
fault-why t a b (faults.Endless n) failed calm endless out = (inl (endless n refl), (calm (λ is. cc), out))
fault-why t a b faults.Memory failed calm endless out = (calm (λ is. cc), out)

-- how it ends where the reader stopped
pub stopped-ends : (t : Telling) (stands : List (List ℕ) → Type 0) (input : List ℕ) (reader reader' : Reading) (left left' : Option (List ℕ)) (gathered : List ℕ)
    (old now : Option (List ℕ)) (fault : LineFault) → Grows t → (s : Standing t stands input reader left gathered old now)
    → (fault ≡ faults.Failed → Stops reader reader' s.rest left')
    → ((n : ℕ) → fault ≡ faults.Endless n → (Stops reader reader' s.rest left') × (n ≡ reader'.taken))
    → LinesEnded t stands input left' gathered old now (ending_by fault)
stopped-ends t stands input reader reader' left left' gathered old now faults.Failed grows s failed endless =
    (standing-stopped t stands input reader reader' left left' gathered old now s (failed refl)).0
stopped-ends t stands input reader reader' left left' gathered old now (faults.Endless n) grows s failed endless =
    let stops = endless n refl in
    let stopped = standing-stopped t stands input reader reader' left left' gathered old now s stops.0 in
    inl (stopped.0, stopped.1 ∙ sym stops.1)
stopped-ends t stands input reader reader' left left' gathered old now faults.Memory grows s failed endless =
    standing-given_up t stands input reader left gathered old now grows s

-- a fact of what is told, where something is
pub told-some : {P : List ℕ → Type 0} (o : Option (List ℕ)) → ((told : List ℕ) → o ≡ Some told → P told) → IfSome o P
told-some None f = tt
told-some (Some told) f = f told refl
