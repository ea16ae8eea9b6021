-- How a run comes on, line by line.
use Rattle.std.proofs.Common.{◌≡◌, ◌∙◌, ap, sym, subst, refl, ℕ, ◌+◌, List, [], ◌∷◌, ◌++◌, length, true, false, Option, Some, None, Result, Ok, Err, inl, inr, arith, append_assoc, append-nil, length-append}
use Rattle.std.specs.Prelude.{◌⊎◌, ◌≤◌, IfSome, IsOk, is_ok, ⊤}
use Rattle.std.specs.Io.KnownBytes.{Appends, Consumes}
use Rattle.std.specs.Str.Lines.{lines}
use Rattle.std.proofs.KnownBytes.{Appends-nil, Appends-trans}
use Rattle.std.proofs.lemmas.List.Elements.{All-append, All-cons, All-nil}
use Rattle.sig_command.proofs.CountLemmas.{at, output_calm-then, output_stopped-since}
use Rattle.sig_command.proofs.ProgressLemmas.{all_given, others_of, progress-more}
use Rattle.sig_command.proofs.WholeLines.{whole_lines-none}
use Rattle.sig_command.specs.Moment.{Calm, Moment, OutputCalm, OutputState}
use Rattle.sig_command.specs.Progress.{Progress}
use Rattle.sig_command.specs.Telling.{AreLinesOf}
use Rattle.sig_courier.specs.declared.attempt.Attempt.{Attempt}
use Rattle.sig_journal.specs.declared.node_fault.NodeFault.{NodeFault}
use Rattle.sig_journal.specs.declared.node_fault.NodeFault.TheVariants as node
use Rattle.sig_json.specs.declared.limits.TheConstants.{LAST_NUMBER}
use Rattle.sig_opening.proofs.WatchLemmas.{rows_join}
use Rattle.sig_opening.specs.Watches.{AreInRow}
use Rattle.sig_outside.proofs.CauseLemmas.{appends_prefix, appends_then_prefix}
use Rattle.sig_outside.specs.Causes.{AppendsPrefix, Raised}
use Rattle.sig_outside.specs.Lines.{Cuts, Gives, HasNoLf, Stops}
use Rattle.sig_outside.specs.Reading.{Reading}
use Rattle.sig_outside.specs.declared.line.Line.{Line}
use Rattle.sig_outside.specs.declared.line.Line.TheVariants.{Text, Long, End}
use Rattle.sig_outside.specs.declared.line.LineFault.{LineFault}
use Rattle.sig_outside.specs.declared.line.LineFault.TheVariants as faults
use Rattle.sig_terms.specs.declared.rules.Rules.{Rules}
use Rattle.sig_ticking.specs.Ends.{of_line}
use Rattle.sig_ticking.specs.Lines.{CutOff, GoesOn, IsEndBy, MakesTicks, PutsBy, PutsTick, ReadSoFar, ReadTo, is_last}
use Rattle.sig_ticking.specs.Texts.{attempts_text, text_by, tick_text, ticks_text}
use Rattle.sig_ticking.specs.Ticks.{Between, GoOn, IsTickOf, StopWith, Tick}
use Rattle.sig_ticking.specs.declared.ending.CourierEnd.{CourierEnd}
use Rattle.sig_ticking.specs.declared.ending.CourierEnd.TheVariants.{Done, SettingsFailed, Refused, NoStore, StoreFailed, Damaged, InputFailed, OutputFailed, Full, Endless, Memory}

-- ---- the input

-- before the first line
read_first : (input : List ℕ) (reader : Reading) (left : Option (List ℕ)) → left ≡ Some input → reader.kept ≡ [] → reader.taken ≡ 0 → ReadSoFar input reader left 0
read_first input reader left told kept taken = record {
  given = [];
  rest = input;
  told = told;
  progress = record {
    prefix = [];
    parts = ap (λ (bytes : List ℕ). bytes ++ input) (sym kept);
    so_far = inl (record { whole = λ rest. refl; each = λ rest. refl });
  };
  taken = taken ∙ ap (λ (bytes : List ℕ). length bytes) (sym kept);
  counted = refl;
}

-- a line that is given is cut off
line_cut : (room : ℕ) (line : Line) (old new : Reading) (rest : List ℕ) (left : Option (List ℕ)) (g : Gives room line old new rest left) → (line ≡ End → ⊥)
    → (bytes : List ℕ) × Cuts (old.kept ++ rest) bytes (new.kept ++ g.took.after)
line_cut room (Text number bytes) old new rest left g some = (bytes, g.first.2)
line_cut room (Long number) old new rest left g some = (g.first.1.0, g.first.1.2)
line_cut room End old new rest left g some = absurd (some refl)

-- what was taken is the prefix and what is kept
taken_more : (input prefix kept rest more after prefix' kept' : List ℕ) (taken taken' : ℕ) → input ≡ prefix ++ (kept ++ rest) → rest ≡ more ++ after
    → input ≡ prefix' ++ (kept' ++ after) → taken ≡ length (prefix ++ kept) → taken' ≡ taken + length more → taken' ≡ length (prefix' ++ kept')
taken_more input prefix kept rest more after prefix' kept' taken taken' one two three is more_is =
    omega (arith, ap length one, ap length two, ap length three, length-append {A = ℕ})

read_more : (input : List ℕ) (reader reader' : Reading) (left left' : Option (List ℕ)) (count room : ℕ) (line : Line) → (line ≡ End → ⊥)
    → (s : ReadSoFar input reader left count) → Gives room line reader reader' s.rest left' → ReadSoFar input reader' left' (count + 1)
read_more input reader reader' left left' count room line some s g =
    let cut = line_cut room line reader reader' s.rest left' g some in
    let p : Progress input reader'.kept g.took.after (s.given ++ cut.0 ∷ []) = progress-more input reader.kept s.rest reader'.kept g.took.after cut.0 s.given s.progress cut.1 in
    record {
      given = s.given ++ cut.0 ∷ [];
      rest = g.took.after;
      told = g.took.told;
      progress = p;
      taken = taken_more input s.progress.prefix reader.kept s.rest g.took.more g.took.after p.prefix reader'.kept reader.taken reader'.taken s.progress.parts g.took.parts p.parts s.taken g.took.taken;
      counted = omega (arith, length-append s.given (cut.0 ∷ []), s.counted);
    }

nil_left : (xs ys : List ℕ) → xs ++ ys ≡ [] → xs ≡ []
nil_left [] ys h = refl
nil_left (x ∷ xs) ys h = cc

nil_right : (xs ys : List ℕ) → xs ++ ys ≡ [] → ys ≡ []
nil_right [] ys h = h
nil_right (x ∷ xs) ys h = cc

-- at the end of the input
read_ended : (input : List ℕ) (reader reader' : Reading) (left left' : Option (List ℕ)) (count room : ℕ) → (s : ReadSoFar input reader left count) → Gives room End reader reader' s.rest left'
    → ReadTo Done input left' count
read_ended input reader reader' left left' count room s g = (
  g.took.told ∙ ap (λ (bytes : List ℕ). Some bytes) (nil_right reader'.kept g.took.after g.first.1),
  sym s.counted ∙ ap (λ (ls : List (List ℕ)). length ls) (all_given input reader.kept s.rest s.given s.progress g.first.0),
)

-- the lines that were given before the reader stopped
lines_of_read : (input kept rest more after : List ℕ) (given : List (List ℕ)) → (p : Progress input kept rest given) → rest ≡ more ++ after → HasNoLf (kept ++ more)
    → AreLinesOf given input (p.prefix ++ (kept ++ more))
lines_of_read input kept rest more after given p parts within =
    elim p.so_far [
      | inl ends ↦ inl (sym (ends.whole (kept ++ more) ∙ ap (λ ls. given ++ ls) (whole_lines-none (kept ++ more) within) ∙ append-nil given))
      | inr all ↦ inr (
        sym (p.parts ∙ ap (λ bytes. p.prefix ++ (kept ++ bytes)) (all.none_left ∙ sym (nil_left more after (sym parts ∙ all.none_left)))),
        all.all,
      )
    ]

-- what was read, and what is left
read_parts : (input prefix kept rest more after : List ℕ) → input ≡ prefix ++ (kept ++ rest) → rest ≡ more ++ after → input ≡ (prefix ++ (kept ++ more)) ++ after
read_parts input prefix kept rest more after one two =
    one ∙ ap (λ bytes. prefix ++ (kept ++ bytes)) two
    ∙ sym (append_assoc prefix (kept ++ more) after ∙ ap (λ bytes. prefix ++ bytes) (append_assoc kept more after))

-- the reader stopped within a line
read_stopped : (input : List ℕ) (reader reader' : Reading) (left left' : Option (List ℕ)) (count : ℕ) → (s : ReadSoFar input reader left count) → Stops reader reader' s.rest left'
    → (read : List ℕ) × (length read ≡ reader'.taken) × CutOff input left' read count
read_stopped input reader reader' left left' count s stops =
    let read : List ℕ = s.progress.prefix ++ (reader.kept ++ stops.took.more) in
    let parts : input ≡ read ++ stops.took.after = read_parts input s.progress.prefix reader.kept s.rest stops.took.more stops.took.after s.progress.parts stops.took.parts in (
      read,
      omega (arith, s.taken, stops.took.taken, length-append {A = ℕ}),
      record {
        consumed = subst (λ (o : Option (List ℕ)). Consumes (Some input) o read) (sym stops.took.told) parts;
        given = s.given;
        are = lines_of_read input reader.kept s.rest stops.took.more stops.took.after s.given s.progress stops.took.parts stops.within;
        counted = s.counted;
      },
    )

-- no more lines were given than there are
read_within : (input : List ℕ) (reader : Reading) (left : Option (List ℕ)) (count : ℕ) → ReadSoFar input reader left count → count ≤ length (lines input)
read_within input reader left count s =
    let others = others_of input reader.kept s.rest s.given s.progress in
    omega (arith, ap (λ (ls : List (List ℕ)). length ls) others.1, length-append s.given others.0, s.counted)

-- what is told of the source is told of what is left
at_rest : (left : Option (List ℕ)) (rest : List ℕ) (holds : List ℕ → Type 0) → left ≡ Some rest → IfSome left holds → holds rest
at_rest left rest holds is h = subst (λ (o : Option (List ℕ)). IfSome o holds) is h

some_map : {P Q : List ℕ → Type 0} (o : Option (List ℕ)) → ((x : List ℕ) → P x → Q x) → IfSome o P → IfSome o Q
some_map None f h = tt
some_map (Some x) f h = f x h

-- ---- what is printed

text_more : (number : ℕ) (ticks : List Tick) (t : Tick) → ticks_text number (ticks ++ t ∷ []) ≡ ticks_text number ticks ++ tick_text (number + length ticks) t
text_more number [] t = append-nil (tick_text number t) ∙ ap (λ (n : ℕ). tick_text n t) (omega arith)
text_more number (x ∷ ticks) t =
    ap (λ (text : List ℕ). tick_text number x ++ text) (text_more (number + 1) ticks t ∙ ap (λ (n : ℕ). ticks_text (number + 1) ticks ++ tick_text n t) (shift number ticks))
    ∙ sym (append_assoc (tick_text number x) (ticks_text (number + 1) ticks) (tick_text (number + length (x ∷ ticks)) t))
  where
    shift : (n : ℕ) (ts : List Tick) → (n + 1) + length ts ≡ n + length (x ∷ ts)
    shift n ts = omega arith

-- of a run that made so many ticks
text_next : (ticks : List Tick) (t : Tick) (count : ℕ) → length ticks ≡ count → ticks_text 1 (ticks ++ t ∷ []) ≡ ticks_text 1 ticks ++ tick_text (count + 1) t
text_next ticks t count counted = text_more 1 ticks t ∙ ap (λ (n : ℕ). ticks_text 1 ticks ++ tick_text n t) (omega (arith, counted))

length_more : (ticks : List Tick) (t : Tick) (count : ℕ) → length ticks ≡ count → length (ticks ++ t ∷ []) ≡ count + 1
length_more ticks t count counted = omega (arith, length-append ticks (t ∷ []), counted)

-- ---- a tick that goes on

went_on : (number : ℕ) (attempts : List Attempt) (end : Result ⊤ NodeFault) (u : ⊤) (out out' : OutputState) → PutsTick number attempts end (Ok u) out out'
    → IsOk end × Appends out.written out'.written (text_by end (attempts_text number attempts)) × OutputCalm out out'
went_on number attempts (Ok done) u out out' h = (refl, h.0, h.1)
went_on number attempts (Err node.Store) u out out' h = absurd (apart h.0)
  where
    apart : ◌≡◌ {A = Result ⊤ CourierEnd} (Ok u) (Err StoreFailed) → ⊥
    apart h = cc
went_on number attempts (Err (node.Full n)) u out out' h = absurd (apart h.0)
  where
    apart : ◌≡◌ {A = Result ⊤ CourierEnd} (Ok u) (Err (Full n)) → ⊥
    apart h = cc
went_on number attempts (Err node.Memory) u out out' h = absurd (apart h.0)
  where
    apart : ◌≡◌ {A = Result ⊤ CourierEnd} (Ok u) (Err Memory) ⊎ ◌≡◌ {A = Result ⊤ CourierEnd} (Ok u) (Err StoreFailed) → ⊥
    apart (inl h) = cc
    apart (inr h) = cc

row_more : (rules : Rules) (ticks : List Tick) (t : Tick) (old a b : Between) → AreInRow (IsTickOf rules) ticks old a → IsTickOf rules t a b → AreInRow (IsTickOf rules) (ticks ++ t ∷ []) old b
row_more rules ticks t old a b each is = rows_join (IsTickOf rules) ticks (t ∷ []) old a b each (b, is, refl)

one_on : (t : Tick) → IsOk t.end → GoOn (t ∷ [])
one_on t on = All-cons (λ (x : Tick). IsOk x.end) t [] on (All-nil (λ (x : Tick). IsOk x.end))

-- one more line, and its tick
pub goes_more : (rules : Rules) (count room : ℕ) (old a b : Between) (reader reader' : Reading) (start : Moment) (left left' : Option (List ℕ)) (met met' : ℕ) (out out' : OutputState) (line : Line) (t : Tick) (u : ⊤)
    → met' ≡ met → (line ≡ End → ⊥) → IfSome left (λ (rest : List ℕ). Gives room line reader reader' rest left') → IsTickOf rules t a b → PutsTick (count + 1) t.attempts t.end (Ok u) out out'
    → GoesOn rules count old a reader start (at (record { left = left; faults = met }) out) → GoesOn rules (count + 1) old b reader' start (at (record { left = left'; faults = met' }) out')
goes_more rules count room old a b reader reader' start left left' met met' out out' line t u same some gives is put g =
    let on = went_on (count + 1) t.attempts t.end u out out' put in
    record {
      ticks = g.ticks ++ t ∷ [];
      each = row_more rules g.ticks t old a b g.each is;
      on = All-append (λ (x : Tick). IsOk x.end) g.ticks (t ∷ []) g.on (one_on t on.0);
      counted = length_more g.ticks t count g.counted;
      printed = subst (λ (text : List ℕ). Appends start.output.written out'.written text) (sym (text_next g.ticks t count g.counted))
          (Appends-trans start.output.written out.written out'.written (ticks_text 1 g.ticks) (tick_text (count + 1) t) g.printed on.1);
      reads = some_map start.input.left
          (λ input s. read_more input reader reader' left left' count room line some s (at_rest left s.rest (λ (rest : List ℕ). Gives room line reader reader' rest left') s.told gives)) g.reads;
      cause = (same ∙ g.cause.0, output_calm-then start.output out out' g.cause.1 on.2);
    }

-- before the first line
pub goes_first : (rules : Rules) (old : Between) (reader : Reading) (start : Moment) → reader.kept ≡ [] → reader.taken ≡ 0 → GoesOn rules 0 old old reader start start
goes_first rules old reader start kept taken = record {
  ticks = [];
  each = refl;
  on = All-nil (λ (x : Tick). IsOk x.end);
  counted = refl;
  printed = Appends-nil start.output.written;
  reads = told_first start.input.left;
  cause = (refl, (refl, refl));
}
  where
    told_first : (left : Option (List ℕ)) → IfSome left (λ input. ReadSoFar input reader left 0)
    told_first None = tt
    told_first (Some input) = read_first input reader (Some input) refl kept taken

-- ---- the end of the input

pub made_whole : (rules : Rules) (count room : ℕ) (old a : Between) (reader reader' : Reading) (start : Moment) (left left' : Option (List ℕ)) (met met' : ℕ) (out : OutputState) (line : Line)
    → met' ≡ met → line ≡ End → IfSome left (λ (rest : List ℕ). Gives room line reader reader' rest left')
    → GoesOn rules count old a reader start (at (record { left = left; faults = met }) out) → MakesTicks rules Done old a start (at (record { left = left'; faults = met' }) out)
made_whole rules count room old a reader reader' start left left' met met' out line same is gives g = record {
  ticks = g.ticks;
  each = g.each;
  ends = g.on;
  printed = g.printed;
  reads = subst (λ (n : ℕ). IfSome start.input.left (λ input. ReadTo Done input left' n)) (sym g.counted)
      (some_map start.input.left (λ input s. read_ended input reader reader' left left' count room s (at_rest left s.rest (λ (rest : List ℕ). Gives room End reader reader' rest left') s.told
      (subst (λ (l : Line). IfSome left (λ (rest : List ℕ). Gives room l reader reader' rest left')) is gives))) g.reads);
  cause = (same ∙ g.cause.0, g.cause.1);
}

-- the reader stopped
pub made_stopped : (rules : Rules) (count : ℕ) (old a : Between) (reader reader' : Reading) (start : Moment) (left left' : Option (List ℕ)) (met met' : ℕ) (out : OutputState) (fault : LineFault)
    → (fault ≡ faults.Failed → Raised met met') → ((fault ≡ faults.Failed → ⊥) → met' ≡ met)
    → (fault ≡ faults.Failed → IfSome left (λ (rest : List ℕ). Stops reader reader' rest left'))
    → ((n : ℕ) → fault ≡ faults.Endless n → IfSome left (λ (rest : List ℕ). Stops reader reader' rest left') × (n ≡ LAST_NUMBER) × (reader'.taken ≡ LAST_NUMBER))
    → GoesOn rules count old a reader start (at (record { left = left; faults = met }) out) → MakesTicks rules (of_line fault) old a start (at (record { left = left'; faults = met' }) out)
made_stopped rules count old a reader reader' start left left' met met' out faults.Failed raised steady stops endless g = record {
  ticks = g.ticks;
  each = g.each;
  ends = g.on;
  printed = g.printed;
  reads = subst (λ (n : ℕ). IfSome start.input.left (λ input. ReadTo InputFailed input left' n)) (sym g.counted)
      (some_map start.input.left (λ input s.
      let read = read_stopped input reader reader' left left' count s (at_rest left s.rest (λ (rest : List ℕ). Stops reader reader' rest left') s.told (stops refl)) in
      (read.0, read.2)) g.reads);
  cause = (subst (λ (n : ℕ). Raised n met') g.cause.0 (raised refl), g.cause.1);
}
made_stopped rules count old a reader reader' start left left' met met' out (faults.Endless n) raised steady stops endless g =
    let told = endless n refl in
    record {
      ticks = g.ticks;
      each = g.each;
      ends = (g.on, told.1);
      printed = g.printed;
      reads = subst (λ (m : ℕ). IfSome start.input.left (λ input. ReadTo (Endless n) input left' m)) (sym g.counted)
          (some_map start.input.left (λ input s.
          let read = read_stopped input reader reader' left left' count s (at_rest left s.rest (λ (rest : List ℕ). Stops reader reader' rest left') s.told told.0) in
          (read.0, read.1 ∙ told.2 ∙ sym told.1, read.2)) g.reads);
      cause = (steady (λ h. cc) ∙ g.cause.0, g.cause.1);
    }
made_stopped rules count old a reader reader' start left left' met met' out faults.Memory raised steady stops endless g = record {
  ticks = g.ticks;
  each = g.each;
  ends = inl g.on;
  printed = appends_prefix start.output.written out.written (ticks_text 1 g.ticks) (ticks_text 1 g.ticks) [] (sym (append-nil (ticks_text 1 g.ticks))) g.printed;
  reads = subst (λ (n : ℕ). IfSome start.input.left (λ input. ReadTo Memory input left' n)) (sym g.counted)
      (some_map start.input.left (λ input s. read_within input reader left count s) g.reads);
  cause = (steady (λ h. cc) ∙ g.cause.0, g.cause.1);
}

-- ---- a tick that ends the run

-- no more ticks than lines, with one more line
within_more : (count room : ℕ) (reader reader' : Reading) (start left left' : Option (List ℕ)) (line : Line) → (line ≡ End → ⊥) → IfSome left (λ (rest : List ℕ). Gives room line reader reader' rest left')
    → IfSome start (λ input. ReadSoFar input reader left count) → IfSome start (λ input. (count + 1) ≤ length (lines input))
within_more count room reader reader' start left left' line some gives h =
    some_map start (λ input s. read_within input reader' left' (count + 1)
    (read_more input reader reader' left left' count room line some s (at_rest left s.rest (λ (rest : List ℕ). Gives room line reader reader' rest left') s.told gives))) h

-- all that is the same of a last tick, whatever the end
record LastTick (rules : Rules) (count : ℕ) (old b : Between) (start : Moment) (ticks : List Tick) (t : Tick) (out : OutputState) : Type 0 where
  each : AreInRow (IsTickOf rules) (ticks ++ t ∷ []) old b
  on : GoOn ticks
  counted : length (ticks ++ t ∷ []) ≡ count + 1
  text : ticks_text 1 (ticks ++ t ∷ []) ≡ ticks_text 1 ticks ++ tick_text (count + 1) t
  printed : Appends start.output.written out.written (ticks_text 1 ticks)
  reads : IfSome start.input.left (λ input. length (ticks ++ t ∷ []) ≤ length (lines input))

last_tick : (rules : Rules) (count room : ℕ) (old a b : Between) (reader reader' : Reading) (start : Moment) (left left' : Option (List ℕ)) (met : ℕ) (out : OutputState) (line : Line) (t : Tick)
    → (line ≡ End → ⊥) → IfSome left (λ (rest : List ℕ). Gives room line reader reader' rest left') → IsTickOf rules t a b
    → (g : GoesOn rules count old a reader start (at (record { left = left; faults = met }) out)) → LastTick rules count old b start g.ticks t out
last_tick rules count room old a b reader reader' start left left' met out line t some gives is g = record {
  each = row_more rules g.ticks t old a b g.each is;
  on = g.on;
  counted = length_more g.ticks t count g.counted;
  text = text_next g.ticks t count g.counted;
  printed = g.printed;
  reads = subst (λ (n : ℕ). IfSome start.input.left (λ input. n ≤ length (lines input))) (sym (length_more g.ticks t count g.counted))
      (within_more count room reader reader' start.input.left left left' line some gives g.reads);
}

-- nothing was put after a tick that ended with a fault
faulted_text : (number : ℕ) (t : Tick) (fault : NodeFault) (text : List ℕ) → t.end ≡ Err fault → text ++ tick_text number t ≡ text
faulted_text number t fault text is = ap (λ (e : Result ⊤ NodeFault). text ++ text_by e (attempts_text number t.attempts)) is ∙ append-nil text

-- the texts of all ticks are put where the last one ended with a fault
faulted_printed : (rules : Rules) (count : ℕ) (old b : Between) (start : Moment) (ticks : List Tick) (t : Tick) (out out' : OutputState) (fault : NodeFault) → LastTick rules count old b start ticks t out
    → t.end ≡ Err fault → out' ≡ out → Appends start.output.written out'.written (ticks_text 1 (ticks ++ t ∷ []))
faulted_printed rules count old b start ticks t out out' fault l is same =
    subst (λ (text : List ℕ). Appends start.output.written out'.written text) (sym (l.text ∙ faulted_text (count + 1) t fault (ticks_text 1 ticks) is))
    (subst (λ (o : OutputState). Appends start.output.written o.written (ticks_text 1 ticks)) (sym same) l.printed)

stop_with : (ticks : List Tick) (t : Tick) (fault : NodeFault) → GoOn ticks → t.end ≡ Err fault → StopWith fault (ticks ++ t ∷ [])
stop_with ticks t fault on is = record { before = ticks; last = t; parts = refl; on = on; stops = is }

calm_same : (start : Moment) (left' : Option (List ℕ)) (met met' : ℕ) (out out' : OutputState) → met' ≡ met → out' ≡ out → met ≡ start.input.faults → OutputCalm start.output out
    → Calm start (at (record { left = left'; faults = met' }) out')
calm_same start left' met met' out out' same out_same was calm = (same ∙ was, subst (λ (o : OutputState). OutputCalm start.output o) (sym out_same) calm)

end_is : (e x : CourierEnd) → ◌≡◌ {A = Result ⊤ CourierEnd} (Err e) (Err x) → e ≡ x
end_is e x h = cc

-- the run ends with a tick that ended with a fault
made_faulted : (rules : Rules) (count : ℕ) (old b : Between) (start : Moment) (ticks : List Tick) (t : Tick) (left' : Option (List ℕ)) (met met' : ℕ) (out out' : OutputState) (fault : NodeFault) (end : CourierEnd)
    → LastTick rules count old b start ticks t out → met' ≡ met → met ≡ start.input.faults → OutputCalm start.output out → t.end ≡ Err fault → IsEndBy fault (Err end) → out' ≡ out
    → MakesTicks rules end old b start (at (record { left = left'; faults = met' }) out')
made_faulted rules count old b start ticks t left' met met' out out' node.Store end l same was calm is ends out_same =
    subst (λ (e : CourierEnd). MakesTicks rules e old b start (at (record { left = left'; faults = met' }) out')) (sym (end_is end StoreFailed ends)) (record {
      ticks = ticks ++ t ∷ [];
      each = l.each;
      ends = inl (stop_with ticks t node.Store l.on is);
      printed = faulted_printed rules count old b start ticks t out out' node.Store l is out_same;
      reads = l.reads;
      cause = calm_same start left' met met' out out' same out_same was calm;
    })
made_faulted rules count old b start ticks t left' met met' out out' (node.Full n) end l same was calm is ends out_same =
    subst (λ (e : CourierEnd). MakesTicks rules e old b start (at (record { left = left'; faults = met' }) out')) (sym (end_is end (Full n) ends)) (record {
      ticks = ticks ++ t ∷ [];
      each = l.each;
      ends = stop_with ticks t (node.Full n) l.on is;
      printed = faulted_printed rules count old b start ticks t out out' (node.Full n) l is out_same;
      reads = l.reads;
      cause = calm_same start left' met met' out out' same out_same was calm;
    })
made_faulted rules count old b start ticks t left' met met' out out' node.Memory end l same was calm is (inl ends) out_same =
    subst (λ (e : CourierEnd). MakesTicks rules e old b start (at (record { left = left'; faults = met' }) out')) (sym (end_is end Memory ends)) (record {
      ticks = ticks ++ t ∷ [];
      each = l.each;
      ends = inr (stop_with ticks t node.Memory l.on is);
      printed = appends_prefix start.output.written out'.written (ticks_text 1 (ticks ++ t ∷ [])) (ticks_text 1 (ticks ++ t ∷ [])) [] (sym (append-nil (ticks_text 1 (ticks ++ t ∷ []))))
          (faulted_printed rules count old b start ticks t out out' node.Memory l is out_same);
      reads = l.reads;
      cause = calm_same start left' met met' out out' same out_same was calm;
    })
made_faulted rules count old b start ticks t left' met met' out out' node.Memory end l same was calm is (inr ends) out_same =
    subst (λ (e : CourierEnd). MakesTicks rules e old b start (at (record { left = left'; faults = met' }) out')) (sym (end_is end StoreFailed ends)) (record {
      ticks = ticks ++ t ∷ [];
      each = l.each;
      ends = inr (stop_with ticks t node.Memory l.on is);
      printed = faulted_printed rules count old b start ticks t out out' node.Memory l is out_same;
      reads = l.reads;
      cause = calm_same start left' met met' out out' same out_same was calm;
    })

-- the run ends with the output, or out of memory, after a tick that went on
made_unput : (rules : Rules) (count : ℕ) (old b : Between) (start : Moment) (ticks : List Tick) (t : Tick) (left' : Option (List ℕ)) (met met' : ℕ) (out out' : OutputState) (end : CourierEnd)
    → LastTick rules count old b start ticks t out → met' ≡ met → met ≡ start.input.faults → OutputCalm start.output out → IsOk t.end → PutsBy end (tick_text (count + 1) t) out out'
    → MakesTicks rules end old b start (at (record { left = left'; faults = met' }) out')
made_unput rules count old b start ticks t left' met met' out out' Done l same was calm on put = absurd put
made_unput rules count old b start ticks t left' met met' out out' SettingsFailed l same was calm on put = absurd put
made_unput rules count old b start ticks t left' met met' out out' (Refused member) l same was calm on put = absurd put
made_unput rules count old b start ticks t left' met met' out out' NoStore l same was calm on put = absurd put
made_unput rules count old b start ticks t left' met met' out out' StoreFailed l same was calm on put = absurd put
made_unput rules count old b start ticks t left' met met' out out' (Damaged file place) l same was calm on put = absurd put
made_unput rules count old b start ticks t left' met met' out out' InputFailed l same was calm on put = absurd put
made_unput rules count old b start ticks t left' met met' out out' OutputFailed l same was calm on put = record {
  ticks = ticks ++ t ∷ [];
  each = l.each;
  ends = All-append (λ (x : Tick). IsOk x.end) ticks (t ∷ []) l.on (one_on t on);
  printed = subst (λ (text : List ℕ). AppendsPrefix start.output.written out'.written text) (sym l.text)
      (appends_then_prefix start.output.written out.written out'.written (ticks_text 1 ticks) (tick_text (count + 1) t) l.printed put.0);
  reads = l.reads;
  cause = (same ∙ was, output_stopped-since start.output out out' calm put.1);
}
made_unput rules count old b start ticks t left' met met' out out' (Full n) l same was calm on put = absurd put
made_unput rules count old b start ticks t left' met met' out out' (Endless n) l same was calm on put = absurd put
made_unput rules count old b start ticks t left' met met' out out' Memory l same was calm on put = record {
  ticks = ticks ++ t ∷ [];
  each = l.each;
  ends = inl (All-append (λ (x : Tick). IsOk x.end) ticks (t ∷ []) l.on (one_on t on));
  printed = subst (λ (o : OutputState). AppendsPrefix start.output.written o.written (ticks_text 1 (ticks ++ t ∷ []))) (sym put)
      (appends_prefix start.output.written out.written (ticks_text 1 (ticks ++ t ∷ [])) (ticks_text 1 ticks) (tick_text (count + 1) t) l.text l.printed);
  reads = l.reads;
  cause = calm_same start left' met met' out out' same put was calm;
}

by_tick : (rules : Rules) (count : ℕ) (old b : Between) (start : Moment) (ticks : List Tick) (t : Tick) (left' : Option (List ℕ)) (met met' : ℕ) (out out' : OutputState) (end : CourierEnd) (ended : Result ⊤ NodeFault)
    → LastTick rules count old b start ticks t out → met' ≡ met → met ≡ start.input.faults → OutputCalm start.output out → t.end ≡ ended → PutsTick (count + 1) t.attempts ended (Err end) out out'
    → MakesTicks rules end old b start (at (record { left = left'; faults = met' }) out')
by_tick rules count old b start ticks t left' met met' out out' end (Ok done) l same was calm is put =
    made_unput rules count old b start ticks t left' met met' out out' end l same was calm (ap (λ (e : Result ⊤ NodeFault). is_ok e) is)
    (subst (λ (e : Result ⊤ NodeFault). PutsBy end (text_by e (attempts_text (count + 1) t.attempts)) out out') (sym is) put)
by_tick rules count old b start ticks t left' met met' out out' end (Err fault) l same was calm is put =
    made_faulted rules count old b start ticks t left' met met' out out' fault end l same was calm is put.0 put.1

pub made_last : (rules : Rules) (count room : ℕ) (old a b : Between) (reader reader' : Reading) (start : Moment) (left left' : Option (List ℕ)) (met met' : ℕ) (out out' : OutputState) (line : Line) (t : Tick) (end : CourierEnd)
    → met' ≡ met → (line ≡ End → ⊥) → IfSome left (λ (rest : List ℕ). Gives room line reader reader' rest left') → IsTickOf rules t a b → PutsTick (count + 1) t.attempts t.end (Err end) out out'
    → GoesOn rules count old a reader start (at (record { left = left; faults = met }) out) → MakesTicks rules end old b start (at (record { left = left'; faults = met' }) out')
made_last rules count room old a b reader reader' start left left' met met' out out' line t end same some gives is put g =
    by_tick rules count old b start g.ticks t left' met met' out out' end t.end
    (last_tick rules count room old a b reader reader' start left left' met out line t some gives is g) same g.cause.0 g.cause.1 refl put

-- by a log that has nothing more
pub none_more : (log : List Attempt) → log ++ [] ≡ log
none_more log = append-nil log

-- the line that is none, and any other
pub last_is : (line : Line) → is_last line ≡ true → line ≡ End
last_is (Text number bytes) h = absurd cc
last_is (Long number) h = absurd cc
last_is End h = refl

pub not_last : (line : Line) → is_last line ≡ false → line ≡ End → ⊥
not_last line h is = let last : is_last line ≡ true = ap is_last is in cc
