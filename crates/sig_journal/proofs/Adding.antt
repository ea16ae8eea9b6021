-- What a file shows in each of the two steps in which a record is added.
use Rattle.std.proofs.Common.{◌≡◌, ◌⊎◌, inl, inr, ℕ, zero, suc, ◌+◌, ◌-◌, ◌≤◌, ◌<◌, ◌^◌, List, [], ◌∷◌, length, replicate, Bool, true, false, ◌==◌, nat_eq, Option, Some, None, Result, Ok, Err, refl, sym, ap, subst, arith}
use Rattle.std.proofs.lemmas.Bool.{false≢true, le-leb}
use Rattle.std.proofs.lemmas.Bool.Decides.{nat_tests}
use Rattle.std.specs.Prelude.{◌↔◌, ◌||◌, ◌&&◌, OnOk, IsOk, IsErr, IsSomeAnd, IfSome, MatchBool}
use Rattle.sig_outside.specs.Disk.{Only, Stop, Torn, with_bytes}
use Rattle.sig_json.specs.declared.limits.TheConstants.{LAST_NUMBER}
use Rattle.sig_journal.specs.declared.layout.TheConstants.{GATE_OPEN}
use Rattle.sig_journal.specs.Layout.{framed_bytes}
use Rattle.sig_journal.specs.Added.{RestsWith, ShowsAfter, ShowsBefore, ShowsEither, rests_with_it}
use Rattle.sig_journal.specs.Durable.{UsesBoth, UsesTwo}
use Rattle.sig_journal.proofs.Fronts.{whole}
use Rattle.sig_journal.proofs.Images.{behind_written, behind_torn, gate_torn, gate_written, gate_left}

not_both : {T E : Type 0} (result : Result T E) → IsOk result → IsErr result → ⊥
not_both (Ok x) ok err = false≢true err
not_both (Err e) ok err = false≢true ok

-- what holds of an answer that is Ok, or it is none
pub ok_or_err : {T E : Type 0} {P : Type 0} (result : Result T E) → OnOk result P → P ⊎ IsErr result
ok_or_err (Ok x) h = inl h
ok_or_err (Err e) h = inr refl

pub on_ok : {T E : Type 0} {P Q : Type 0} (result : Result T E) → (P → Q) → OnOk result P → OnOk result Q
on_ok (Ok x) f h = f h
on_ok (Err e) f h = tt

-- the image that a disk rests with is its only one
pub rest_is : (stop : Option Stop) (images : List ℕ → Type 0) (bytes : List ℕ) → IfSome stop (λ s. images s.image) → Only bytes images → IfSome stop (λ s. s.image ≡ bytes)
rest_is None images bytes rests only = tt
rest_is (Some stop) images bytes rests only = only stop.image rests

module _ (before : List ℕ) (end : ℕ) (payload : List ℕ) (fits : length payload < 2 ^ 32) (room : end + 5 + length payload ≤ LAST_NUMBER) where
  abbrev pub staged : List ℕ
  staged = with_bytes end (framed_bytes payload) before

  pub torn_behind_shows : (n : ℕ) (image : List ℕ) → Torn end n before image → ShowsBefore before end image
  torn_behind_shows n image torn = λ kind content j. behind_torn kind before content (whole kind before content j.holds) payload fits end j.ends room n image torn

  pub written_behind_shows : (written : List ℕ) → ShowsBefore before end (with_bytes end written before)
  written_behind_shows written = λ kind content j. behind_written kind before content (whole kind before content j.holds) payload fits end j.ends room written

  pub torn_gate_shows : (image : List ℕ) → Torn (end - 1) 1 staged image → ShowsEither before end payload image
  torn_gate_shows image torn = λ kind content j. gate_torn kind before content (whole kind before content j.holds) payload fits end j.ends room image torn

  pub open_gate_shows : (gate : ℕ) → gate ≡ GATE_OPEN → ShowsAfter before end payload (with_bytes (end - 1) (gate ∷ []) staged)
  open_gate_shows gate is = λ kind content j. gate_written kind before content (whole kind before content j.holds) payload fits end j.ends room gate is

  pub closed_gate_shows : (gate : ℕ) → (gate == GATE_OPEN) ≡ false → ShowsBefore before end (with_bytes (end - 1) (gate ∷ []) staged)
  closed_gate_shows gate shut = λ kind content j. gate_left kind before content (whole kind before content j.holds) payload fits end j.ends room gate shut

  pub nothing_shows : ShowsBefore before end before
  nothing_shows = λ kind content j. record { begins = refl; holds = j.holds }

  -- a stop before the fourth call: the call failed, and the disk rests with what was before
  abbrev RestsBefore : ℕ → ℕ → Stop → Type 0
  RestsBefore calls fill rest = MatchBool (rests_with_it calls fill) (ShowsAfter before end payload rest.image) (ShowsBefore before end rest.image)

  module _ {T E : Type 0} where
    abbrev Rests : Option Stop → Option Stop → Bool → Result T E → Type 0
    Rests old new short result = RestsWith (ShowsBefore before end) (ShowsAfter before end payload) old new short result

    too_few : (calls : ℕ) (result : Result T E) → IsErr result → calls < 4 → IsOk result ↔ (4 ≤ calls)
    too_few calls result err few = (λ ok. absurd (not_both result ok err), λ enough. absurd (omega (arith, few, enough)))

    -- the first step failed
    pub stopped_behind : {U F : Type 0} (calls fill : ℕ) (bytes seen : List ℕ) (new : Option Stop) (short : Bool) (first : Result U F) (result : Result T E) → IsErr first → IsErr result
        → UsesTwo end (length bytes) seen calls (record { calls = calls; fill = fill; image = before }) new short first
        → Rests (Some (record { calls = calls; fill = fill; image = before })) new short result
    stopped_behind zero fill bytes seen new short first result fails err h =
        inr (too_few 0 result err (omega arith), subst (λ (o : Option Stop). IsSomeAnd o (RestsBefore 0 fill)) (sym h.1) nothing_shows)
    stopped_behind (suc zero) fill bytes seen new short first result fails err (e, inl h) =
        inr (too_few 1 result err (omega arith), subst (λ (o : Option Stop). IsSomeAnd o (RestsBefore 1 fill)) (sym h) (written_behind_shows (replicate (length bytes) fill)))
    stopped_behind (suc zero) fill bytes seen new short first result fails err (e, inr h) = inl h
    stopped_behind (suc (suc calls)) fill bytes seen new short first result fails err (inl h) = absurd (not_both first h.0 fails)
    stopped_behind (suc (suc calls)) fill bytes seen new short first result fails err (inr h) = inl h.1

    -- the second step came, with so many calls left
    stopped_gate : (left fill : ℕ) (seen : List ℕ) (new : Option Stop) (short : Bool) (result : Result T E) → seen ≡ with_bytes (end - 1) (GATE_OPEN ∷ []) staged ⊎ IsErr result
        → UsesTwo (end - 1) 1 seen left (record { calls = left; fill = fill; image = staged }) new short result
        → Rests (Some (record { calls = suc (suc left); fill = fill; image = before })) new short result
    stopped_gate zero fill seen new short result written h =
        inr (too_few 2 result h.0 (omega arith), subst (λ (o : Option Stop). IsSomeAnd o (RestsBefore 2 fill)) (sym h.1) (written_behind_shows (framed_bytes payload)))
    stopped_gate (suc zero) fill seen new short result written (err, inl h) =
        inr (too_few 3 result err (omega arith), subst (λ (o : Option Stop). IsSomeAnd o (RestsBefore 3 fill)) (sym h) (by_fill (fill == GATE_OPEN) refl))
      where
        by_fill : (opens : Bool) → (fill == GATE_OPEN) ≡ opens → MatchBool opens (ShowsAfter before end payload (with_bytes (end - 1) (fill ∷ []) staged)) (ShowsBefore before end (with_bytes (end - 1) (fill ∷ []) staged))
        by_fill true is = open_gate_shows fill (grind (arith, nat_tests, is))
        by_fill false is = closed_gate_shows fill is
    stopped_gate (suc zero) fill seen new short result written (err, inr h) = inl h
    stopped_gate (suc (suc left)) fill seen new short result written (inr h) = inl h.1
    stopped_gate (suc (suc left)) fill seen new short result (inr err) (inl h) = absurd (not_both result h.0 err)
    stopped_gate (suc (suc left)) fill seen new short result (inl written) (inl h) =
        let enough : 4 ≤ suc (suc (suc (suc left))) = omega arith in
        let rests : rests_with_it (suc (suc (suc (suc left)))) fill ≡ true = ap (λ (b : Bool). b || (nat_eq (suc (suc (suc (suc left)))) 3 && nat_eq fill GATE_OPEN)) (le-leb 4 (suc (suc (suc (suc left)))) enough) in
        let shown : ShowsAfter before end payload seen = subst (ShowsAfter before end payload) (sym written) (open_gate_shows GATE_OPEN refl) in
        inr (
          (λ ok. enough, λ _. h.0),
          subst (λ (o : Option Stop). IsSomeAnd o (RestsBefore (suc (suc (suc (suc left)))) fill)) (sym h.1)
              (subst (λ (b : Bool). MatchBool b (ShowsAfter before end payload seen) (ShowsBefore before end seen)) (sym rests) shown),
        )

    -- the first step was made
    pub stopped_after : {U F : Type 0} (calls fill : ℕ) (bytes seen seen' : List ℕ) (mid new : Option Stop) (short short' : Bool) (first : Result U F) (result : Result T E) → IsOk first → seen ≡ staged
        → seen' ≡ with_bytes (end - 1) (GATE_OPEN ∷ []) staged ⊎ IsErr result
        → UsesTwo end (length bytes) seen calls (record { calls = calls; fill = fill; image = before }) mid short first
        → UsesBoth (end - 1) 1 seen' mid new short' result
        → Rests (Some (record { calls = calls; fill = fill; image = before })) new short' result
    stopped_after zero fill bytes seen seen' mid new short short' first result ok is written h k = absurd (not_both first ok h.0)
    stopped_after (suc zero) fill bytes seen seen' mid new short short' first result ok is written h k = absurd (not_both first ok h.0)
    stopped_after (suc (suc calls)) fill bytes seen seen' mid new short short' first result ok is written (inr h) k = absurd (not_both first ok h.0)
    stopped_after (suc (suc calls)) fill bytes seen seen' mid new short short' first result ok is written (inl h) k =
        stopped_gate calls fill seen' new short' result written
        (subst (λ (l : List ℕ). UsesTwo (end - 1) 1 seen' calls (record { calls = calls; fill = fill; image = l }) new short' result) is
        (subst (λ (o : Option Stop). UsesBoth (end - 1) 1 seen' o new short' result) h.1 k))

  -- the same of any disk, one that tells a stop from its one image
  pub rests_behind : {T E U F : Type 0} (bytes seen : List ℕ) (old new : Option Stop) (short : Bool) (first : Result U F) (result : Result T E) → IfSome old (λ stop. stop.image ≡ before) → IsErr first → IsErr result
      → UsesBoth end (length bytes) seen old new short first → RestsWith (ShowsBefore before end) (ShowsAfter before end payload) old new short result
  rests_behind bytes seen None new short first result image fails err h = h
  rests_behind bytes seen (Some stop) new short first result image fails err h =
      subst (λ (l : List ℕ). RestsWith (ShowsBefore before end) (ShowsAfter before end payload) (Some (record { calls = stop.calls; fill = stop.fill; image = l })) new short result) (sym image)
      (stopped_behind stop.calls stop.fill bytes seen new short first result fails err
      (subst (λ (l : List ℕ). UsesTwo end (length bytes) seen stop.calls (record { calls = stop.calls; fill = stop.fill; image = l }) new short first) image h))

  pub rests_after : {T E U F : Type 0} (bytes seen seen' : List ℕ) (old mid new : Option Stop) (short short' : Bool) (first : Result U F) (result : Result T E) → IfSome old (λ stop. stop.image ≡ before) → IsOk first
      → seen ≡ staged → seen' ≡ with_bytes (end - 1) (GATE_OPEN ∷ []) staged ⊎ IsErr result
      → UsesBoth end (length bytes) seen old mid short first → UsesBoth (end - 1) 1 seen' mid new short' result
      → RestsWith (ShowsBefore before end) (ShowsAfter before end payload) old new short' result
  rests_after bytes seen seen' None mid new short short' first result image ok is written h k = subst (λ (o : Option Stop). UsesBoth (end - 1) 1 seen' o new short' result) h k
  rests_after bytes seen seen' (Some stop) mid new short short' first result image ok is written h k =
      subst (λ (l : List ℕ). RestsWith (ShowsBefore before end) (ShowsAfter before end payload) (Some (record { calls = stop.calls; fill = stop.fill; image = l })) new short' result) (sym image)
      (stopped_after stop.calls stop.fill bytes seen seen' mid new short short' first result ok is written
      (subst (λ (l : List ℕ). UsesTwo end (length bytes) seen stop.calls (record { calls = stop.calls; fill = stop.fill; image = l }) mid short first) image h) k)
