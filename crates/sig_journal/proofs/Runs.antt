-- Runs of calls of a disk that is to stand still, one after the other.
use Rattle.std.proofs.Common.{◌≡◌, inl, inr, ℕ, suc, ◌+◌, ◌-◌, ◌≤◌, ◌<◌, List, Bool, true, false, nat_eq, nat_le, Option, Some, None, Result, Ok, Err, sym, ◌∙◌, ap, subst, arith}
use Rattle.std.proofs.lemmas.Bool.{false≢true, le-leb}
use Rattle.std.proofs.lemmas.Bool.Decides.{nat_tests}
use Rattle.std.specs.Prelude.{◌||◌, ◌&&◌, IsOk, IsErr, IsSomeAnd, MatchBool, OnOk, is_ok, is_err}
use Rattle.sig_outside.specs.Disk.{Stop}
use Rattle.sig_journal.specs.declared.layout.TheConstants.{GATE_OPEN}
use Rattle.sig_journal.specs.Runs.{RestsAfter, UsesRun, opens_it}

not_both : {T E : Type 0} (result : Result T E) → IsOk result → IsErr result → ⊥
not_both (Ok x) ok err = false≢true err
not_both (Err e) ok err = false≢true ok

some_map : (P Q : List ℕ → Type 0) (new : Option Stop) → ((image : List ℕ) → P image → Q image) → IsSomeAnd new (λ rest. P rest.image) → IsSomeAnd new (λ rest. Q rest.image)
some_map P Q None f h = h
some_map P Q (Some rest) f h = f rest.image h

pub matches : (b : Bool) (A B C E : Type 0) → (A → C) → (B → E) → MatchBool b A B → MatchBool b C E
matches true A B C E f g h = f h
matches false A B C E f g h = g h

-- what holds of an answer that is Ok
pub from_is_ok : {T E : Type 0} {P : Type 0} (result : Result T E) → IsOk result → OnOk result P → P
from_is_ok (Ok x) ok h = h
from_is_ok (Err e) ok h = absurd (false≢true ok)

-- the same run, of which less is said
pub run_map : {T E U F : Type 0} (calls : ℕ) (P Q : ℕ → ℕ → List ℕ → Type 0) (seen : List ℕ) (old new : Option Stop) (short : Bool) (call : Result U F) (result : Result T E) → is_ok result ≡ is_ok call → is_err result ≡ is_err call
    → ((left fill : ℕ) (image : List ℕ) → P left fill image → Q left fill image) → UsesRun calls P seen old new short call → UsesRun calls Q seen old new short result
run_map calls P Q seen None new short call result ok err f h = h
run_map calls P Q seen (Some stop) new short call result ok err f (inl h) = inl (record { enough = h.enough; ok = ok ∙ h.ok; left = h.left })
run_map calls P Q seen (Some stop) new short call result ok err f (inr (inl h)) =
    inr (inl (record { few = h.few; err = err ∙ h.err; resting = some_map (P stop.calls stop.fill) (Q stop.calls stop.fill) new (f stop.calls stop.fill) h.resting }))
run_map calls P Q seen (Some stop) new short call result ok err f (inr (inr h)) = inr (inr (err ∙ h.0, h.1))

-- a run whose first part was made
module _ {T E U F : Type 0} (calls more : ℕ) (P Q R : ℕ → ℕ → List ℕ → Type 0) (seen later : List ℕ) (result : Result T E) (first : Result U F) (made : IsOk first)
    (f : (left fill : ℕ) (image : List ℕ) → left < more → Q left fill image → R (calls + left) fill image) where
  left_over : (stop : Stop) (new : Option Stop) (short : Bool) → calls ≤ stop.calls
      → UsesRun more Q later (Some (record { calls = stop.calls - calls; fill = stop.fill; image = seen })) new short result → UsesRun (calls + more) R later (Some stop) new short result
  left_over stop new short enough (inl h) =
      let fewer : stop.calls - calls - more ≡ stop.calls - (calls + more) = omega arith in
      inl (record { enough = omega (arith, h.enough, enough); ok = h.ok; left = h.left ∙ (λ i. Some (record { calls = fewer i; fill = stop.fill; image = later })) })
  left_over stop new short enough (inr (inl h)) =
      let all : calls + (stop.calls - calls) ≡ stop.calls = omega (arith, enough) in
      inr (inl (record {
        few = omega (arith, h.few, enough);
        err = h.err;
        resting = some_map (Q (stop.calls - calls) stop.fill) (R stop.calls stop.fill) new
            (λ image q. subst (λ (n : ℕ). R n stop.fill image) all (f (stop.calls - calls) stop.fill image h.few q)) h.resting;
      }))
  left_over stop new short enough (inr (inr h)) = inr (inr h)

  pub run_then : (old mid new : Option Stop) (short short' : Bool) → UsesRun calls P seen old mid short first → UsesRun more Q later mid new short' result → UsesRun (calls + more) R later old new short' result
  run_then None mid new short short' h k = subst (λ (o : Option Stop). UsesRun more Q later o new short' result) h k
  run_then (Some stop) mid new short short' (inl h) k =
      left_over stop new short' h.enough (subst (λ (o : Option Stop). UsesRun more Q later o new short' result) h.left k)
  run_then (Some stop) mid new short short' (inr (inl h)) k = absurd (not_both first made h.err)
  run_then (Some stop) mid new short short' (inr (inr h)) k = absurd (not_both first made h.0)

-- what a disk rests with, by how many calls of a run were made that ends with opening a gate
pub run_rests : {T E : Type 0} (needed : ℕ) (IsBefore IsAfter : List ℕ → Type 0) (seen : List ℕ) (old new : Option Stop) (short : Bool) (result : Result T E) → (IsOk result → IsAfter seen)
    → UsesRun needed (λ calls fill image. MatchBool (opens_it needed calls fill) (IsAfter image) (IsBefore image)) seen old new short result → RestsAfter needed IsBefore IsAfter old new short result
run_rests needed IsBefore IsAfter seen None new short result after h = h
run_rests needed IsBefore IsAfter seen (Some stop) new short result after (inl h) =
    let opens : opens_it needed stop.calls stop.fill ≡ true = ap (λ (b : Bool). b || (nat_eq (suc stop.calls) needed && nat_eq stop.fill GATE_OPEN)) (le-leb needed stop.calls h.enough) in
    inr (
      (λ ok. h.enough, λ enough. h.ok),
      subst (λ (o : Option Stop). IsSomeAnd o (λ rest. MatchBool (opens_it needed stop.calls stop.fill) (IsAfter rest.image) (IsBefore rest.image))) (sym h.left)
          (subst (λ (b : Bool). MatchBool b (IsAfter seen) (IsBefore seen)) (sym opens) (after h.ok)),
    )
run_rests needed IsBefore IsAfter seen (Some stop) new short result after (inr (inl h)) =
    inr ((λ ok. absurd (not_both result ok h.err), λ enough. absurd (omega (arith, enough, h.few))), h.resting)
run_rests needed IsBefore IsAfter seen (Some stop) new short result after (inr (inr h)) = inl h.1

-- in the last part of such a run the gate is opened where its write was made and the fill opens it
pub opens_last : (before calls fill : ℕ) → calls < 2 → opens_it (before + 2) (before + calls) fill ≡ (nat_eq calls 1 && nat_eq fill GATE_OPEN)
opens_last before calls fill few = (λ i. no i || (same i && nat_eq fill GATE_OPEN))
  where
    no : nat_le (before + 2) (before + calls) ≡ false
    no = grind (arith, nat_tests)

    same : nat_eq (suc (before + calls)) (before + 2) ≡ nat_eq calls 1
    same = grind (arith, nat_tests)

-- the same of what follows from the images
pub rests_map : {T E U F : Type 0} (needed : ℕ) (B A B' A' : List ℕ → Type 0) (old new : Option Stop) (short : Bool) (call : Result U F) (result : Result T E) → is_ok result ≡ is_ok call
    → ((image : List ℕ) → B image → B' image) → ((image : List ℕ) → A image → A' image) → RestsAfter needed B A old new short call → RestsAfter needed B' A' old new short result
rests_map needed B A B' A' None new short call result same f g h = h
rests_map needed B A B' A' (Some stop) new short call result same f g (inl h) = inl h
rests_map needed B A B' A' (Some stop) new short call result same f g (inr h) =
    inr (
      (λ ok. h.0.0 (sym same ∙ ok), λ enough. same ∙ h.0.1 enough),
      some_map (λ image. MatchBool (opens_it needed stop.calls stop.fill) (A image) (B image)) (λ image. MatchBool (opens_it needed stop.calls stop.fill) (A' image) (B' image)) new
          (λ image. matches (opens_it needed stop.calls stop.fill) (A image) (B image) (A' image) (B' image) (g image) (f image)) h.1,
    )
