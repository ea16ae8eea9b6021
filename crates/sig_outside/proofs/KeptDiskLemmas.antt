-- What a call of a disk in memory leaves, in the words of a disk.
use Rattle.std.proofs.Common.{◌≡◌, ◌⊎◌, inl, inr, ⊎_elim, ℕ, zero, suc, ◌+◌, ◌-◌, ◌≤◌, List, [], ◌∷◌, ◌++◌, length, take, Bool, true, false, nat_lt, Option, Some, None, Result, Ok, Err, refl, sym, ◌∙◌, ap, subst, arith}
use Rattle.std.proofs.lemmas.Bool.{false≢true}
use Rattle.std.proofs.lemmas.Bool.Decides.{nat_tests}
use Rattle.std.proofs.lemmas.List.{append-nil}
use Rattle.std.specs.Prelude.{Vec, cond, is_ok, is_err, OnOk, IsTrue, IsOk, IsErr, not, ◌&&◌, nat_eq}
use Rattle.std.specs.List.{list_any}
use Rattle.std.specs.declared.alloc.Global.{Global}
use Rattle.sig_outside.specs.declared.disk_call.DiskCall.{DiskCall}
use Rattle.sig_outside.specs.declared.disk_call.DiskCall.TheVariants.{Wrote, Cut, Synced}
use Rattle.sig_outside.specs.declared.disk_call.Standstill.{Standstill}
use Rattle.sig_outside.specs.Causes.{HasCause}
use Rattle.sig_outside.specs.Disk as disk
use Rattle.sig_outside.specs.DiskCalls.{content, Leaves, resting}
use Rattle.sig_outside.specs.DiskLaws.{reads_kept}
use Rattle.sig_outside.specs.KeptDisk.{Kept, Looks, Makes, began, bytes_now, ended, failed, goes_on, left_since, may_go, may_leave, seen, starved, stop_at, stop_of, stop_told, tells_stop, used, with_calls}
use Rattle.sig_outside.proofs.DiskCallLemmas.{content-append, resting-append, leaves_split, elapses_one, elapses_none, torn_same, cut_same}

stands_why : (failing : List ℕ) (made : ℕ) (still : Option Standstill) → (not (list_any (nat_eq made) failing) && goes_on still) ≡ false → (tells_stop failing ≡ false) ⊎ (goes_on still ≡ false)
stands_why [] made still stands = inr stands
stands_why (number ∷ numbers) made still stands = inl refl

goes_why : (fails goes : Bool) → (not fails && goes) ≡ true → goes ≡ true
goes_why true goes both = absurd (false≢true both)
goes_why false goes both = both

module _ {T E : Type 0} where
  -- what is left now was left before, or the call left it of that
  makes_images : (more : List DiskCall) (old new : Kept) (result : Result T E) → Makes more old new result → (image : List ℕ) → may_leave new image
      → may_leave old image ⊎ ((mid : List ℕ) × may_leave old mid × Leaves (seen old) mid more image)
  makes_images more old new (Ok x) m image left =
      inr (leaves_split old.first old.first image old.calls more (subst (λ (k : Kept). may_leave k image) m.1 left))
  makes_images more old new (Err e) (inl m) image left = inl (subst (λ (k : Kept). may_leave k image) m.1 left)
  makes_images more old new (Err e) (inr m) image left = inl (subst (λ (k : Kept). may_leave k image) m.1 left)

  pub wrote_images : (at : ℕ) (bytes : List ℕ) (old new : Kept) (result : Result T E) → Makes (Wrote at bytes ∷ []) old new result
      → disk.Follows (disk.Torn at (length bytes)) (may_leave old) (may_leave new)
  wrote_images at bytes old new result m image left = elim (makes_images (Wrote at bytes ∷ []) old new result m image left) [
    | inl same ↦ (image, same, torn_same at (length bytes) image)
    | inr step ↦ (step.0, step.1, subst (λ (i : List ℕ). disk.Torn at (length bytes) step.0 i) (sym step.2.2) step.2.1)
  ]

  pub cut_images : (size : ℕ) (old new : Kept) (result : Result T E) → Makes (Cut size ∷ []) old new result
      → disk.Follows (disk.Cut size) (may_leave old) (may_leave new)
  cut_images size old new result m image left = elim (makes_images (Cut size ∷ []) old new result m image left) [
    | inl same ↦ (image, same, cut_same size image)
    | inr step ↦ (step.0, step.1, subst (λ (i : List ℕ). disk.Cut size step.0 i) (sym step.2.2) step.2.1)
  ]

  pub synced_images : (old new : Kept) (result : Result T E) → Makes (Synced ∷ []) old new result → disk.Unchanged (may_leave old) (may_leave new)
  synced_images old new result m image left = elim (makes_images (Synced ∷ []) old new result m image left) [
    | inl same ↦ same
    | inr step ↦ subst (λ (i : List ℕ). may_leave old i) (sym step.2) (reads_kept old)
  ]

  pub synced_only : (old new : Kept) (result : Result T E) → Makes (Synced ∷ []) old new result → OnOk result (disk.Only (seen old) (may_leave new))
  synced_only old new (Ok x) m =
      λ image left. (leaves_split old.first old.first image old.calls (Synced ∷ []) (subst (λ (k : Kept). may_leave k image) m.1 left)).2
  synced_only old new (Err e) m = tt

  -- a call that fails changes nothing that is read
  pub makes_seen : (more : List DiskCall) (old new : Kept) (result : Result T E) → Makes more old new result → OnOk result (seen new ≡ content (seen old) more)
  makes_seen more old new (Ok x) m = ap seen m.1 ∙ content-append old.first old.calls more
  makes_seen more old new (Err e) m = tt

  pub synced_seen : (old new : Kept) (result : Result T E) → Makes (Synced ∷ []) old new result → seen new ≡ seen old
  synced_seen old new (Ok x) m = ap seen m.1 ∙ content-append old.first old.calls (Synced ∷ [])
  synced_seen old new (Err e) (inl m) = ap seen m.1
  synced_seen old new (Err e) (inr m) = ap seen m.1

  pub makes_time : (call : DiskCall) (old new : Kept) (result : Result T E) → Makes (call ∷ []) old new result
      → disk.Elapses (length old.calls) (length new.calls) (left_since old) (left_since new) (may_leave new)
  makes_time call old new (Ok x) m =
      subst (λ (k : Kept). disk.Elapses (length old.calls) (length k.calls) (left_since old) (left_since k) (may_leave k)) (sym m.1) (elapses_one old.first old.calls call)
  makes_time call old new (Err e) (inl m) =
      subst (λ (k : Kept). disk.Elapses (length old.calls) (length k.calls) (left_since old) (left_since k) (may_leave k)) (sym m.1) (elapses_none old.first old.calls)
  makes_time call old new (Err e) (inr m) =
      subst (λ (k : Kept). disk.Elapses (length old.calls) (length k.calls) (left_since old) (left_since k) (may_leave k)) (sym m.1) (elapses_none old.first old.calls)

  pub makes_kind : (more : List DiskCall) (old new : Kept) (result : Result T E) → Makes more old new result → tells_stop new.failing ≡ tells_stop old.failing
  makes_kind more old new (Ok x) m = ap (λ (k : Kept). tells_stop k.failing) m.1
  makes_kind more old new (Err e) (inl m) = ap (λ (k : Kept). tells_stop k.failing) m.1
  makes_kind more old new (Err e) (inr m) = ap (λ (k : Kept). tells_stop k.failing) m.1

  pub makes_short : (more : List DiskCall) (old new : Kept) (result : Result T E) → Makes more old new result → disk.GetsShort old.short new.short result
  makes_short more old new (Ok x) m =
      let same : new.short ≡ old.short = ap (λ (k : Kept). k.short) m.1 in
      record { stays = λ was. subst (λ (b : Bool). IsTrue b) (sym same) was; only_failed = same }
  makes_short more old new (Err e) (inl m) =
      let same : new.short ≡ old.short = ap (λ (k : Kept). k.short) m.1 in
      record { stays = λ was. subst (λ (b : Bool). IsTrue b) (sym same) was; only_failed = tt }
  makes_short more old new (Err e) (inr m) =
      let is : new.short ≡ true = ap (λ (k : Kept). k.short) m.1 in
      record { stays = λ was. subst (λ (b : Bool). IsTrue b) (sym is) refl; only_failed = tt }

  pub makes_cause : (more : List DiskCall) (old new : Kept) (result : Result T E) → Makes more old new result → old.faults ≤ new.faults → HasCause old.faults new.faults result
  makes_cause more old new (Ok x) m later = record { stays = ap (λ (k : Kept). k.faults) m.1; failed = tt }
  makes_cause more old new (Err e) (inl m) later = record { stays = tt; failed = (later, ap (λ (k : Kept). k.faults) m.1) }
  makes_cause more old new (Err e) (inr m) later = record { stays = tt; failed = (later, ap (λ (k : Kept). k.faults) m.1) }

  -- a call with a call left uses it
  uses_left : (more : List DiskCall) (first : List ℕ) (calls : List DiskCall) (left fill : ℕ) (short : Bool) (result : Result T E) → IsOk result → nat_lt 0 left ≡ true
      → disk.UsesOne (λ f s i. resting f s i more) (content first calls) left (record { calls = left; fill = fill; image = resting fill first first calls })
      (Some (record { calls = left - 1; fill = fill; image = resting fill first first (calls ++ more) })) short result
  uses_left more first calls zero fill short result ok goes = absurd (grind (arith, nat_tests))
  uses_left more first calls (suc n) fill short result ok goes =
      let one : suc n - 1 ≡ n = omega arith in
      inl (ok, (λ i. Some (record { calls = one i; fill = fill; image = resting-append fill first first calls more i })))

  none_left : (rests : ℕ → List ℕ → List ℕ → List ℕ) (bytes : List ℕ) (stop : disk.Stop) (left : ℕ) (short : Bool) (result : Result T E) → IsErr result → nat_lt 0 left ≡ false
      → disk.UsesOne rests bytes left stop (Some stop) short result
  none_left rests bytes stop zero short result err stands = (err, refl)
  none_left rests bytes stop (suc n) short result err stands = absurd (grind (arith, nat_tests))

  short_left : (rests : ℕ → List ℕ → List ℕ → List ℕ) (bytes : List ℕ) (stop : disk.Stop) (left : ℕ) (short : Bool) (result : Result T E) → IsErr result → IsTrue short → nat_lt 0 left ≡ true
      → disk.UsesOne rests bytes left stop (Some stop) short result
  short_left rests bytes stop zero short result err is goes = absurd (grind (arith, nat_tests))
  short_left rests bytes stop (suc n) short result err is goes = inr (err, is)

  -- the same over where it stands still, if anywhere
  still_used : (more : List DiskCall) (tells : Bool) (first : List ℕ) (calls : List DiskCall) (still : Option Standstill) (short : Bool) (result : Result T E) → IsOk result → goes_on still ≡ true
      → disk.Uses (λ f s i. resting f s i more) (content first calls) (stop_told tells first calls still) (stop_told tells first (calls ++ more) (used still)) short result
  still_used more false first calls still short result ok goes = refl
  still_used more true first calls None short result ok goes = refl
  still_used more true first calls (Some still) short result ok goes = uses_left more first calls still.calls still.fill short result ok goes

  still_stands : (more : List DiskCall) (tells : Bool) (first : List ℕ) (calls : List DiskCall) (still : Option Standstill) (short : Bool) (result : Result T E) → IsErr result → (tells ≡ false) ⊎ (goes_on still ≡ false)
      → disk.Uses (λ f s i. resting f s i more) (content first calls) (stop_told tells first calls still) (stop_told tells first calls still) short result
  still_stands more false first calls still short result err why = refl
  still_stands more true first calls None short result err why = refl
  still_stands more true first calls (Some still) short result err (inl not_told) = absurd (false≢true (sym not_told))
  still_stands more true first calls (Some still) short result err (inr none) = none_left (λ f s i. resting f s i more) (content first calls) (record { calls = still.calls; fill = still.fill; image = resting still.fill first first calls }) still.calls short result err none

  still_short : (more : List DiskCall) (tells : Bool) (first : List ℕ) (calls : List DiskCall) (still : Option Standstill) (short : Bool) (result : Result T E) → IsErr result → IsTrue short → goes_on still ≡ true
      → disk.Uses (λ f s i. resting f s i more) (content first calls) (stop_told tells first calls still) (stop_told tells first calls still) short result
  still_short more false first calls still short result err is goes = refl
  still_short more true first calls None short result err is goes = refl
  still_short more true first calls (Some still) short result err is goes = short_left (λ f s i. resting f s i more) (content first calls) (record { calls = still.calls; fill = still.fill; image = resting still.fill first first calls }) still.calls short result err is goes

  abbrev UsesCall : List DiskCall → Kept → Result T E → Kept → Type 0
  UsesCall more old result new = disk.Uses {T = T} {E = E} (λ f s i. resting f s i more) (seen old) (stop_of old) (stop_of new) new.short result

  pub makes_stop : (more : List DiskCall) (old new : Kept) (result : Result T E) → Makes more old new result → UsesCall more old result new
  makes_stop more old new (Ok x) m =
      subst (UsesCall more old (Ok x)) (sym m.1)
      (still_used more (tells_stop old.failing) old.first old.calls old.stop old.short (Ok x) refl (goes_why (list_any (nat_eq old.made) old.failing) (goes_on old.stop) m.0))
  makes_stop more old new (Err e) (inl m) =
      subst (UsesCall more old (Err e)) (sym m.1)
      (still_stands more (tells_stop old.failing) old.first old.calls old.stop old.short (Err e) refl (stands_why old.failing old.made old.stop m.0))
  makes_stop more old new (Err e) (inr m) =
      subst (UsesCall more old (Err e)) (sym m.1)
      (still_short more (tells_stop old.failing) old.first old.calls old.stop true (Err e) refl refl (goes_why (list_any (nat_eq old.made) old.failing) (goes_on old.stop) m.0))

  -- a call that looks is one that does nothing to the file
  pub looks_makes : (old new : Kept) (result : Result T E) → Looks old new result → Makes [] old new result
  looks_makes old new (Ok x) m = (m.0, m.1 ∙ ap (λ (l : List DiskCall). record (ended (began old)) { calls = l }) (sym (append-nil old.calls)))
  looks_makes old new (Err e) m = inl m

  pub looks_images : (old new : Kept) (result : Result T E) → Looks old new result → disk.Unchanged (may_leave old) (may_leave new)
  looks_images old new (Ok x) m image left = subst (λ (k : Kept). may_leave k image) m.1 left
  looks_images old new (Err e) m image left = subst (λ (k : Kept). may_leave k image) m.1 left

  pub looks_seen : (old new : Kept) (result : Result T E) → Looks old new result → seen new ≡ seen old
  looks_seen old new (Ok x) m = ap seen m.1
  looks_seen old new (Err e) m = ap seen m.1

  pub looks_time : (old new : Kept) (result : Result T E) → Looks old new result
      → disk.Elapses (length old.calls) (length new.calls) (left_since old) (left_since new) (may_leave new)
  looks_time old new (Ok x) m =
      subst (λ (k : Kept). disk.Elapses (length old.calls) (length k.calls) (left_since old) (left_since k) (may_leave k)) (sym m.1) (elapses_none old.first old.calls)
  looks_time old new (Err e) m =
      subst (λ (k : Kept). disk.Elapses (length old.calls) (length k.calls) (left_since old) (left_since k) (may_leave k)) (sym m.1) (elapses_none old.first old.calls)

-- the bytes beside the first ones go on with each call
pub kept_now : (first given : List ℕ) (old new : Option (Vec ℕ Global)) (calls later : List DiskCall) (call : DiskCall) → given ≡ first
    → bytes_now given new ≡ content (bytes_now given old) (call ∷ []) → bytes_now first old ≡ content first calls → later ≡ calls ++ call ∷ [] → bytes_now first new ≡ content first later
kept_now first given old new calls later call is did before grew =
    subst (λ (l : List ℕ). bytes_now l new ≡ content (bytes_now l old) (call ∷ [])) is did
    ∙ ap (λ (l : List ℕ). content l (call ∷ [])) before ∙ sym (content-append first calls (call ∷ [])) ∙ ap (λ (l : List DiskCall). content first l) (sym grew)

-- a call that had room was added
pub pushed : {T E : Type 0} (result : Result T E) (old later : List DiskCall) (call : DiskCall) → later ≡ cond (is_ok result) (old ++ call ∷ []) old → false ≡ is_err result → later ≡ old ++ call ∷ []
pushed (Ok x) old later call is ok = is
pushed (Err e) old later call is ok = absurd (false≢true ok)
