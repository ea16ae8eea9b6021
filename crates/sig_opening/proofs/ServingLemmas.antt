-- A run: its door, and the store that is opened and put back while that is open.
use Rattle.std.proofs.Common.{◌≡◌, ℕ, Bool, List, Option, Result, refl, ap, subst}
use Rattle.sig_journal.specs.declared.fault.LoadFault.{LoadFault}
use Rattle.sig_links.specs.Told.{Coming, DoorEnd}
use Rattle.sig_outside.specs.declared.place.Place.{Place}
use Rattle.sig_links.specs.Views.{DoorView}
use Rattle.sig_opening.specs.Closing.{PutsBack}
use Rattle.sig_opening.specs.Door.{HasDoor, doors_of}
use Rattle.sig_opening.specs.Ends.{ByEnd, fails_by}
use Rattle.sig_opening.specs.Files.{IfBoth, StandsForState}
use Rattle.sig_opening.specs.Serving.{Around, AtDoor, NoRun, NoWatch, Run, StandsIdle, Watched, around, at_door, with_open}
use Rattle.sig_opening.specs.Watches.{AreInRow, RunsTo, Standing, Tells, standing}
use Rattle.sig_opening.specs.declared.ending.ServeEnd.{ServeEnd}
use Rattle.sig_opening.proofs.EndLemmas.{by_end, run_end}
use Rattle.sig_opening.proofs.FilesLemmas.{both_with}
use Rattle.sig_opening.proofs.ReadingLemmas.{tells_on}

-- what stands beside a store is told as before
pub around_same : {X : Type 0} (held : X → List ℕ → Option (List ℕ)) (doors : X → Option (List (List Coming))) (back : X → Option (List DoorEnd)) (a b : List ℕ) (x y : X)
    → held x ≡ held y → doors x ≡ doors y → back x ≡ back y → around held doors back a b x ≡ around held doors back a b y
around_same held doors back a b x y p q r = λ i. record { a = p i a; b = p i b; doors = doors_of (q i) (r i) }

-- no door was opened where all is told as before
pub no_run : (old new : Around) → new ≡ old → NoRun old new
no_run old new same = record {
  files = (tells_on old.a new.a (ap (λ (x : Around). x.a) same), tells_on old.b new.b (ap (λ (x : Around). x.b) same));
  doors = ap (λ (x : Around). x.doors) same;
}

-- ---- while a door is open

-- what a watch does to the files of a node, watches do
pub files_kept : {N S W : Type 0} (state : N → S) (files : N → Bool × Bool) (is : W → Standing S → Standing S → Type 0) (tells : W → Tells) (end : ServeEnd) (asked : ℕ) (first last : DoorView) (before after : N)
    → ((watches : List W) (a b : Standing S) → AreInRow is watches a b → b.files ≡ a.files)
    → RunsTo is tells end asked (standing (state before) (files before) first) (standing (state after) (files after) last) → files after ≡ files before
files_kept state files is tells end asked first last before after keeps runs =
    keeps runs.watches (standing (state before) (files before) first) (standing (state after) (files after) last) runs.each

-- watches over a store that was opened and put back, by what a node tells of its state and of its two files
pub runs_over : {N S C W : Type 0} (state : N → S) (files : N → Bool × Bool) (a_of b_of : N → Option (List ℕ))
    → (means : List ℕ → List ℕ → Result S LoadFault) (after : S → C → S) (is : W → Standing S → Standing S → Type 0) (tells : W → Tells) (comes_to : S → List W → S)
    → (end : ServeEnd) (asked : ℕ) (old new : AtDoor) (node node' : N)
    → ((watches : List W) (x y : Standing S) → AreInRow is watches x y → y.files ≡ x.files)
    → ((watches : List W) (x y : Standing S) → x.state ≡ state node → AreInRow is watches x y → y.state ≡ comes_to (state node) watches)
    → StandsForState means old.a old.b (state node)
    → RunsTo is tells end asked (standing (state node) (files node) old.door) (standing (state node') (files node') new.door)
    → IfBoth (a_of node') (b_of node') (PutsBack means after (fails_by end) (state node')) → new.a ≡ a_of node' → new.b ≡ b_of node'
    → ByEnd end ⊥ (StandsIdle old new) (Watched means after is tells comes_to end asked old new)
runs_over {S = S} state files a_of b_of means after is tells comes_to end asked old new node node' keeps sums opened runs back is_a is_b =
    let from : Standing S = standing (state node) (files node) old.door in
    let to : Standing S = standing (state node') (files node') new.door in
    let watches = runs.watches in
    let state_is : state node' ≡ comes_to (state node) watches = sums watches from to refl runs.each in
    let files_is : files node' ≡ files node = keeps watches from to runs.each in
    let whole : Watched means after is tells comes_to end asked old new = record {
      before = state node;
      opened = opened;
      files = files node;
      watches = watches;
      each = subst (λ (p : Bool × Bool). AreInRow is watches from (standing (comes_to (state node) watches) p new.door)) files_is
          (subst (λ (s : S). AreInRow is watches from (standing s (files node') new.door)) state_is runs.each);
      ends = runs.ends;
      back = subst (λ (s : S). IfBoth new.a new.b (PutsBack means after (fails_by end) s)) state_is
          (both_with new.a new.b (a_of node') (b_of node') (PutsBack means after (fails_by end) (state node')) is_a is_b back);
    } in
    run_end end ⊥ (StandsIdle old new) (Watched means after is tells comes_to end asked old new) runs.ends.kind whole

-- ---- with its door

-- what stands beside a door is told as before
pub at_same : {X : Type 0} (held : X → List ℕ → Option (List ℕ)) (a b : List ℕ) (x y : X) (door : DoorView) → held x ≡ held y → at_door held a b x door ≡ at_door held a b y door
at_same held a b x y door p = λ i. record { a = p i a; b = p i b; door = door }

-- a door at which no watch began was given back as it was handed out
idle_around : (place : Place) (old new : Around) (first last : DoorView) → HasDoor place old.doors new.doors first last → StandsIdle (with_open old first) (with_open new last) → NoWatch place old new
idle_around place old new first last door idle =
    record { files = idle.files; first = first; door = subst (λ (d : DoorView). HasDoor place old.doors new.doors first d) idle.door door }

-- what was done at a door is what was done by opening it and giving it back
pub ends_around : (place : Place) (end : ServeEnd) (old new : Around) (first last : DoorView) (from to : AtDoor) (watched run : Type 0) → HasDoor place old.doors new.doors first last
    → from ≡ with_open old first → to ≡ with_open new last → (watched → run)
    → ByEnd end ⊥ (StandsIdle from to) watched → ByEnd end (NoRun old new) (NoWatch place old new) run
ends_around place end old new first last from to watched run door is_from is_to ran h =
    by_end end ⊥ (StandsIdle from to) watched (NoRun old new) (NoWatch place old new) run (λ none. absurd none)
    (λ idle. idle_around place old new first last door
    (subst (λ (x : AtDoor). StandsIdle (with_open old first) x) is_to (subst (λ (x : AtDoor). StandsIdle x to) is_from idle))) ran h

-- and so are its watches a run
pub run_around : {S C W : Type 0} (means : List ℕ → List ℕ → Result S LoadFault) (after : S → C → S) (is : W → Standing S → Standing S → Type 0) (tells : W → Tells) (comes_to : S → List W → S)
    → (place : Place) (end : ServeEnd) (asked : ℕ) (old new : Around) (first last : DoorView) (from to : AtDoor) → HasDoor place old.doors new.doors first last
    → from ≡ with_open old first → to ≡ with_open new last
    → Watched means after is tells comes_to end asked from to → Run means after is tells comes_to place end asked old new
run_around means after is tells comes_to place end asked old new first last from to door is_from is_to watched = record {
  first = first;
  last = last;
  door = door;
  watched = subst (λ (x : AtDoor). Watched means after is tells comes_to end asked (with_open old first) x) is_to
      (subst (λ (x : AtDoor). Watched means after is tells comes_to end asked x to) is_from watched);
}
