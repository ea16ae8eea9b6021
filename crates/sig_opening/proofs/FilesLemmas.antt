-- What the outside tells of files that are opened, loaded and put back.
use Rattle.std.proofs.Common.{◌≡◌, ◌∙◌, ℕ, ◌<◌, ◌≤◌, Bool, true, false, List, Option, Some, None, Result, Ok, Err, inl, inr, refl, sym, ap, subst, arith}
use Rattle.std.specs.Prelude.{◌⊎◌, IsSome, IsTrue}
use Rattle.sig_outside.specs.Causes.{Rose}
use Rattle.sig_links.specs.Told.{Gathers, stored}
use Rattle.sig_journal.specs.declared.fault.LoadFault.{LoadFault}
use Rattle.sig_journal.specs.declared.fault.LoadFault.TheVariants as load
use Rattle.sig_journal.specs.declared.kind.Kind.{Kind}
use Rattle.sig_journal.specs.Journal.{BothTold, Open, store_with, told_store}
use Rattle.sig_journal.specs.Store.{pick, tells}
use Rattle.sig_journal.specs.Standing.{InFlight, StandsFor}
use Rattle.sig_journal.specs.Stored.{Stored}
use Rattle.sig_journal.specs.Taking.{Taking, loaded}
use Rattle.sig_opening.specs.Closing.{PutsBack}
use Rattle.sig_opening.specs.Ends.{BreaksAfter, BreaksBy, fails_by}
use Rattle.sig_opening.specs.declared.ending.ServeEnd.{ServeEnd}
use Rattle.sig_opening.specs.declared.ending.ServeEnd.TheVariants.{Done, SettingsFailed, Refused, NoStore, StoreFailed, Damaged, NetworkFailed, Disagree, Memory}
use Rattle.sig_opening.specs.Files.{HaltsFiles, HaltsOpening, HaltsStore, IfBoth, IsToldBy, of_load}
use Rattle.sig_opening.specs.Stays.{TellsSame}
use Rattle.sig_opening.specs.declared.unopened.Unopened.{Unopened}
use Rattle.sig_opening.specs.declared.unopened.Unopened.TheVariants as unopened

-- ---- one file

pub stored_true : (told : Bool) (seen : List ℕ) → IsTrue told → stored told seen ≡ Some seen
stored_true true seen h = refl
stored_true false seen h = absurd cc

-- a file that was told is told the same by a disk that tells it so
pub told_stored : {D : Type 0} (told : D → Bool) (seen : D → List ℕ) (file : Option (List ℕ)) (disk : D) → IsToldBy told seen file disk → TellsSame file (stored (told disk) (seen disk))
told_stored told seen None disk h = tt
told_stored told seen (Some bytes) disk h = stored_true (told disk) (seen disk) h.0 ∙ ap (λ (s : List ℕ). Some s) h.1

-- a disk that tells as another did
pub told_on : {D : Type 0} (told : D → Bool) (seen : D → List ℕ) (file : Option (List ℕ)) (disk disk' : D) → told disk' ≡ told disk → seen disk' ≡ seen disk
    → IsToldBy told seen file disk → IsToldBy told seen file disk'
told_on told seen None disk disk' same seen_same h = tt
told_on told seen (Some bytes) disk disk' same seen_same h = (same ∙ h.0, seen_same ∙ h.1)

pub told_as : {D : Type 0} (told : D → Bool) (seen : D → List ℕ) (file now : Option (List ℕ)) (disk : D) → now ≡ file → IsToldBy told seen now disk → IsToldBy told seen file disk
told_as told seen file now disk same h = subst (λ (o : Option (List ℕ)). IsToldBy told seen o disk) same h

some_stored : (b : Bool) (seen : List ℕ) → IsTrue b → IsSome (stored b seen)
some_stored b seen h = subst (λ (o : Option (List ℕ)). IsSome o) (sym (stored_true b seen h)) refl

-- a file that was told is told again
pub still_told : {D : Type 0} (told : D → Bool) (seen : D → List ℕ) (file now : Option (List ℕ)) (disk disk' : D) → IsToldBy told seen file disk → told disk' ≡ told disk
    → now ≡ stored (told disk') (seen disk') → IsSome file → IsSome now
still_told told seen None now disk disk' h same is some = absurd cc
still_told told seen (Some bytes) now disk disk' h same is some =
    subst (λ (o : Option (List ℕ)). IsSome o) (sym is) (some_stored (told disk') (seen disk') (same ∙ h.0))

pub same_told : (before now : Option (List ℕ)) → TellsSame before now → IsSome before → IsSome now
same_told None now same some = absurd cc
same_told (Some bytes) now same some = subst (λ (o : Option (List ℕ)). IsSome o) (sym same) refl

pub same_stored : {D : Type 0} (told : D → Bool) (seen : D → List ℕ) (file now : Option (List ℕ)) (disk : D) → IsToldBy told seen file disk → now ≡ stored (told disk) (seen disk) → TellsSame file now
same_stored told seen file now disk h is = subst (TellsSame file) (sym is) (told_stored told seen file disk h)

-- ---- both

pub both_stored : (p q : Bool) (s t : List ℕ) (P : List ℕ → List ℕ → Type 0) → (IsTrue p → IsTrue q → P s t) → IfBoth (stored p s) (stored q t) P
both_stored true true s t P h = h refl refl
both_stored true false s t P h = tt
both_stored false q s t P h = tt

-- what holds of the bytes of two disks holds of the files that they tell
pub both_told : {D : Type 0} (told : D → Bool) (seen : D → List ℕ) (a b : Option (List ℕ)) (first second : D) (P : List ℕ → List ℕ → Type 0)
    → IsToldBy told seen a first → IsToldBy told seen b second → (IsTrue (told first) → IsTrue (told second) → P (seen first) (seen second)) → IfBoth a b P
both_told told seen None b first second P p q h = tt
both_told told seen (Some s) None first second P p q h = tt
both_told told seen (Some s) (Some t) first second P p q h =
    subst (λ (x : List ℕ). P x t) p.1 (subst (λ (y : List ℕ). P (seen first) y) q.1 (h p.0 q.0))

pub both_with : (a b x y : Option (List ℕ)) (P : List ℕ → List ℕ → Type 0) → a ≡ x → b ≡ y → IfBoth x y P → IfBoth a b P
both_with a b x y P p q h = subst (λ (o : Option (List ℕ)). IfBoth o b P) (sym p) (subst (λ (o : Option (List ℕ)). IfBoth x o P) (sym q) h)

-- both files of a store that was told are told again
pub both_stay : {D : Type 0} (told : D → Bool) (seen : D → List ℕ) (a b a' b' : Option (List ℕ)) (first second first' second' : D) → IsToldBy told seen a first → IsToldBy told seen b second
    → ◌≡◌ {A = Bool × Bool} (told first', told second') (told first, told second) → a' ≡ stored (told first') (seen first') → b' ≡ stored (told second') (seen second')
    → (IsSome a → IsSome a') × (IsSome b → IsSome b')
both_stay told seen a b a' b' first second first' second' p q same is_a is_b = (
  still_told told seen a a' first first' p (ap (λ (x : Bool × Bool). x.0) same) is_a,
  still_told told seen b b' second second' q (ap (λ (x : Bool × Bool). x.1) same) is_b,
)

-- ---- a store that isn't loaded

-- the counts of both disks were added; one of them had risen from none
pub risen_either : (before between now first second : ℕ) → (0 < first) ⊎ (0 < second) → Gathers before between first → Gathers between now second → Rose before now
risen_either before between now first second (inl some) p q = omega (arith, some, p.0, p.1, q.0, q.1)
risen_either before between now first second (inr some) p q = omega (arith, some, p.0, p.1, q.0, q.1)

some_of_rose : (before now : ℕ) → before ≡ 0 → Rose before now → 0 < now
some_of_rose before now none rose = omega (arith, none, rose)

-- one of two disks that had met no fault met one
pub some_either : (faults_a faults_b now_a now_b : ℕ) → faults_a ≡ 0 → faults_b ≡ 0 → Rose faults_a now_a ⊎ Rose faults_b now_b → (0 < now_a) ⊎ (0 < now_b)
some_either faults_a faults_b now_a now_b none_a none_b (inl rose) = inl (some_of_rose faults_a now_a none_a rose)
some_either faults_a faults_b now_a now_b none_a none_b (inr rose) = inr (some_of_rose faults_b now_b none_b rose)

-- why a store wasn't loaded, by what its disks tell
pub load_halts : {S D : Type 0} (means : List ℕ → List ℕ → Result S LoadFault) (told : D → Bool) (seen : D → List ℕ) (fault : LoadFault) (a b : Option (List ℕ)) (first second : D) (before now : ℕ)
    → IsToldBy told seen a first → IsToldBy told seen b second
    → (IsTrue (told first) → IsTrue (told second) → (fault ≡ load.Memory) ⊎ (fault ≡ load.Store) ⊎ (means (seen first) (seen second) ≡ Err fault))
    → (fault ≡ load.Store → Rose before now) → HaltsStore means fault a b before now
load_halts means told seen load.Store a b first second before now p q gives store = store refl
load_halts means told seen load.Memory a b first second before now p q gives store = tt
load_halts means told seen (load.Damaged file at) a b first second before now p q gives store =
    both_told told seen a b first second (λ s t. means s t ≡ Err (load.Damaged file at)) p q (λ told_a told_b. is_damaged means file at (seen first) (seen second) (gives told_a told_b))
  where
    is_damaged : {S : Type 0} (means : List ℕ → List ℕ → Result S LoadFault) (file at : ℕ) (a b : List ℕ)
        → (load.Damaged file at ≡ load.Memory) ⊎ (load.Damaged file at ≡ load.Store) ⊎ (means a b ≡ Err (load.Damaged file at)) → means a b ≡ Err (load.Damaged file at)
    is_damaged means file at a b (inl memory) = absurd cc
    is_damaged means file at a b (inr (inl store)) = absurd cc
    is_damaged means file at a b (inr (inr h)) = h

-- why its files weren't opened, by what that is of both, and by counts that rise as far or farther
pub halts_farther : (cause : Unopened) (lacks more : Type 0) (before between since now : ℕ) → HaltsFiles cause lacks between since → (lacks → more) → before ≤ between → since ≤ now → HaltsFiles cause more before now
halts_farther unopened.Missing lacks more before between since now h f p q = f h
halts_farther unopened.Failed lacks more before between since now h f p q = omega (arith, h, p, q)
halts_farther (unopened.Damaged file at) lacks more before between since now h f p q = absurd h
halts_farther unopened.Memory lacks more before between since now h f p q = absurd h

-- so no node was loaded
pub files_halt : {S : Type 0} (means : List ℕ → List ℕ → Result S LoadFault) (cause : Unopened) (lacks : Type 0) (a b : Option (List ℕ)) (before now : ℕ) → HaltsFiles cause lacks before now → HaltsOpening means cause lacks a b before now
files_halt means unopened.Missing lacks a b before now h = h
files_halt means unopened.Failed lacks a b before now h = h
files_halt means (unopened.Damaged file at) lacks a b before now h = absurd h
files_halt means unopened.Memory lacks a b before now h = absurd h

-- nor was one where both were opened
pub store_halts : {S : Type 0} (means : List ℕ → List ℕ → Result S LoadFault) (fault : LoadFault) (cause : Unopened) (lacks : Type 0) (a b : Option (List ℕ)) (before between now : ℕ) → cause ≡ of_load fault
    → between ≡ before → HaltsStore means fault a b between now → HaltsOpening means cause lacks a b before now
store_halts means fault cause lacks a b before between now is same h =
    subst (λ (u : Unopened). HaltsOpening means u lacks a b before now) (sym is) (subst (λ (n : ℕ). HaltsOpening means (of_load fault) lacks a b n now) same (halts fault h))
  where
    halts : (fault : LoadFault) → HaltsStore means fault a b between now → HaltsOpening means (of_load fault) lacks a b between now
    halts load.Store h = h
    halts (load.Damaged file at) h = h
    halts load.Memory h = tt

-- ---- a store that is put back

-- what a store tells with its file in force is what its two files tell
store_is : {D : Type 0} (seen : D → List ℕ) (in_b : Bool) (kind of : Kind) (written other : D) → kind ≡ of
    → store_with in_b kind (seen written) (seen other) ≡ tells of (seen (pick in_b written other)) (seen (pick in_b other written))
store_is seen true kind of written other same = ap (λ (k : Kind). tells k (seen other) (seen written)) same
store_is seen false kind of written other same = ap (λ (k : Kind). tells k (seen written) (seen other)) same

in_force : {D : Type 0} (told : D → Bool) (in_b : Bool) (written other : D) → IsTrue (told (pick in_b written other)) → IsTrue (told (pick in_b other written)) → IsTrue (told written) × IsTrue (told other)
in_force told true written other p q = (q, p)
in_force told false written other p q = (p, q)

-- what the files of a store tell, by what every record that it takes up does to the state
pub puts_back : {S C D : Type 0} (taking : Taking S) (after : S → C → S) (kind : Kind) (told : D → Bool) (seen : D → List ℕ) (may_leave : D → List ℕ → Type 0) (reads_now : (file : D) → IsTrue (told file) → may_leave file (seen file))
    → ((state : S) (payload : List ℕ) (next : S) → taking.step state payload ≡ Some next → (change : C) × (next ≡ after state change))
    → (store : Stored D) (state : S) (fails : Bool) → store.journal.kind ≡ kind → StandsFor taking told seen may_leave store state → BreaksBy fails store.broken_at
    → IfBoth (stored (told (pick store.journal.in_b store.journal.written store.journal.other)) (seen (pick store.journal.in_b store.journal.written store.journal.other)))
    (stored (told (pick store.journal.in_b store.journal.other store.journal.written)) (seen (pick store.journal.in_b store.journal.other store.journal.written)))
    (PutsBack (λ a b. loaded taking (tells kind a b)) after fails state)
puts_back {S = S} {C = C} {D = D} taking after kind told seen may_leave reads_now steps store state fails is_kind stands broken =
    let journal : Open D = store.journal in
    let first : D = pick journal.in_b journal.written journal.other in
    let second : D = pick journal.in_b journal.other journal.written in
    let load : loaded taking (told_store seen journal) ≡ loaded taking (tells kind (seen first) (seen second)) =
    ap (loaded taking) (store_is seen journal.in_b journal.kind kind journal.written journal.other is_kind) in
    both_stored (told first) (told second) (seen first) (seen second) (PutsBack (λ a b. loaded taking (tells kind a b)) after fails state)
    (λ told_a told_b.
    let both : BothTold told journal = in_force told journal.in_b journal.written journal.other told_a told_b in
    put_so taking after (λ a b. loaded taking (tells kind a b)) told seen may_leave steps store state fails (seen first) (seen second) stands broken both (reads_now journal.written both.0) load)
  where
    either : {S C D : Type 0} (taking : Taking S) (after : S → C → S) (means : List ℕ → List ℕ → Result S LoadFault) (seen : D → List ℕ) (may_leave : D → List ℕ → Type 0)
        → ((state : S) (payload : List ℕ) (next : S) → taking.step state payload ≡ Some next → (change : C) × (next ≡ after state change))
        → (store : Stored D) (state : S) (a b : List ℕ) → InFlight taking seen may_leave store.journal state
        → may_leave store.journal.written (seen store.journal.written) → loaded taking (told_store seen store.journal) ≡ means a b
        → (means a b ≡ Ok state) ⊎ ((change : C) × (means a b ≡ Ok (after state change)))
    either {S = S} {C = C} taking after means seen may_leave steps store state a b flight now load =
        elim (flight.images (seen store.journal.written) now) as (λ h. (means a b ≡ Ok state) ⊎ ((change : C) × (means a b ≡ Ok (after state change)))) [
          | inl before ↦ inl (sym load ∙ before)
          | inr then ↦ (let one = steps state flight.payload flight.after flight.change in inr (one.0, sym load ∙ then ∙ ap (λ (s : S). Ok s) one.1))
        ]

    put_so : {S C D : Type 0} (taking : Taking S) (after : S → C → S) (means : List ℕ → List ℕ → Result S LoadFault) (told : D → Bool) (seen : D → List ℕ) (may_leave : D → List ℕ → Type 0)
        → ((state : S) (payload : List ℕ) (next : S) → taking.step state payload ≡ Some next → (change : C) × (next ≡ after state change))
        → (store : Stored D) (state : S) (fails : Bool) (a b : List ℕ) → StandsFor taking told seen may_leave store state → BreaksBy fails store.broken_at → BothTold told store.journal
        → may_leave store.journal.written (seen store.journal.written) → loaded taking (told_store seen store.journal) ≡ means a b → PutsBack means after fails state a b
    put_so taking after means told seen may_leave steps store state false a b stands broken both now load = sym load ∙ stands.tells broken both
    put_so taking after means told seen may_leave steps store state true a b stands broken both now load =
        either taking after means seen may_leave steps store state a b (stands.leaves broken both) now load

-- ---- after a run

if_both : (a b : Option (List ℕ)) (holds then : List ℕ → List ℕ → Type 0) → ((x y : List ℕ) → holds x y → then x y) → IfBoth a b holds → IfBoth a b then
if_both None b holds then f h = tt
if_both (Some x) None holds then f h = tt
if_both (Some x) (Some y) holds then f h = f x y h

maybe_broken : {S C : Type 0} (means : List ℕ → List ℕ → Result S LoadFault) (after : S → C → S) (state : S) (a b : Option (List ℕ)) (broken_at : Option ℕ)
    → ((fails : Bool) → BreaksBy fails broken_at → IfBoth a b (PutsBack means after fails state)) → IfBoth a b (PutsBack means after true state)
maybe_broken means after state a b None kept = if_both a b (PutsBack means after false state) (PutsBack means after true state) (λ x y h. inl h) (kept false refl)
maybe_broken means after state a b (Some turn) kept = kept true refl

-- what the files of a node tell after a run that ends so
pub tells_after : {S C : Type 0} (means : List ℕ → List ℕ → Result S LoadFault) (after : S → C → S) (state : S) (a b : Option (List ℕ)) (end : ServeEnd) (broken_at : Option ℕ)
    → ((fails : Bool) → BreaksBy fails broken_at → IfBoth a b (PutsBack means after fails state)) → BreaksAfter end broken_at → IfBoth a b (PutsBack means after (fails_by end) state)
tells_after means after state a b Done broken_at kept h = kept false h
tells_after means after state a b SettingsFailed broken_at kept h = kept false h
tells_after means after state a b (Refused member) broken_at kept h = kept false h
tells_after means after state a b NoStore broken_at kept h = kept false h
tells_after means after state a b StoreFailed broken_at kept h = kept true h
tells_after means after state a b (Damaged file at) broken_at kept h = kept false h
tells_after means after state a b NetworkFailed broken_at kept h = kept false h
tells_after means after state a b (Disagree differ) broken_at kept h = maybe_broken means after state a b broken_at kept
tells_after means after state a b Memory broken_at kept h = kept false h
