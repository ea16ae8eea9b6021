-- What a file shows with another header gate, and after its header gate was kept.
use Rattle.std.proofs.Common.{◌≡◌, ◌≢◌, inl, inr, ℕ, zero, suc, ◌≤◌, min, List, [], ◌∷◌, length, take, drop, Bool, true, false, ◌==◌, if◌then◌else◌, refl, sym, ◌∙◌, ap, subst, arith}
use Rattle.std.proofs.lemmas.Bool.{cases_eq}
use Rattle.std.proofs.lemmas.Bool.Decides.{nat_tests}
use Rattle.sig_outside.specs.Disk.{Cut, Torn}
use Rattle.sig_journal.specs.declared.gate.Gate.TheVariants.{Closed, Opened}
use Rattle.sig_journal.specs.declared.layout.TheConstants.{GATE_OPEN}
use Rattle.sig_journal.specs.Layout.{generation_of}
use Rattle.sig_journal.specs.Store.{gate_of}
use Rattle.sig_journal.proofs.Images.{torn_behind}
use Rattle.sig_journal.specs.Beside.{LeavesTold}
use Rattle.sig_journal.specs.Gates.{BeginsOpen, GateRests, IsShut, with_gate}
use Rattle.sig_journal.proofs.Beside.{same_leaves, shut_leaves}

-- a gate that isn't open is closed
pub shut_gate : (gate : ℕ) (rest : List ℕ) → (gate == GATE_OPEN) ≡ false → IsShut (gate ∷ rest)
shut_gate gate rest shut = ap (λ (b : Bool). if b then Opened (generation_of (gate ∷ rest)) else Closed) shut

-- whatever stands after a closed gate, it is closed
pub shut_again : (gate : ℕ) (rest other : List ℕ) → IsShut (gate ∷ rest) → IsShut (gate ∷ other)
shut_again gate rest other shut =
    elim (gate == GATE_OPEN) as (λ (b : Bool).
    (if b then Opened (generation_of (gate ∷ rest)) else Closed) ≡ Closed → (if b then Opened (generation_of (gate ∷ other)) else Closed) ≡ Closed) [
      | true ↦ λ h. absurd cc
      | false ↦ λ h. refl
    ] shut

-- of a file that begins with an open gate, that gate
opened_gate : (gate : ℕ) (rest : List ℕ) → BeginsOpen true (gate_of (gate ∷ rest)) → gate ≡ GATE_OPEN
opened_gate gate rest opened = elim (cases_eq gate GATE_OPEN) [
  | inl is ↦ is
  | inr not ↦ absurd (never (subst (BeginsOpen true) (shut_gate gate rest (not_open gate not)) opened))
]
  where
    not_open : (g : ℕ) → g ≢ GATE_OPEN → (g == GATE_OPEN) ≡ false
    not_open g not = grind (arith, nat_tests)

    never : true ≡ false → ⊥
    never is = cc

-- a file that begins with an open gate begins with its generation
pub opened_as : (bytes : List ℕ) → BeginsOpen true (gate_of bytes) → gate_of bytes ≡ Opened (generation_of bytes)
opened_as [] opened = absurd opened
opened_as (gate ∷ rest) opened =
    elim (gate == GATE_OPEN) as (λ (b : Bool).
    BeginsOpen true (if b then Opened (generation_of (gate ∷ rest)) else Closed) → (if b then Opened (generation_of (gate ∷ rest)) else Closed) ≡ Opened (generation_of (gate ∷ rest))) [
      | true ↦ λ h. refl
      | false ↦ λ h. absurd cc
    ] opened

-- with any gate in place of an open one, the store tells what it told
pub any_gate_leaves : (bytes : List ℕ) → BeginsOpen true (gate_of bytes) → (gate : ℕ) → LeavesTold bytes (with_gate gate bytes)
any_gate_leaves [] opened gate = absurd opened
any_gate_leaves (first ∷ rest) opened gate = elim (cases_eq gate GATE_OPEN) [
  | inl is ↦ same_leaves (first ∷ rest) (gate ∷ rest) (ap (λ (g : ℕ). g ∷ rest) (is ∙ sym (opened_gate first rest opened)))
  | inr not ↦ shut_leaves (first ∷ rest) (gate ∷ rest) (shut_gate gate rest (not_open gate not))
]
  where
    not_open : (g : ℕ) → g ≢ GATE_OPEN → (g == GATE_OPEN) ≡ false
    not_open g not = grind (arith, nat_tests)

-- a cut to one byte leaves a closed gate, and so does a torn write after it
pub cut_shut : (bytes image : List ℕ) → IsShut bytes → Cut 1 bytes image → IsShut image
cut_shut [] image shut cut = absurd cc
cut_shut (gate ∷ rest) [] shut cut = absurd (none (length rest) cut.no_shorter)
  where
    none : (n : ℕ) → min 1 (suc n) ≤ 0 → ⊥
    none n le = omega arith
cut_shut (gate ∷ rest) (first ∷ image) shut cut =
    let same : gate ∷ take (length image) rest ≡ first ∷ image = cut.same in
    subst (λ (g : ℕ). IsShut (g ∷ image)) (let e : gate ≡ first = cc in e) (shut_again gate rest image shut)

pub torn_shut : (n : ℕ) (bytes image : List ℕ) → IsShut bytes → Torn 1 n bytes image → IsShut image
torn_shut n [] image shut torn = absurd cc
torn_shut n (gate ∷ rest) image shut torn =
    subst (λ (l : List ℕ). IsShut l) (sym (torn_behind 1 n (gate ∷ []) rest image refl torn)) (shut_again gate rest (drop 1 image) shut)

-- a file whose open gate is being closed rests with what leaves the store as it was
pub gate_rests_leave : (bytes : List ℕ) → BeginsOpen true (gate_of bytes) → (calls fill : ℕ) (image : List ℕ) → GateRests bytes calls fill image → LeavesTold bytes image
gate_rests_leave bytes opened zero fill image is = same_leaves bytes image is
gate_rests_leave bytes opened (suc calls) fill image is = subst (LeavesTold bytes) (sym is) (any_gate_leaves bytes opened fill)
