-- What a stream owes: its own tokens, each number once.
use Rattle.std.proofs.Common.{◌≡◌, sym, subst, ℕ, ◌<◌, ◌≤◌, List, [], ◌∷◌, filter, true, false, ◌==◌, bytes_eq, if◌then◌else◌, refl, arith}
use Rattle.std.specs.Prelude.{All}
use Rattle.std.proofs.lemmas.Bool.{ne_eqb, or_from, or_parts}
use Rattle.std.proofs.lemmas.List.Elements.{All-append, All-filter, All-nil, All-weaker, filter_passes}
use Rattle.sig_terms.specs.declared.fact.Fact.{Fact}
use Rattle.sig_history.specs.Streams.{Stream, Count, Made, Parts, is_named, stands}
use Rattle.sig_history.specs.Facts.{made_by, parts_after, parts_of}
use Rattle.sig_history.specs.Owed.{Sum, is_of, owed_after, owed_by, owed_in, owed_of, sum_of, survives}
use Rattle.sig_history.specs.Sound.{has_number}
use Rattle.sig_history.specs.Whole.{AreWhole, IsOwnToken, IsRising, IsWhole, IsWholeStream}
use Rattle.sig_history.proofs.JoinLemmas.{found}
use Rattle.sig_history.proofs.StreamLemmas.{same_text}

-- ---- what stands beside the stream of a name

nowhere : (name : List ℕ) (ss : List Stream) (os : List (List Made)) → stands name ss ≡ false → owed_in name ss os ≡ []
nowhere name [] os absent = refl
nowhere name (s ∷ ss) [] absent = refl
nowhere name (s ∷ ss) (o ∷ os) absent =
    let parts = or_parts (is_named name s) (stands name ss) absent in
    rw parts.0 (nowhere name ss os parts.1)

-- what holds of nothing, and of what facts leave owed, holds of what a stream owes
owed_has : (Q : List Made → Type 0) (base : Sum) (facts : List Fact) (name : List ℕ)
    → Q [] → Q (owed_after base facts name) → Q (owed_by (sum_of base facts) name)
owed_has Q base facts name none some =
    let ss : List Stream = (parts_of base.parts facts).streams in
    elim (stands name ss) as (λ b. stands name ss ≡ b → Q (owed_by (sum_of base facts) name)) [
      | true ↦ λ here. subst Q (sym (found (owed_after base facts) name ss here)) some
      | false ↦ λ absent. subst Q (sym (nowhere name ss _ absent)) none
    ] refl

-- what holds of nothing, and of what each whole stream owes under its own name, holds of what stands beside a name
owed_beside : (store : List ℕ) (created : List Count) (Q : List ℕ → List Made → Type 0) (name : List ℕ) → Q name []
    → ((s : Stream) (o : List Made) → IsWholeStream store created s o → Q s.conf.stream o)
    → (ss : List Stream) (os : List (List Made)) → AreWhole store created ss os → Q name (owed_in name ss os)
owed_beside store created Q name none each [] os whole = none
owed_beside store created Q name none each (s ∷ ss) [] whole = none
owed_beside store created Q name none each (s ∷ ss) (o ∷ os) whole =
    elim (bytes_eq s.conf.stream name) as (λ b. bytes_eq s.conf.stream name ≡ b → Q name (if b then o else owed_in name ss os)) [
      | true ↦ λ is. subst (λ n. Q n o) (same_text s.conf.stream name is) (each s o whole.0)
      | false ↦ λ other. owed_beside store created Q name none each ss os whole.3
    ] refl

-- ---- a stream owes tokens of its own

pub owns : (sum : Sum) (name : List ℕ) → IsWhole sum → All (IsOwnToken sum.parts.store_id name) (owed_by sum name)
owns sum name whole =
    owed_beside sum.parts.store_id sum.parts.created (λ n ts. All (IsOwnToken sum.parts.store_id n) ts) name (All-nil _)
    (λ s o h. h.own) sum.parts.streams sum.owed whole

-- tokens that carry its name
abbrev pub Carries : List ℕ → Made → Type 0
Carries name t = t.stream ≡ name

made_carry : (name : List ℕ) (parts : Parts) (facts : List Fact) → All (Carries name) (owed_of name parts facts)
made_carry name parts [] = All-nil (Carries name)
made_carry name parts (f ∷ fs) =
    let own : List Made = filter (is_of name) (made_by parts f) in
    let passed : All (λ (t : Made). is_of name t ≡ true) own = filter_passes (is_of name) (made_by parts f) in
    All-append (Carries name) (filter (survives name (parts_after parts f) fs) own) (owed_of name (parts_after parts f) fs)
    (All-filter (survives name (parts_after parts f) fs) (Carries name) own
    (All-weaker (λ (t : Made). is_of name t ≡ true) (Carries name) (λ t h. same_text t.stream name h) own passed))
    (made_carry name (parts_after parts f) fs)

-- and so it does after any facts
pub carries_after : (sum : Sum) (facts : List Fact) (name : List ℕ) → IsWhole sum → All (Carries name) (owed_by (sum_of sum facts) name)
carries_after sum facts name whole =
    owed_has (All (Carries name)) sum facts name (All-nil (Carries name))
    (All-append (Carries name) (filter (survives name sum.parts facts) (owed_by sum name)) (owed_of name sum.parts facts)
    (All-filter (survives name sum.parts facts) (Carries name) (owed_by sum name)
    (All-weaker (IsOwnToken sum.parts.store_id name) (Carries name) (λ t h. h.stream) (owed_by sum name) (owns sum name whole)))
    (made_carry name sum.parts facts))

-- ---- each number once

abbrev pub IsEachOnce : List Made → Type 0
IsEachOnce [] = Unit {0}
IsEachOnce (t ∷ ts) = (has_number t.number ts ≡ false) × IsEachOnce ts

none_above : (n below most : ℕ) (ts : List Made) → n ≤ below → IsRising below ts most → has_number n ts ≡ false
none_above n below most [] low rising = refl
none_above n below most (t ∷ ts) low rising =
    let above : below < t.number = rising.0 in
    or_from (t.number == n) (has_number n ts) (ne_eqb t.number n (λ e. omega arith)) (none_above n t.number most ts (omega arith) rising.1)

rising_once : (below most : ℕ) (ts : List Made) → IsRising below ts most → IsEachOnce ts
rising_once below most [] rising = tt
rising_once below most (t ∷ ts) rising = (none_above t.number t.number most ts (omega arith) rising.1, rising_once t.number most ts rising.1)

pub each_number_once : (sum : Sum) (name : List ℕ) → IsWhole sum → IsEachOnce (owed_by sum name)
each_number_once sum name whole =
    owed_beside sum.parts.store_id sum.parts.created (λ n ts. IsEachOnce ts) name tt
    (λ s o h. rising_once 0 s.made o h.rising) sum.parts.streams sum.owed whole
