-- What follows from counts that rose, and from bytes that a sink took.
use Rattle.std.proofs.Common.{◌≡◌, ◌≢◌, ℕ, zero, suc, ◌≤◌, List, [], ◌++◌, Option, Result, Ok, Err, refl, sym, ◌∙◌, ap, arith, append_assoc}
use Rattle.std.specs.Io.KnownBytes.{Appends, Keeps}
use Rattle.std.proofs.KnownBytes.{Appends-trans, Appends-kept, Appends-nil}
use Rattle.sig_outside.specs.Causes.{AppendsPrefix, HasCause, Raised, Rose, Stalls}

-- a count that was raised rose
pub raised_rose : (a b : ℕ) → Raised a b → Rose a b
raised_rose a b h = omega (arith, h.1)

-- no call lowers its count
pub has_cause_later : {T E : Type 0} (a b : ℕ) (r : Result T E) → HasCause a b r → a ≤ b
has_cause_later a b (Ok x) h = omega (arith, h.stays)
has_cause_later a b (Err e) h = h.failed.0

-- what rose stays risen
pub rose_later : (a b c : ℕ) → Rose a b → b ≤ c → Rose a c
rose_later a b c h k = omega arith

-- what rose later rose
pub later_rose : (a b c : ℕ) → a ≤ b → Rose b c → Rose a c
later_rose a b c h k = omega arith

-- a call that took something did not stall
pub stalls_moved : (before now n : ℕ) (bytes : List ℕ) → Stalls before now n bytes → n ≢ 0 → now ≡ before
stalls_moved before now zero bytes h moved = absurd (moved refl)
stalls_moved before now (suc n) bytes h moved = h

-- known bytes that grew by all of these grew by a front of them
pub appends_prefix : (a b : Option (List ℕ)) (bytes front rest : List ℕ) → bytes ≡ front ++ rest → Appends a b front → AppendsPrefix a b bytes
appends_prefix a b bytes front rest e h = (front, rest, e, h)

-- a front of the second piece after the whole first one is a front of both
pub appends_then_prefix : (a b c : Option (List ℕ)) (first second : List ℕ) → Appends a b first → AppendsPrefix b c second → AppendsPrefix a c (first ++ second)
appends_then_prefix a b c first second h k =
    (first ++ k.0, k.1, ap (λ l. first ++ l) k.2 ∙ sym (append_assoc first k.0 k.1), Appends-trans a b c first k.0 h k.3)

-- a front of the first piece is a front of both
pub prefix_longer : (a b : Option (List ℕ)) (first second : List ℕ) → AppendsPrefix a b first → AppendsPrefix a b (first ++ second)
prefix_longer a b first second h =
    (h.0, h.1 ++ second, ap (λ l. l ++ second) h.2 ∙ append_assoc h.0 h.1 second, h.3)

-- nothing taken is a front of anything
pub keeps_prefix : (a b : Option (List ℕ)) (bytes : List ℕ) → Keeps a b → AppendsPrefix a b bytes
keeps_prefix a b bytes h = ([], bytes, refl, Appends-kept a a b [] (Appends-nil a) h)
