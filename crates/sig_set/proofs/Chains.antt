-- What a reader that has tried a part of its checks knows of the whole list.
use Rattle.std.proofs.Common.{◌≡◌, List, ◌∷◌, ◌++◌, Bool, true, false, Option, Some, None, refl, sym, subst, ap, ◌∙◌, inl, inr}
use Rattle.std.specs.Prelude.{Result, Ok, Err}
use Rattle.sig_json.specs.Answers.{Answers}
use Rattle.sig_json.specs.Checks.{Check, first_failing}
use Rattle.sig_json.proofs.Decided.{rest_decides, part_decides}
use Rattle.sig_set.specs.declared.refusal.Refusal.{Refusal}
use Rattle.sig_set.specs.declared.refusal.Code.{Code}
use Rattle.sig_set.specs.declared.refusal.Spot.{Spot}
use Rattle.sig_set.specs.declared.refusal.Refusal.TheVariants.{Coded, Memory}
use Rattle.sig_set.specs.Checks.{Fault, passed, refused_unless, unless_refused}

-- where a value was given no check failed
pub none_failed : {T : Type 0} (o : Option Fault) (x y : T) → unless_refused o x ≡ Ok y → o ≡ None
none_failed None x y h = refl
none_failed (Some fault) x y h = cc

-- and the value is this one
pub same_value : {T : Type 0} (o : Option Fault) (x y : T) → unless_refused o x ≡ Ok y → x ≡ y
same_value None x y h = cc
same_value (Some fault) x y h = cc

-- a refusal is the same for every value
pub refused_alike : {T U : Type 0} (o : Option Fault) (x : T) (y : U) (e : Refusal) → unless_refused o x ≡ Err e → unless_refused o y ≡ Err e
refused_alike None x y e h = cc
refused_alike (Some fault) x y e h = cc

-- after a part that was passed the rest decides
pub rest_left : {T U : Type 0} (cs ds : List (Check Fault)) (x a : T) (y : U) → unless_refused (first_failing cs) x ≡ Ok a
    → unless_refused (first_failing (cs ++ ds)) y ≡ unless_refused (first_failing ds) y
rest_left cs ds x a y h = ap (λ o. unless_refused o y) (rest_decides cs ds (none_failed (first_failing cs) x a h))

-- a part that was refused decides
pub part_refused : {T U : Type 0} (cs ds : List (Check Fault)) (x : T) (y : U) (e : Refusal) → unless_refused (first_failing cs) x ≡ Err e
    → unless_refused (first_failing (cs ++ ds)) y ≡ Err e
part_refused cs ds x y e h = by_first (first_failing cs) refl h
  where
    by_first : (o : Option Fault) → first_failing cs ≡ o → unless_refused o x ≡ Err e → unless_refused (first_failing (cs ++ ds)) y ≡ Err e
    by_first None is k = cc
    by_first (Some fault) is k = ap (λ p. unless_refused p y) (part_decides cs ds fault is) ∙ refused_alike (Some fault) x y e k

-- the same of a reader that may want memory
pub part_answers : {T U : Type 0} (cs ds : List (Check Fault)) (x : T) (y : U) (e : Refusal) → Answers {T = T} Memory (Err e) (unless_refused (first_failing cs) x)
    → Answers {T = U} Memory (Err e) (unless_refused (first_failing (cs ++ ds)) y)
part_answers cs ds x y e (inl is) = inl is
part_answers cs ds x y e (inr is) = inr (part_refused cs ds x y e is)

-- the answer after a part that was passed
pub behind_part : {T U : Type 0} (cs ds : List (Check Fault)) (x a : T) (y : U) (r : Result U Refusal) → unless_refused (first_failing cs) x ≡ Ok a
    → Answers Memory r (unless_refused (first_failing ds) y) → Answers Memory r (unless_refused (first_failing (cs ++ ds)) y)
behind_part {U = U} cs ds x a y r h told = subst (λ (s : Result U Refusal). Answers Memory r s) (sym (rest_left cs ds x a y h)) told

-- the answer of a reader whose first part was refused
pub first_refused : {U : Type 0} (cs ds : List (Check Fault)) (y : U) (e : Refusal) (r : Result U Refusal) → r ≡ Err e
    → Answers {T = Unit {0}} Memory (Err e) (passed cs) → Answers Memory r (unless_refused (first_failing (cs ++ ds)) y)
first_refused cs ds y e r is told = rw is (part_answers cs ds tt y e told)

-- a check that fails decides
pub one_failed : {U : Type 0} (code : Code) (spot : Spot) (holds : Bool) (cs : List (Check Fault)) (y : U) (r : Result U Refusal) → r ≡ Err (Coded code spot) → holds ≡ false
    → Answers Memory r (unless_refused (first_failing (refused_unless code spot holds ∷ cs)) y)
one_failed code spot holds cs y r is fails = rw is (inr (rw fails refl))

-- after a check that holds the rest decides
pub one_held : {U : Type 0} (code : Code) (spot : Spot) (holds : Bool) (cs : List (Check Fault)) (y : U) (r : Result U Refusal) → holds ≡ true
    → Answers Memory r (unless_refused (first_failing cs) y) → Answers Memory r (unless_refused (first_failing (refused_unless code spot holds ∷ cs)) y)
one_held code spot holds cs y r h told = rw h told
