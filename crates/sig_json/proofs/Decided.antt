-- What a reader that has read a part of its checks knows of the whole list.
use Rattle.std.proofs.Common.{◌≡◌, List, ◌++◌, Option, Some, None, refl, sym, subst, ap, inl, inr, ◌∙◌}
use Rattle.std.specs.Prelude.{Result, Ok, Err}
use Rattle.sig_json.specs.Answers.{Answers}
use Rattle.sig_json.specs.Checks.{Check, first_failing, decided, or_else}
use Rattle.sig_json.proofs.CheckLemmas.{first_failing-append}

-- where a part gave a value, none of its checks fails
pub none_fails : {T F : Type 0} (o : Option F) (x y : T) → decided o x ≡ Ok y → o ≡ None
none_fails None x y h = refl
none_fails (Some f) x y h = cc

-- and the value is what the part says
pub value_is : {T F : Type 0} (o : Option F) (x y : T) → decided o x ≡ Ok y → x ≡ y
value_is None x y h = cc
value_is (Some f) x y h = cc

-- where a part gave a fault, it is that of its first check that fails
pub one_fails : {T F : Type 0} (o : Option F) (x : T) (f : F) → decided o x ≡ Err f → o ≡ Some f
one_fails None x f h = cc
one_fails (Some g) x f h = cc

-- after a part that gave a value the rest decides
pub rest_decides : {F : Type 0} (cs ds : List (Check F)) → first_failing cs ≡ None → first_failing (cs ++ ds) ≡ first_failing ds
rest_decides cs ds h = first_failing-append cs ds ∙ ap (λ o. or_else o (first_failing ds)) h

-- a part that gave a fault decides
pub part_decides : {F : Type 0} (cs ds : List (Check F)) (f : F) → first_failing cs ≡ Some f → first_failing (cs ++ ds) ≡ Some f
part_decides cs ds f h = first_failing-append cs ds ∙ ap (λ o. or_else o (first_failing ds)) h

-- the answer of a reader whose first part gave a fault
pub first_fault : {T U E : Type 0} (memory : E) (cs ds : List (Check E)) (x : T) (y : U) (r : Result U E) (e : E) → r ≡ Err e → Answers {T = T} memory (Err e) (decided (first_failing cs) x) → Answers memory r (decided (first_failing (cs ++ ds)) y)
first_fault memory cs ds x y (Ok a) e h told = cc
first_fault memory cs ds x y (Err f) e h (inl is) = inl cc
first_fault memory cs ds x y (Err f) e h (inr is) =
    let part = part_decides cs ds e (one_fails (first_failing cs) x e is) in
    inr (ap (λ o. decided o y) part ∙ cc)

-- the answer of a reader whose first part gave a value
pub behind : {T U E : Type 0} (memory : E) (cs ds : List (Check E)) (x a : T) (y : U) (r : Result U E) → decided (first_failing cs) x ≡ Ok a → Answers memory r (decided (first_failing ds) y) → Answers memory r (decided (first_failing (cs ++ ds)) y)
behind {T = T} {U = U} {E = E} memory cs ds x a y r h told =
    let same = ap (λ o. decided o y) (rest_decides cs ds (none_fails (first_failing cs) x a h)) in
    subst (λ (s : Result U E). Answers memory r s) (sym same) told

-- after a part that gave a value the rest decides, also of the value
pub rest : {T U E : Type 0} (cs ds : List (Check E)) (x a : T) (y : U) → decided (first_failing cs) x ≡ Ok a → decided (first_failing (cs ++ ds)) y ≡ decided (first_failing ds) y
rest cs ds x a y h = ap (λ o. decided o y) (rest_decides cs ds (none_fails (first_failing cs) x a h))
