-- What is decided by checks, at another value.
use Rattle.std.proofs.Common.{◌≡◌, List, [], ◌∷◌, map, flat_map, Bool, true, false, not, bytes_eq, codes, ◌==◌, String, Global, string_bytes, ◌++◌, ℕ, suc, ◌+◌, ◌<◌, length, drop, get_or, Option, Some, None, Ok, Err, inl, inr, refl, sym, ap, ◌∙◌, append_assoc, append-nil, add-one, drop-cons, nat_lt, unwrap_or, is_some, arith}
use Rattle.std.proofs.lemmas.List.{length-map}
use Rattle.std.proofs.lemmas.Bool.{eqb-false, lt-ltb}
use Rattle.serde_json.specs.View.{view, items_view, members_view}
use Rattle.serde_json.specs.declared.value.Value.{Value}
use Rattle.sig_json.specs.Answers.{Answers}
use Rattle.sig_json.specs.Checks.{Check, check, decided, first_failing, or_else}
use Rattle.sig_json.proofs.CheckLemmas.{first_failing-append}
use Rattle.sig_subject.specs.Reading.{values_of, identifiers_in, has_no_other, aliases_checks, identifiers_by, items_in, item_checks, item_by}
use Rattle.sig_subject.specs.Subjects.{parts_of}
use Rattle.serde_json.specs.Data.{Data, no_items}
use Rattle.sig_subject.specs.declared.subject_fault.SubjectFault.TheVariants as fault

-- a refusal doesn't rest on the value
pub refused_alike : {T U E : Type 0} (memory e : E) (o : Option E) (x : T) (y : U) → Answers {T = T} memory (Err e) (decided o x) → Answers {T = U} memory (Err e) (decided o y)
refused_alike memory e None x y (inl h) = inl h
refused_alike memory e None x y (inr h) = cc
refused_alike memory e (Some f) x y (inl h) = inl h
refused_alike memory e (Some f) x y (inr h) = inr (cc)

-- a value that was given is that of checks which all hold
pub passed : {T E : Type 0} (o : Option E) (x y : T) → decided o x ≡ Ok y → (o ≡ None) × (x ≡ y)
passed None x y h = (refl, cc)
passed (Some f) x y h = cc

-- the next item's checks hold, so those of the rest decide
pub next_holds : {A F : Type 0} (f : A → List (Check F)) (x : A) (xs : List A) → first_failing (f x) ≡ None → first_failing (flat_map f (x ∷ xs)) ≡ first_failing (flat_map f xs)
next_holds f x xs h = first_failing-append (f x) (flat_map f xs) ∙ ap (λ o. or_else o (first_failing (flat_map f xs))) h

-- the first item's refusal is that of them all
or_refused : {T U F : Type 0} (memory e : F) (o p : Option F) (y : T) (z : U) → Answers {T = T} memory (Err e) (decided o y) → Answers {T = U} memory (Err e) (decided (or_else o p) z)
or_refused memory e None p y z (inl k) = inl k
or_refused memory e None p y z (inr k) = cc
or_refused memory e (Some g) p y z (inl k) = inl k
or_refused memory e (Some g) p y z (inr k) = inr (cc)

-- what a loop over items has read, where its checks are f and its values g: what is left decides
pub record Reads {A B F : Type 0} (f : A → List (Check F)) (g : A → B) (whole left : List A) (out : List B) : Type 0 where
  pub decides : first_failing (flat_map f whole) ≡ first_failing (flat_map f left)
  pub values : map g whole ≡ out ++ map g left

pub reads_first : {A B F : Type 0} (f : A → List (Check F)) (g : A → B) (xs : List A) → Reads f g xs xs []
reads_first f g xs = record { decides = refl; values = refl }

-- one more item is read
pub reads_next : {A B F : Type 0} (f : A → List (Check F)) (g : A → B) (whole xs : List A) (x : A) (out : List B) (y : B) → Reads f g whole (x ∷ xs) out
    → decided (first_failing (f x)) (g x) ≡ Ok y → Reads f g whole xs (out ++ y ∷ [])
reads_next f g whole xs x out y h one =
    let p = passed (first_failing (f x)) (g x) y one in
    record { decides = h.decides ∙ next_holds f x xs p.0; values = h.values ∙ ap (λ z. out ++ (z ∷ map g xs)) p.1 ∙ sym (append_assoc out (y ∷ []) (map g xs)) }

-- the next item is refused, and so is the whole
pub reads_refused : {A B F T : Type 0} (memory e : F) (f : A → List (Check F)) (g : A → B) (whole xs : List A) (x : A) (out : List B) (z : T) → Reads f g whole (x ∷ xs) out
    → Answers {T = B} memory (Err e) (decided (first_failing (f x)) (g x)) → Answers {T = T} memory (Err e) (decided (first_failing (flat_map f whole)) z)
reads_refused memory e f g whole xs x out z h one =
    rw (h.decides, first_failing-append (f x) (flat_map f xs)) (or_refused memory e (first_failing (f x)) (first_failing (flat_map f xs)) (g x) z one)

-- all items are read
pub reads_all : {A B F : Type 0} (f : A → List (Check F)) (g : A → B) (whole : List A) (out : List B) → Reads f g whole [] out → decided (first_failing (flat_map f whole)) (map g whole) ≡ Ok out
reads_all f g whole out h = rw (h.decides, h.values, append-nil) refl

-- the items from i on, of which the first is r
pub items_from_index : (xs : List Value) (i : ℕ) (r : Value) → i < length xs → r ≡ get_or xs i r → map view (drop i xs) ≡ view r ∷ map view (drop (i + 1) xs)
items_from_index xs i r within is = rw add-one (ap (map view) (drop-cons xs i r within) ∙ ap (λ v. view v ∷ map view (drop (suc i) xs)) (sym is))

-- values in a list of items are those of the vector
pub values_of-items_view : (vs : List Value) → values_of (items_view vs) ≡ map view vs
values_of-items_view [] = refl
values_of-items_view (v ∷ vs) = ap (λ ds. view v ∷ ds) (values_of-items_view vs)

never : (b : Bool) → true ≡ not b → b ≡ true → ⊥
never true h k = cc
never false h k = cc

-- the parts that an iterator over members has left, of which the first is no format
pub parts_from_entry : (entries rest : List (String Global × Value)) (name : String Global) (value : Value) (text : List ℕ) → entries ≡ (name, value) ∷ rest → text ≡ string_bytes name
    → true ≡ not (bytes_eq text (codes "format")) → parts_of (members_view entries) ≡ (text, view value) ∷ parts_of (members_view rest)
parts_from_entry entries rest name value text is same other =
    ap (λ es. parts_of (members_view es)) is ∙ by_name (bytes_eq (string_bytes name) (codes "format")) refl
  where
    by_name : (b : Bool) → bytes_eq (string_bytes name) (codes "format") ≡ b → parts_of (members_view ((name, value) ∷ rest)) ≡ (text, view value) ∷ parts_of (members_view rest)
    by_name true e = absurd (never (bytes_eq text (codes "format")) other (rw same e))
    by_name false e = rw e (ap (λ t. (t, view value) ∷ parts_of (members_view rest)) (sym same))

-- a check that holds leaves the rest to decide
pub first_holds : {F : Type 0} (c : Check F) (cs : List (Check F)) → c.holds ≡ true → first_failing (c ∷ cs) ≡ first_failing cs
first_holds c cs h = rw h refl

none_is_some : {A : Type 0} {a : A} → Some a ≡ None → ⊥
none_is_some k = cc

pub alone_holds : {F : Type 0} (c : Check F) → first_failing (c ∷ []) ≡ None → c.holds ≡ true
alone_holds c h = by_test c.holds refl
  where
    by_test : (b : Bool) → c.holds ≡ b → c.holds ≡ true
    by_test true e = e
    by_test false e = absurd (none_is_some (rw e at h))

-- aliases are read by their items, where they are a list that isn't empty and nothing else is there
pub identifiers_left : (v : Data) (vs : List Value) → identifiers_in v ≡ Some (items_view vs) → first_failing (has_no_other (codes "identifiers" ∷ []) v ∷ []) ≡ None → length vs == 0 ≡ false
    → decided (first_failing (aliases_checks v)) (identifiers_by v) ≡ decided (first_failing (flat_map item_checks (map view vs))) (map item_by (map view vs))
identifiers_left v vs is alone some =
    let items : items_in v ≡ map view vs = ap (λ o. values_of (unwrap_or o no_items)) is ∙ values_of-items_view vs in
    let filled : 0 < length (items_in v) = rw (items, length-map) (omega (arith, eqb-false (length vs) 0 some)) in
    let rest = flat_map item_checks (items_in v) in
    let list = check (fault.Member (codes "identifiers")) (is_some (identifiers_in v)) in
    let others = has_no_other (codes "identifiers" ∷ []) v in
    let item = check fault.Empty (nat_lt 0 (length (items_in v))) in
    ap (λ o. decided o (identifiers_by v))
    (first_holds list (others ∷ item ∷ rest) (ap is_some is) ∙ first_holds others (item ∷ rest) (alone_holds others alone) ∙ first_holds item rest (lt-ltb 0 _ filled))
    ∙ ap (λ ds. decided (first_failing (flat_map item_checks ds)) (map item_by ds)) items
