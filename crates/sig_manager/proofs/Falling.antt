-- The bound on requests.
use Rattle.std.proofs.Common.{◌≡◌, ◌∙◌, ap, sym, subst, refl, ℕ, ◌+◌, ◌*◌, ◌<◌, ◌≤◌, List, [], ◌∷◌, ◌++◌, length, filter_map, Bool, true, false, Option, Some, None, arith, add_assoc}
use Rattle.std.proofs.Math.Nat.{mul-suc}
use Rattle.std.specs.List.{cons_option}
use Rattle.std.specs.Prelude.{Result, Ok, Err, option_to_list, if◌then◌else◌, ◌==◌, ◌||◌}
use Rattle.sig_http.specs.declared.message.Response.{Response}
use Rattle.sig_event.specs.declared.status.Status.{Status}
use Rattle.sig_event.specs.declared.status.Status.TheVariants.{Enabled}
use Rattle.sig_terms.specs.declared.want.Want.{Want}
use Rattle.sig_stream.specs.Steps.{◌>>=◌}
use Rattle.sig_declared.specs.declared.declared.Declared.{Declared}
use Rattle.sig_manager.specs.Exchange.{Managed, heard, after_step, steps_after}
use Rattle.sig_manager.specs.Hearing.{further_of, status_step, same_status}
use Rattle.sig_manager.specs.Laws.{EachStepFalls, ListBounds}
use Rattle.sig_manager.specs.Measure.{weight, weight_of}
use Rattle.sig_manager.specs.Members.{object_in, status_in, stream_in, where_met}
use Rattle.sig_manager.specs.Planning.{create_by, create_for, creates_of, delete_for, deletes_behind, deletes_of, is_as_declared, is_kept, kept_by, replace_by, replace_for, replaces_of, status_by, status_for, statuses_of, steps_of}
use Rattle.sig_manager.specs.declared.fault.ManageFault.{ManageFault}
use Rattle.sig_manager.specs.declared.listed.Listed.{Listed}
use Rattle.sig_manager.specs.declared.step.Step.{Step}
use Rattle.sig_manager.specs.declared.step.Step.TheVariants as step

weight-append : (xs ys : List Step) → weight_of (xs ++ ys) ≡ weight_of xs + weight_of ys
weight-append [] ys = omega arith
weight-append (s ∷ xs) ys = ap (λ n. weight s + n) (weight-append xs ys) ∙ sym (add_assoc (weight s) (weight_of xs) (weight_of ys))

-- ---- after the list

-- a step, where there is one, weighs this
abbrev Weighs : ℕ → Option Step → Type 0
Weighs n None = Unit {0}
Weighs n (Some s) = weight s ≡ n

one_weighs : (n : ℕ) (o : Option Step) (ss : List Step) → Weighs n o → weight_of ss ≡ n * length ss → weight_of (cons_option o ss) ≡ n * length (cons_option o ss)
one_weighs n None ss one rest = rest
one_weighs n (Some s) ss one rest = rw (one, rest) (omega (arith, mul-suc n (length ss)))

all_weigh : {X : Type 0} (n : ℕ) (h : X → Option Step) → ((x : X) → Weighs n (h x)) → (xs : List X) → weight_of (filter_map h xs) ≡ n * length (filter_map h xs)
all_weigh n h each [] = omega arith
all_weigh n h each (x ∷ xs) = one_weighs n (h x) (filter_map h xs) (each x) (all_weigh n h each xs)

status_weighs : (d : Declared) (o : Option Listed) → Weighs 2 (status_by d o)
status_weighs d None = tt
status_weighs d (Some l) = refl

create_weighs : (d : Declared) (o : Option Listed) → Weighs 2 (create_by d o)
create_weighs d None = refl
create_weighs d (Some l) = tt

replace_weighs : (d : Declared) (o : Option Listed) → Weighs 1 (replace_by d o)
replace_weighs d None = tt
replace_weighs d (Some l) = by (is_as_declared l.want d.want)
  where
    by : (b : Bool) → Weighs 1 (if b then None else Some (step.Replace l.id d.want))
    by true = tt
    by false = refl

delete_weighs : (declared : List Declared) (before : List Listed) (l : Listed) → Weighs 1 (delete_for declared before l)
delete_weighs declared before l = by (is_kept declared before l)
  where
    by : (b : Bool) → Weighs 1 (if b then None else Some (step.Delete l.id))
    by true = tt
    by false = refl

deletes_weigh : (declared : List Declared) (before ls : List Listed) → weight_of (deletes_behind declared before ls) ≡ 1 * length (deletes_behind declared before ls)
deletes_weigh declared before [] = refl
deletes_weigh declared before (l ∷ ls) =
    one_weighs 1 (delete_for declared before l) (deletes_behind declared (before ++ l ∷ []) ls) (delete_weighs declared before l) (deletes_weigh declared (before ++ l ∷ []) ls)

sum_weighs : (ss ds rs cs : List Step) → weight_of ss ≡ 2 * length ss → weight_of ds ≡ 1 * length ds → weight_of rs ≡ 1 * length rs → weight_of cs ≡ 2 * length cs
    → weight_of (ss ++ ds ++ rs ++ cs) ≡ 2 * length ss + length ds + length rs + 2 * length cs
sum_weighs ss ds rs cs s d r c =
    let one : weight_of (ss ++ ds ++ rs ++ cs) ≡ weight_of (ss ++ ds ++ rs) + weight_of cs = weight-append (ss ++ ds ++ rs) cs in
    let two : weight_of (ss ++ ds ++ rs) ≡ weight_of (ss ++ ds) + weight_of rs = weight-append (ss ++ ds) rs in
    let three : weight_of (ss ++ ds) ≡ weight_of ss + weight_of ds = weight-append ss ds in
    omega arith

pub list_bounds : ListBounds
list_bounds declared listed =
    sum_weighs (statuses_of declared listed) (deletes_of declared listed) (replaces_of declared listed) (creates_of declared listed)
    (all_weigh 2 (status_for listed) (λ (d : Declared). status_weighs d (kept_by listed d)) declared)
    (deletes_weigh declared [] listed)
    (all_weigh 1 (replace_for listed) (λ (d : Declared). replace_weighs d (kept_by listed d)) declared)
    (all_weigh 2 (create_for listed) (λ (d : Declared). create_weighs d (kept_by listed d)) declared)

-- ---- after each step

then_ok : {A B E : Type 0} (r : Result A E) (f : A → Result B E) (y : B) → (r >>= f) ≡ Ok y → (x : A) × (r ≡ Ok x) × (f x ≡ Ok y)
then_ok (Ok x) f y h = (x, refl, h)
then_ok (Err e) f y h = cc

-- a further step weighs less than the one that it comes after
abbrev IsLighter : ℕ → Option Step → Type 0
IsLighter n o = weight_of (option_to_list o) < n

lighter : {n : ℕ} (p o : Option Step) → IsLighter n p → ◌≡◌ {A = Result (Option Step) ManageFault} (Ok p) (Ok o) → IsLighter n o
lighter {n} p o less h = let same : p ≡ o = cc in subst (IsLighter n) same less

none_lighter : (n : ℕ) → 0 < n → IsLighter n None
none_lighter n h = omega arith

status_lighter : (stream : List ℕ) (wanted status : Status) → IsLighter 2 (status_step stream wanted status)
status_lighter stream wanted status = by (same_status status wanted)
  where
    by : (b : Bool) → IsLighter 2 (if b then None else Some (step.SetStatus stream wanted))
    by true = omega arith
    by false = omega arith

further_lighter : (s : Step) (response : Response) (o : Option Step) → further_of s response ≡ Ok o → IsLighter (weight s) o
further_lighter (step.Status stream wanted) response o h =
    let (body, one, rest) = then_ok (where_met (response.status == 200) (object_in response)) _ o h in
    let (status, two, made) = then_ok (status_in body) _ o rest in
    lighter (status_step stream wanted status) o (status_lighter stream wanted status) made
further_lighter (step.Delete stream) response o h = by (response.status == 204) h
  where
    by : (b : Bool) → where_met b (Ok None) ≡ Ok o → IsLighter 1 o
    by true is = lighter None o (none_lighter 1 (omega arith)) is
    by false is = cc
further_lighter (step.Replace stream w) response o h =
    let (body, one, made) = then_ok (where_met (response.status == 200) (object_in response)) _ o h in
    lighter None o (none_lighter 1 (omega arith)) made
further_lighter (step.Create w wanted) response o h =
    let (body, one, rest) = then_ok (where_met (response.status == 201 || response.status == 200) (object_in response)) _ o h in
    let (stream, two, made) = then_ok (stream_in body) _ o rest in
    lighter (status_step stream wanted Enabled) o (status_lighter stream wanted Enabled) made
further_lighter (step.SetStatus stream status) response o h =
    let (body, one, rest) = then_ok (where_met (response.status == 200) (object_in response)) _ o h in
    let (said, two, made) = then_ok (status_in body) _ o rest in
    lighter None o (none_lighter 1 (omega arith)) made

after_lighter : (s : Step) (rest steps : List Step) (response : Response) → after_step s rest response ≡ Ok steps → weight_of steps < weight_of (s ∷ rest)
after_lighter s rest steps response h =
    let (o, further, made) = then_ok (further_of s response) _ steps h in
    let less : weight_of (option_to_list o) < weight s = further_lighter s response o further in
    let same : rest ++ option_to_list o ≡ steps = cc in
    let sum : weight_of (rest ++ option_to_list o) ≡ weight_of rest + weight_of (option_to_list o) = weight-append rest (option_to_list o) in
    subst (λ (ss : List Step). weight_of ss < weight s + weight_of rest) same (omega arith)

pub step_falls : EachStepFalls
step_falls m after s rest steps response asked h left =
    let (now, heard_now, made) = then_ok (steps_after m.declared m.steps response) _ after h in
    let same : record { declared = m.declared; steps = Some now } ≡ after = cc in
    let is : now ≡ steps = let e : Some now ≡ Some steps = ap (λ (a : Managed). a.steps) same ∙ left in cc in
    after_lighter s rest steps response (sym (ap (λ (t : Option (List Step)). steps_after m.declared t response) asked) ∙ heard_now ∙ ap (λ (ss : List Step). Ok ss) is)
