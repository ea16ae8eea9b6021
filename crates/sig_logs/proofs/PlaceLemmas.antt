-- The turns of one link, walked along beside its log.
use Rattle.std.proofs.Common.{◌≡◌, ◌≢◌, ◌∙◌, ℕ, zero, suc, ◌+◌, ◌-◌, ◌<◌, ◌≤◌, ◌==◌, if◌then◌else◌, Bool, true, false, List, [], ◌∷◌, ◌++◌, Some, None, refl, sym, subst, ap, drop, length, take, arith}
use Rattle.std.specs.Prelude.{slice_get, slice_index_or}
use Rattle.std.proofs.Math.Seq.{drop-cons, take-suc}
use Rattle.std.proofs.lemmas.Option.{get_or_from_slice_get, slice_get_past, slice_get_within}
use Rattle.std.proofs.lemmas.List.{append-nil, append_assoc, drop_all, length-take, take_all}
use Rattle.sig_logs.specs.Logs.{of_link}

-- a turn of another link, and one of this link
pub passes : {T : Type 0} (link_of : T → ℕ) (link : ℕ) (t : T) (ts : List T) → (link_of t == link) ≡ false → of_link link_of link (t ∷ ts) ≡ of_link link_of link ts
passes {T} link_of link t ts other = ap (λ (b : Bool). if b then t ∷ of_link link_of link ts else of_link link_of link ts) other

pub takes : {T : Type 0} (link_of : T → ℕ) (link : ℕ) (t : T) (ts : List T) → (link_of t == link) ≡ true → of_link link_of link (t ∷ ts) ≡ t ∷ of_link link_of link ts
takes {T} link_of link t ts same = ap (λ (b : Bool). if b then t ∷ of_link link_of link ts else of_link link_of link ts) same

-- the first element after these
get_seam : {T : Type 0} (xs ys : List T) (y : T) → slice_get (xs ++ (y ∷ ys)) (length xs) ≡ Some y
get_seam {T} [] ys y = refl
get_seam {T} (x ∷ xs) ys y = get_seam xs ys y

-- what stands at a place is no more there once what follows it is another
pub place_differs : {T : Type 0} (logged found rest : List T) (place : ℕ) (t : T) → place ≤ length logged → found ≡ take place logged ++ (t ∷ rest)
    → (slice_get logged place ≡ Some t → ⊥) → slice_get logged place ≢ slice_get found place
place_differs {T} logged found rest place t within is other same =
    let long : length (take place logged) ≡ place = omega (arith, length-take place logged, within) in
    other (same ∙ ap (λ (l : List T). slice_get l place) is ∙ ap (λ (n : ℕ). slice_get (take place logged ++ (t ∷ rest)) n) (sym long) ∙ get_seam (take place logged) rest t)

get_some : {T : Type 0} (xs : List T) (i : ℕ) → i < length xs → slice_get xs i ≡ None → ⊥
get_some {T} [] i within none = omega (arith, within)
get_some {T} (x ∷ xs) zero within none = cc
get_some {T} (x ∷ xs) (suc i) within none = get_some xs i (omega (arith, within)) none

-- nor where nothing follows it
pub place_left : {T : Type 0} (logged found : List T) (place : ℕ) → place < length logged → found ≡ take place logged → slice_get logged place ≢ slice_get found place
place_left {T} logged found place within is same =
    get_some logged place within (same ∙ ap (λ (l : List T). slice_get l place) is ∙ slice_get_past (take place logged) place (omega (arith, length-take place logged)))

-- ---- the walk

suc_is : (n : ℕ) → suc n ≡ n + 1
suc_is n = omega arith

-- of the turns so many were passed, and of the log so many stand among them
pub record Walked {T : Type 0} (link_of : T → ℕ) (link i place : ℕ) (turns logged : List T) : Type 0 where
  pub most : place ≤ i
  pub within : place ≤ length logged
  pub walked : of_link link_of link turns ≡ take place logged ++ of_link link_of link (drop i turns)

pub walked_none : {T : Type 0} (link_of : T → ℕ) (link : ℕ) (turns logged : List T) → Walked link_of link 0 0 turns logged
walked_none {T} link_of link turns logged = record { most = omega arith; within = omega arith; walked = refl }

-- the next turn, where it is of this link, and where it isn't
next_here : {T : Type 0} (link_of : T → ℕ) (link i place : ℕ) (t : T) (turns logged : List T) → i < length turns → t ≡ slice_index_or turns i t → (link_of t == link) ≡ true
    → Walked link_of link i place turns logged → of_link link_of link turns ≡ take place logged ++ (t ∷ of_link link_of link (drop (suc i) turns))
next_here {T} link_of link i place t turns logged within is same h =
    h.walked ∙ ap (λ (l : List T). take place logged ++ of_link link_of link l) (drop-cons turns i t within ∙ ap (λ (x : T). x ∷ drop (suc i) turns) (sym is))
    ∙ ap (λ (l : List T). take place logged ++ l) (takes link_of link t (drop (suc i) turns) same)

pub walked_by : {T : Type 0} (link_of : T → ℕ) (link i place place' : ℕ) (t : T) (turns logged : List T) → i < length turns → t ≡ slice_index_or turns i t → (link_of t == link) ≡ false
    → place' ≡ place → Walked link_of link i place turns logged → Walked link_of link (i + 1) place' turns logged
walked_by {T} link_of link i place place' t turns logged within is other stays h = subst (λ (n : ℕ). Walked link_of link (i + 1) n turns logged) (sym stays) (record {
  most = omega (arith, h.most);
  within = h.within;
  walked = h.walked ∙ ap (λ (l : List T). take place logged ++ of_link link_of link l) (drop-cons turns i t within ∙ ap (λ (x : T). x ∷ drop (suc i) turns) (sym is))
      ∙ ap (λ (l : List T). take place logged ++ l) (passes link_of link t (drop (suc i) turns) other)
      ∙ ap (λ (n : ℕ). take place logged ++ of_link link_of link (drop n turns)) (suc_is i);
})

pub walked_on : {T : Type 0} (link_of : T → ℕ) (link i place place' : ℕ) (t : T) (turns logged : List T) → i < length turns → t ≡ slice_index_or turns i t → (link_of t == link) ≡ true
    → slice_get logged place ≡ Some t → place' ≡ place + 1 → Walked link_of link i place turns logged → Walked link_of link (i + 1) place' turns logged
walked_on {T} link_of link i place place' t turns logged within is same stands goes h =
    let short : place < length logged = slice_get_within logged place t stands in
    let rest : List T = of_link link_of link (drop (suc i) turns) in
    subst (λ (n : ℕ). Walked link_of link (i + 1) n turns logged) (sym goes) (record {
      most = omega (arith, h.most);
      within = omega (arith, short);
      walked = next_here link_of link i place t turns logged within is same h
          ∙ sym (append_assoc (take place logged) (t ∷ []) rest)
          ∙ ap (λ (x : T). (take place logged ++ (x ∷ [])) ++ rest) (sym (get_or_from_slice_get logged place t t stands))
          ∙ ap (λ (l : List T). l ++ rest) (sym (take-suc logged place t short))
          ∙ ap (λ (n : ℕ). take n logged ++ rest) (suc_is place)
          ∙ ap (λ (n : ℕ). take (place + 1) logged ++ of_link link_of link (drop n turns)) (suc_is i);
    })

-- all turns were passed
walked_all : {T : Type 0} (link_of : T → ℕ) (link i place : ℕ) (turns logged : List T) → length turns ≤ i → Walked link_of link i place turns logged
    → of_link link_of link turns ≡ take place logged
walked_all {T} link_of link i place turns logged all h =
    h.walked ∙ ap (λ (l : List T). take place logged ++ of_link link_of link l) (drop_all i turns all) ∙ append-nil (take place logged)

-- ---- what is told

-- what differs at a place counted from 0 differs at that place counted from 1
abbrev pub DiffersAt : {T : Type 0} → List T → List T → ℕ → Type 0
DiffersAt logged found place = (1 ≤ place) × (slice_get logged (place - 1) ≢ slice_get found (place - 1))

counted : {T : Type 0} (logged found : List T) (place : ℕ) → slice_get logged place ≢ slice_get found place → DiffersAt logged found (place + 1)
counted {T} logged found place h =
    let same : place + 1 - 1 ≡ place = omega arith in
    (omega arith, subst (λ (n : ℕ). slice_get logged n ≢ slice_get found n) (sym same) h)

pub differs_here : {T : Type 0} (link_of : T → ℕ) (link i place : ℕ) (t : T) (turns logged : List T) → i < length turns → t ≡ slice_index_or turns i t → (link_of t == link) ≡ true
    → (slice_get logged place ≡ Some t → ⊥) → Walked link_of link i place turns logged → DiffersAt logged (of_link link_of link turns) (place + 1)
differs_here {T} link_of link i place t turns logged within is same other h =
    let found : List T = of_link link_of link turns in
    counted logged found place (place_differs logged found (of_link link_of link (drop (suc i) turns)) place t h.within (next_here link_of link i place t turns logged within is same h) other)

pub differs_after : {T : Type 0} (link_of : T → ℕ) (link i place : ℕ) (turns logged : List T) → length turns ≤ i → place < length logged → Walked link_of link i place turns logged
    → DiffersAt logged (of_link link_of link turns) (place + 1)
differs_after {T} link_of link i place turns logged all short h =
    counted logged (of_link link_of link turns) place (place_left logged (of_link link_of link turns) place short (walked_all link_of link i place turns logged all h))

pub same_all : {T : Type 0} (link_of : T → ℕ) (link i place : ℕ) (turns logged : List T) → length turns ≤ i → length logged ≤ place → Walked link_of link i place turns logged
    → logged ≡ of_link link_of link turns
same_all {T} link_of link i place turns logged all long h = sym (walked_all link_of link i place turns logged all h ∙ take_all place logged long)
