-- A history may be taken up where an earlier part of it ended.
use Rattle.std.proofs.Common.{◌≡◌, ◌∙◌, ap, sym, ℕ, List, [], ◌∷◌, ◌++◌, map, filter, Bool, true, false, not, ◌&&◌, ◌||◌, bytes_eq, if◌then◌else◌, refl, append_assoc, append-nil}
use Rattle.std.proofs.lemmas.Bool.{or_parts}
use Rattle.std.proofs.lemmas.List.Elements.{filter-append}
use Rattle.std.proofs.lemmas.Slice.Eq.{bytes_eq-Decides}
use Rattle.sig_terms.specs.declared.fact.Fact.{Fact}
use Rattle.sig_terms.specs.declared.fact.Fact.TheVariants.{Created, Configured, StatusSet, Listed, Unlisted, Deleted, Published, Settled, Asked}
use Rattle.sig_terms.specs.declared.refused_token.RefusedToken.{RefusedToken}
use Rattle.sig_history.specs.Streams.{Stream, Parts, Made, is_named, stands}
use Rattle.sig_history.specs.Facts.{made_by, parts_after, parts_of}
use Rattle.sig_history.specs.Owed.{Sum, is_of, takes_off, survives, owed_of, owed_in, owed_after, refused_by, refused_of, sum_after, sum_of}
use Rattle.sig_history.specs.Refused.{Refusals, refused_in, with_refused}

-- ---- parts, and the tokens that survive

pub parts_join : (p : Parts) (first second : List Fact) → parts_of p (first ++ second) ≡ parts_of (parts_of p first) second
parts_join p [] second = refl
parts_join p (f ∷ first) second = parts_join (parts_after p f) first second

and_join : (a b c d : Bool) → (a && (b && (c && d))) ≡ ((a && (b && c)) && d)
and_join true true c d = refl
and_join true false c d = refl
and_join false b c d = refl

-- what survives stands
stands_first : (name : List ℕ) (p : Parts) (facts : List Fact) (t : Made)
    → survives name p facts t ≡ (stands name p.streams && survives name p facts t)
stands_first name p [] t =
    elim (stands name p.streams) as (λ b. b ≡ (b && b)) [ true ↦ refl | false ↦ refl ]
stands_first name p (f ∷ facts) t =
    elim (stands name p.streams) as (λ b.
    (b && (not (takes_off name f t) && survives name (parts_after p f) facts t))
    ≡ (b && (b && (not (takes_off name f t) && survives name (parts_after p f) facts t)))) [ true ↦ refl | false ↦ refl ]

pub survives_join : (name : List ℕ) (p : Parts) (first second : List Fact) (t : Made)
    → survives name p (first ++ second) t ≡ (survives name p first t && survives name (parts_of p first) second t)
survives_join name p [] second t = stands_first name p second t
survives_join name p (f ∷ first) second t =
    ap (λ b. stands name p.streams && (not (takes_off name f t) && b)) (survives_join name (parts_after p f) first second t)
    ∙ and_join (stands name p.streams) (not (takes_off name f t)) (survives name (parts_after p f) first t)
    (survives name (parts_of (parts_after p f) first) second t)

-- ---- filters

pub filter_same : {X : Type 0} (p q : X → Bool) → ((x : X) → p x ≡ q x) → (xs : List X) → filter p xs ≡ filter q xs
filter_same p q same [] = refl
filter_same p q same (x ∷ xs) =
    ap (λ b. if b then x ∷ filter p xs else filter p xs) (same x)
    ∙ ap (λ l. if q x then x ∷ l else l) (filter_same p q same xs)

pub filter_join : {X : Type 0} (p q : X → Bool) (xs : List X) → filter (λ x. p x && q x) xs ≡ filter q (filter p xs)
filter_join p q [] = refl
filter_join p q (x ∷ xs) =
    elim (p x) as (λ b. (if b && q x then x ∷ filter (λ y. p y && q y) xs else filter (λ y. p y && q y) xs)
    ≡ filter q (if b then x ∷ filter p xs else filter p xs)) [
      | true ↦ ap (λ l. if q x then x ∷ l else l) (filter_join p q xs)
      | false ↦ filter_join p q xs
    ]

pub filter_none : {X : Type 0} (p : X → Bool) → ((x : X) → p x ≡ false) → (xs : List X) → filter p xs ≡ []
filter_none p none [] = refl
filter_none p none (x ∷ xs) = ap (λ b. if b then x ∷ filter p xs else filter p xs) (none x) ∙ filter_none p none xs

pub filter_mapped : {X Y : Type 0} (p : Y → Bool) (f : X → Y) (xs : List X) → filter p (map f xs) ≡ map f (filter (λ x. p (f x)) xs)
filter_mapped p f [] = refl
filter_mapped p f (x ∷ xs) =
    elim (p (f x)) as (λ b. (if b then f x ∷ filter p (map f xs) else filter p (map f xs))
    ≡ map f (if b then x ∷ filter (λ y. p (f y)) xs else filter (λ y. p (f y)) xs)) [
      | true ↦ ap (λ l. f x ∷ l) (filter_mapped p f xs)
      | false ↦ filter_mapped p f xs
    ]

-- ---- what is owed

pub owed_join : (name : List ℕ) (p : Parts) (first second : List Fact)
    → owed_of name p (first ++ second)
    ≡ filter (survives name (parts_of p first) second) (owed_of name p first) ++ owed_of name (parts_of p first) second
owed_join name p [] second = refl
owed_join name p (f ∷ first) second =
    let after : Parts = parts_after p f in
    let last : Made → Bool = survives name (parts_of after first) second in
    let made : List Made = filter (is_of name) (made_by p f) in
    ap (λ l. l ++ owed_of name after (first ++ second))
    (filter_same _ _ (survives_join name after first second) made ∙ filter_join (survives name after first) last made)
    ∙ ap (λ l. filter last (filter (survives name after first) made) ++ l) (owed_join name after first second)
    ∙ sym (append_assoc (filter last (filter (survives name after first) made)) (filter last (owed_of name after first)) (owed_of name (parts_of after first) second))
    ∙ ap (λ l. l ++ owed_of name (parts_of after first) second)
    (sym (filter-append last (filter (survives name after first) made) (owed_of name after first)))

-- what facts over a base leave owed, and later facts leave of that
pub owed_after_join : (base : Sum) (first second : List Fact) (name : List ℕ)
    → owed_after base (first ++ second) name
    ≡ filter (survives name (parts_of base.parts first) second) (owed_after base first name) ++ owed_of name (parts_of base.parts first) second
owed_after_join base first second name =
    let held : List Made = owed_in name base.parts.streams base.owed in
    let last : Made → Bool = survives name (parts_of base.parts first) second in
    ap (λ l. l ++ owed_of name base.parts (first ++ second))
    (filter_same _ _ (survives_join name base.parts first second) held ∙ filter_join (survives name base.parts first) last held)
    ∙ ap (λ l. filter last (filter (survives name base.parts first) held) ++ l) (owed_join name base.parts first second)
    ∙ sym (append_assoc (filter last (filter (survives name base.parts first) held)) (filter last (owed_of name base.parts first)) (owed_of name (parts_of base.parts first) second))
    ∙ ap (λ l. l ++ owed_of name (parts_of base.parts first) second)
    (sym (filter-append last (filter (survives name base.parts first) held) (owed_of name base.parts first)))

-- what stands beside a stream, where it was computed by its name
pub found : (f : List ℕ → List Made) (name : List ℕ) (streams : List Stream) → stands name streams ≡ true
    → owed_in name streams (map (λ (s : Stream). f s.conf.stream) streams) ≡ f name
found f name [] here = cc
found f name (s ∷ streams) here =
    let same : bytes_eq s.conf.stream name ≡ true → s.conf.stream ≡ name = (bytes_eq-Decides s.conf.stream name).0 in
    elim (bytes_eq s.conf.stream name) as (λ b. (b ≡ true → s.conf.stream ≡ name) → (b || stands name streams) ≡ true
    → (if b then f s.conf.stream else owed_in name streams (map (λ (t : Stream). f t.conf.stream) streams)) ≡ f name) [
      | true ↦ λ is there. ap f (is refl)
      | false ↦ λ is there. found f name streams there
    ] same here

-- nothing stands beside a stream that doesn't
pub none_in : (name : List ℕ) (ss : List Stream) (f : List ℕ → List Made) → stands name ss ≡ false
    → owed_in name ss (map (λ (s : Stream). f s.conf.stream) ss) ≡ []
none_in name [] f absent = refl
none_in name (s ∷ ss) f absent =
    let parts = or_parts (is_named name s) (stands name ss) absent in
    ap (λ b. if b then f s.conf.stream else owed_in name ss (map (λ (t : Stream). f t.conf.stream) ss)) parts.0
    ∙ none_in name ss f parts.1

-- nothing survives where the stream doesn't stand
pub gone : (name : List ℕ) (p : Parts) (facts : List Fact) → stands name p.streams ≡ false → (t : Made) → survives name p facts t ≡ false
gone name p facts absent t = stands_first name p facts t ∙ ap (λ b. b && survives name p facts t) absent

owed_same : (base : Sum) (first second : List Fact) (name : List ℕ)
    → owed_after base (first ++ second) name ≡ owed_after (sum_of base first) second name
owed_same base first second name =
    let p : Parts = parts_of base.parts first in
    let here : List Made = owed_in name p.streams (map (λ (s : Stream). owed_after base first s.conf.stream) p.streams) in
    let cases : (b : Bool) → stands name p.streams ≡ b
    → filter (survives name p second) (owed_after base first name) ≡ filter (survives name p second) here =
    λ b. elim b as (λ b. stands name p.streams ≡ b → filter (survives name p second) (owed_after base first name) ≡ filter (survives name p second) here) [
      | true ↦ λ is. ap (filter (survives name p second)) (sym (found (owed_after base first) name p.streams is))
      | false ↦ λ is. filter_none (survives name p second) (gone name p second is) (owed_after base first name)
          ∙ sym (filter_none (survives name p second) (gone name p second is) here)
    ] in
    owed_after_join base first second name
    ∙ ap (λ l. l ++ owed_of name p second) (cases (stands name p.streams) refl)

map_same : {X Y : Type 0} (f g : X → Y) → ((x : X) → f x ≡ g x) → (xs : List X) → map f xs ≡ map g xs
map_same f g same [] = refl
map_same f g same (x ∷ xs) = ap (λ y. y ∷ map f xs) (same x) ∙ ap (λ l. g x ∷ l) (map_same f g same xs)

-- ---- what is kept of reported tokens

-- what stands beside no stream is nothing
none_held : (name : List ℕ) (ss : List Stream) (os : List (List Made)) → stands name ss ≡ false → owed_in name ss os ≡ []
none_held name [] os absent = refl
none_held name (s ∷ ss) [] absent = refl
none_held name (s ∷ ss) (o ∷ os) absent =
    let parts = or_parts (is_named name s) (stands name ss) absent in
    ap (λ b. if b then o else owed_in name ss os) parts.0 ∙ none_held name ss os parts.1

filter_whole : {X : Type 0} (p : X → Bool) → ((x : X) → p x ≡ true) → (xs : List X) → filter p xs ≡ xs
filter_whole p all [] = refl
filter_whole p all (x ∷ xs) = ap (λ b. if b then x ∷ filter p xs else filter p xs) (all x) ∙ ap (λ l. x ∷ l) (filter_whole p all xs)

-- what a sum says that a stream owes is what stands beside it
held_again : (base : Sum) (name : List ℕ)
    → owed_in name base.parts.streams base.owed
    ≡ owed_in name base.parts.streams (map (λ (s : Stream). owed_after base [] s.conf.stream) base.parts.streams)
held_again base name =
    let ss : List Stream = base.parts.streams in
    let held : List Made = owed_in name ss base.owed in
    elim (stands name ss) as (λ b. stands name ss ≡ b
    → held ≡ owed_in name ss (map (λ (s : Stream). owed_after base [] s.conf.stream) ss)) [
      | true ↦ λ is. sym (found (owed_after base []) name ss is ∙ append-nil (filter (survives name base.parts []) held)
          ∙ filter_whole (survives name base.parts []) (λ t. is) held)
      | false ↦ λ is. none_held name ss base.owed is ∙ sym (none_in name ss (owed_after base []) is)
    ] refl

-- a sum with other lists, from which each stream owes the same, comes to the same by one fact more
abbrev with_held : Sum → List (List Made) → Sum
with_held base os = record { parts = base.parts; owed = os; refused = base.refused }

abbrev HoldsSame : Sum → List (List Made) → Type 0
HoldsSame base os = (name : List ℕ) → owed_in name base.parts.streams base.owed ≡ owed_in name base.parts.streams os

refused_alike : (base : Sum) (os : List (List Made)) (f : Fact) → HoldsSame base os → refused_by base f ≡ refused_by (with_held base os) f
refused_alike base os (Created conf time) same = refl
refused_alike base os (Configured stream requested delivery description) same = refl
refused_alike base os (StatusSet stream status reason operator time) same = refl
refused_alike base os (Listed stream subject) same = refl
refused_alike base os (Unlisted stream subject) same = refl
refused_alike base os (Deleted stream) same = refl
refused_alike base os (Published id news time) same = refl
refused_alike base os (Settled stream items) same = ap (λ l. refused_in base.parts.published l items) (same stream)
refused_alike base os (Asked stream state time) same = refl

alike_after : (base : Sum) (os : List (List Made)) (f : Fact) → HoldsSame base os → sum_after base f ≡ sum_after (with_held base os) f
alike_after base os f same =
    let p : Parts = base.parts in
    let after : Parts = parts_after p f in
    let other : Sum = with_held base os in
    ap (λ (l : List (List Made)). record { parts = after; owed = l; refused = with_refused base.refused (refused_by base f) })
    (map_same (λ (s : Stream). owed_after base (f ∷ []) s.conf.stream) (λ (s : Stream). owed_after other (f ∷ []) s.conf.stream)
    (λ (s : Stream). ap (λ l. filter (survives s.conf.stream p (f ∷ [])) l ++ owed_of s.conf.stream p (f ∷ [])) (same s.conf.stream)) after.streams)
    ∙ ap (λ (l : List RefusedToken). record {
      parts = after;
      owed = map (λ (s : Stream). owed_after other (f ∷ []) s.conf.stream) after.streams;
      refused = with_refused base.refused l;
    }) (refused_alike base os f same)

refused_again : (base : Sum) (facts : List Fact) → refused_of base facts ≡ refused_of (sum_of base []) facts
refused_again base [] = refl
refused_again base (f ∷ facts) =
    ap (λ sum. refused_of sum facts)
    (alike_after base (map (λ (s : Stream). owed_after base [] s.conf.stream) base.parts.streams) f (held_again base))

-- ---- two parts of a history are one history

joined_by : (base : Sum) (first second : List Fact) → refused_of base (first ++ second) ≡ refused_of (sum_of base first) second
    → sum_of base (first ++ second) ≡ sum_of (sum_of base first) second
joined_by base first second refused =
    let both : List Fact = first ++ second in
    let last : Parts = parts_of (parts_of base.parts first) second in
    ap (λ (p : Parts). record { parts = p; owed = map (λ (s : Stream). owed_after base both s.conf.stream) p.streams; refused = refused_of base both })
    (parts_join base.parts first second)
    ∙ ap (λ (l : List (List Made)). record { parts = last; owed = l; refused = refused_of base both })
    (map_same _ _ (λ (s : Stream). owed_same base first second s.conf.stream) last.streams)
    ∙ ap (λ (r : Refusals). record { parts = last; owed = (sum_of (sum_of base first) second).owed; refused = r }) refused

pub refused_join : (base : Sum) (first second : List Fact) → refused_of base (first ++ second) ≡ refused_of (sum_of base first) second
refused_join base [] second = refused_again base second
refused_join base (f ∷ first) second =
    refused_join (sum_after base f) first second
    ∙ ap (λ sum. refused_of sum second) (sym (joined_by base (f ∷ []) first refl))

pub joined : (base : Sum) (first second : List Fact) → sum_of base (first ++ second) ≡ sum_of (sum_of base first) second
joined base first second = joined_by base first second (refused_join base first second)
