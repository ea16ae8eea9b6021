-- One fact more, stream by stream: what streams and what they owe come to.
use Rattle.std.proofs.Common.{◌≡◌, ◌∙◌, ap, sym, ℕ, List, [], ◌∷◌, ◌++◌, map, filter, flat_map, Bool, true, false, not, ◌&&◌, ◌||◌, Option, Some, None, if◌then◌else◌, refl, append-nil}
use Rattle.std.specs.Prelude.{⊤}
use Rattle.std.proofs.lemmas.Bool.{or_parts}
use Rattle.std.proofs.lemmas.Simd.{map-map}
use Rattle.std.proofs.lemmas.List.Elements.{filter-append}
use Rattle.sig_event.specs.declared.news.News.{News}
use Rattle.sig_terms.specs.declared.fact.Fact.{Fact}
use Rattle.sig_history.specs.Streams.{Stream, Count, Publication, Parts, Made, is_before, is_named, next_token, put_in_order, stands}
use Rattle.sig_history.specs.Facts.{brought_by, counted, made_by, parts_after, placed, published_by, removed_by, stream_after, tells, time_of, token_by, token_for, without}
use Rattle.sig_history.specs.Owed.{Sum, is_of, owed_after, owed_in, owed_of, sum_of, survives, takes_off, refused_by}
use Rattle.sig_history.specs.Refused.{Refusals, with_refused}
use Rattle.sig_history.specs.Standings.{Standing, owed_in_standing, placed_standing, put_standing, standing_after, stream_in, sum_with, without_standing}
use Rattle.sig_history.proofs.JoinLemmas.{filter_mapped, filter_same}
use Rattle.sig_history.proofs.StreamLemmas.{after_same, is_taken, other_text, stands_after, stands_placed, stands_without, text_itself}

abbrev pub name_of : Standing → List ℕ
name_of s = s.stream.conf.stream

-- ---- what holds of each

abbrev pub Each : (Standing → Type 0) → List Standing → Type 0
Each P [] = ⊤
Each P (s ∷ ss) = P s × Each P ss

pub each_and : (P Q R : Standing → Type 0) → ((s : Standing) → P s → Q s → R s) → (ss : List Standing) → Each P ss → Each Q ss → Each R ss
each_and P Q R both [] ps qs = tt
each_and P Q R both (s ∷ ss) ps qs = (both s ps.0 qs.0, each_and P Q R both ss ps.1 qs.1)

pub each_map : (P : Standing → Type 0) (g : Standing → Standing) (ss : List Standing) → Each (λ s. P (g s)) ss → Each P (map g ss)
each_map P g [] each = tt
each_map P g (s ∷ ss) each = (each.0, each_map P g ss each.1)

pub map_each : {X : Type 0} (f g : Standing → X) (ss : List Standing) → Each (λ s. f s ≡ g s) ss → map f ss ≡ map g ss
map_each f g [] same = refl
map_each f g (s ∷ ss) same = ap (λ l. l ∷ map f ss) same.0 ∙ ap (λ l. g s ∷ l) (map_each f g ss same.1)

-- what is to hold of a stream that is brought and owes nothing
abbrev pub IfBrought : (Standing → Type 0) → Option Stream → Type 0
IfBrought P None = ⊤
IfBrought P (Some s) = P (record { stream = s; owed = [] })

each_put : (P : Standing → Type 0) (n : Standing) (ss : List Standing) → P n → Each P ss → Each P (put_standing n ss)
each_put P n [] new each = (new, tt)
each_put P n (s ∷ ss) new each =
    elim (is_before s.stream n.stream) as (λ b. Each P (if b then s ∷ put_standing n ss else n ∷ s ∷ ss)) [
      | true ↦ (each.0, each_put P n ss new each.1)
      | false ↦ (new, each)
    ]

each_placed : (P : Standing → Type 0) (o : Option Stream) (ss : List Standing) → IfBrought P o → Each P ss → Each P (placed_standing o ss)
each_placed P None ss new each = each
each_placed P (Some s) ss new each = each_put P (record { stream = s; owed = [] }) ss new each

each_without : (P : Standing → Type 0) (o : Option (List ℕ)) (ss : List Standing) → Each (λ s. is_taken o (name_of s) ≡ false → P s) ss
    → Each P (without_standing o ss)
each_without P None [] each = tt
each_without P None (s ∷ ss) each = (each.0 refl, each_without P None ss each.1)
each_without P (Some name) [] each = tt
each_without P (Some name) (s ∷ ss) each =
    let rest : List Standing = without_standing (Some name) ss in
    elim (is_named name s.stream) as (λ b. is_named name s.stream ≡ b → Each P (if not b then s ∷ rest else rest)) [
      | true ↦ λ is. each_without P (Some name) ss each.1
      | false ↦ λ stays. (each.0 stays, each_without P (Some name) ss each.1)
    ] refl

-- ---- each name once

abbrev pub AreDistinct : List Stream → Type 0
AreDistinct [] = ⊤
AreDistinct (s ∷ ss) = (stands s.conf.stream ss ≡ false) × AreDistinct ss

-- a stream that is brought has a name that doesn't stand
abbrev pub IsFresh : List Stream → Option Stream → Type 0
IsFresh ss None = ⊤
IsFresh ss (Some s) = stands s.conf.stream ss ≡ false

all_absent : (name : List ℕ) (ss : List Standing) → stands name (map stream_in ss) ≡ false → Each (λ s. is_named name s.stream ≡ false) ss
all_absent name [] absent = tt
all_absent name (s ∷ ss) absent =
    let parts = or_parts (is_named name s.stream) (stands name (map stream_in ss)) absent in
    (parts.0, all_absent name ss parts.1)

each_weaker : (P Q : Standing → Type 0) → ((s : Standing) → P s → Q s) → (ss : List Standing) → Each P ss → Each Q ss
each_weaker P Q implies [] ps = tt
each_weaker P Q implies (s ∷ ss) ps = (implies s ps.0, each_weaker P Q implies ss ps.1)

-- each stream stands
pub all_stand : (ss : List Standing) → Each (λ s. stands (name_of s) (map stream_in ss) ≡ true) ss
all_stand [] = tt
all_stand (s ∷ ss) = (
  ap (λ b. b || stands (name_of s) (map stream_in ss)) (text_itself (name_of s) (name_of s) refl),
  each_weaker (λ t. stands (name_of t) (map stream_in ss) ≡ true) (λ t. stands (name_of t) (map stream_in (s ∷ ss)) ≡ true)
      (λ t here. elim (is_named (name_of t) s.stream) as (λ b. (b || stands (name_of t) (map stream_in ss)) ≡ true) [ true ↦ refl | false ↦ here ])
      ss (all_stand ss),
)

-- beside each stream stands what it owes
pub all_own : (ss : List Standing) → AreDistinct (map stream_in ss)
    → Each (λ s. owed_in (name_of s) (map stream_in ss) (map owed_in_standing ss) ≡ s.owed) ss
all_own [] distinct = tt
all_own (s ∷ ss) distinct = (
  ap (λ b. if b then s.owed else owed_in (name_of s) (map stream_in ss) (map owed_in_standing ss)) (text_itself (name_of s) (name_of s) refl),
  each_and (λ t. is_named (name_of s) t.stream ≡ false) (λ t. owed_in (name_of t) (map stream_in ss) (map owed_in_standing ss) ≡ t.owed)
      (λ t. owed_in (name_of t) (map stream_in (s ∷ ss)) (map owed_in_standing (s ∷ ss)) ≡ t.owed)
      (λ t other here. ap (λ b. if b then s.owed else owed_in (name_of t) (map stream_in ss) (map owed_in_standing ss))
      (other_text (name_of t) (name_of s) other) ∙ here)
      ss (all_absent (name_of s) ss distinct.0) (all_own ss distinct.1),
)

-- nothing stands beside a name that doesn't stand
none_beside : (name : List ℕ) (ss : List Standing) → stands name (map stream_in ss) ≡ false → owed_in name (map stream_in ss) (map owed_in_standing ss) ≡ []
none_beside name [] absent = refl
none_beside name (s ∷ ss) absent =
    let parts = or_parts (is_named name s.stream) (stands name (map stream_in ss)) absent in
    ap (λ b. if b then s.owed else owed_in name (map stream_in ss) (map owed_in_standing ss)) parts.0
    ∙ none_beside name ss parts.1

-- ---- a stream's tokens among all that a fact makes are its own

pub own_token : (sid : List ℕ) (time : ℕ) (s : Stream) (o : Option News) → filter (is_of s.conf.stream) (token_by sid time s o) ≡ token_by sid time s o
own_token sid time s None = refl
own_token sid time s (Some n) = ap (λ b. if b then next_token sid n time s ∷ [] else []) (text_itself s.conf.stream s.conf.stream refl)

pub other_token : (name sid : List ℕ) (time : ℕ) (s : Stream) (o : Option News) → is_named name s ≡ false → filter (is_of name) (token_by sid time s o) ≡ []
other_token name sid time s None other = refl
other_token name sid time s (Some n) other = ap (λ b. if b then next_token sid n time s ∷ [] else []) other

pub none_for : (name sid : List ℕ) (f : Fact) (ss : List Stream) → stands name ss ≡ false → filter (is_of name) (flat_map (token_for sid f) ss) ≡ []
none_for name sid f [] absent = refl
none_for name sid f (s ∷ ss) absent =
    let parts = or_parts (is_named name s) (stands name ss) absent in
    filter-append (is_of name) (token_for sid f s) (flat_map (token_for sid f) ss)
    ∙ ap (λ l. l ++ filter (is_of name) (flat_map (token_for sid f) ss)) (other_token name sid (time_of f) s (tells f s) parts.0)
    ∙ none_for name sid f ss parts.1

pub each_own : (sid : List ℕ) (f : Fact) (ss : List Standing) → AreDistinct (map stream_in ss)
    → Each (λ s. filter (is_of (name_of s)) (flat_map (token_for sid f) (map stream_in ss)) ≡ token_for sid f s.stream) ss
each_own sid f [] distinct = tt
each_own sid f (s ∷ ss) distinct =
    let rest : List Made = flat_map (token_for sid f) (map stream_in ss) in (
      filter-append (is_of (name_of s)) (token_for sid f s.stream) rest
          ∙ ap (λ l. l ++ filter (is_of (name_of s)) rest) (own_token sid (time_of f) s.stream (tells f s.stream))
          ∙ ap (λ l. token_for sid f s.stream ++ l) (none_for (name_of s) sid f (map stream_in ss) distinct.0)
          ∙ append-nil (token_for sid f s.stream),
      each_and (λ t. is_named (name_of s) t.stream ≡ false) (λ t. filter (is_of (name_of t)) rest ≡ token_for sid f t.stream)
          (λ t. filter (is_of (name_of t)) (flat_map (token_for sid f) (map stream_in (s ∷ ss))) ≡ token_for sid f t.stream)
          (λ t other here. filter-append (is_of (name_of t)) (token_for sid f s.stream) rest
          ∙ ap (λ l. l ++ filter (is_of (name_of t)) rest)
          (other_token (name_of t) sid (time_of f) s.stream (tells f s.stream) (other_text (name_of t) (name_of s) other))
          ∙ here)
          ss (all_absent (name_of s) ss distinct.0) (each_own sid f ss distinct.1),
    )

-- ---- what is owed

pub filter_all : {X : Type 0} (p : X → Bool) → ((x : X) → p x ≡ true) → (xs : List X) → filter p xs ≡ xs
filter_all p all [] = refl
filter_all p all (x ∷ xs) = ap (λ b. if b then x ∷ filter p xs else filter p xs) (all x) ∙ ap (λ l. x ∷ l) (filter_all p all xs)

and_true : (b : Bool) → (b && true) ≡ b
and_true true = refl
and_true false = refl

-- a stream that stands before and after a fact owes what it owed without what the fact takes off, and what the fact makes
pub owed_step : (s : Sum) (f : Fact) (name : List ℕ) → stands name s.parts.streams ≡ true → stands name (parts_after s.parts f).streams ≡ true
    → owed_after s (f ∷ []) name
    ≡ filter (λ (t : Made). not (takes_off name f t)) (owed_in name s.parts.streams s.owed) ++ filter (is_of name) (made_by s.parts f)
owed_step s f name before after =
    let held : List Made = owed_in name s.parts.streams s.owed in
    let made : List Made = filter (is_of name) (made_by s.parts f) in
    let old : filter (survives name s.parts (f ∷ [])) held ≡ filter (λ (t : Made). not (takes_off name f t)) held =
    filter_same (survives name s.parts (f ∷ [])) (λ (t : Made). not (takes_off name f t))
    (λ (t : Made). ap (λ b. b && (not (takes_off name f t) && stands name (parts_after s.parts f).streams)) before
    ∙ ap (λ b. not (takes_off name f t) && b) after ∙ and_true (not (takes_off name f t))) held in
    ap (λ l. l ++ owed_of name s.parts (f ∷ [])) old
    ∙ ap (λ l. filter (λ (t : Made). not (takes_off name f t)) held ++ l)
    (append-nil (filter (survives name (parts_after s.parts f) []) made)
    ∙ filter_all (survives name (parts_after s.parts f) []) (λ (t : Made). after) made)

-- a new stream owes nothing
owed_new : (s : Sum) (f : Fact) (name : List ℕ) → owed_in name s.parts.streams s.owed ≡ [] → filter (is_of name) (made_by s.parts f) ≡ []
    → owed_after s (f ∷ []) name ≡ []
owed_new s f name none nothing =
    ap (λ l. filter (survives name s.parts (f ∷ [])) l ++ (filter (survives name (parts_after s.parts f) []) (filter (is_of name) (made_by s.parts f)) ++ [])) none
    ∙ ap (λ l. filter (survives name (parts_after s.parts f) []) l ++ []) nothing

-- ---- streams

pub put_streams : (n : Standing) (ss : List Standing) → map stream_in (put_standing n ss) ≡ put_in_order n.stream (map stream_in ss)
put_streams n [] = refl
put_streams n (s ∷ ss) =
    elim (is_before s.stream n.stream) as (λ b. map stream_in (if b then s ∷ put_standing n ss else n ∷ s ∷ ss)
    ≡ (if b then s.stream ∷ put_in_order n.stream (map stream_in ss) else n.stream ∷ s.stream ∷ map stream_in ss)) [
      | true ↦ ap (λ l. s.stream ∷ l) (put_streams n ss)
      | false ↦ refl
    ]

pub placed_streams : (o : Option Stream) (ss : List Standing) → map stream_in (placed_standing o ss) ≡ placed o (map stream_in ss)
placed_streams None ss = refl
placed_streams (Some s) ss = put_streams (record { stream = s; owed = [] }) ss

pub without_streams : (o : Option (List ℕ)) (ss : List Standing) → map stream_in (without_standing o ss) ≡ without o (map stream_in ss)
without_streams None ss = refl
without_streams (Some name) ss = sym (filter_mapped (λ s. not (is_named name s)) stream_in ss)

pub after_streams : (sid : List ℕ) (f : Fact) (ss : List Standing) → map stream_in (map (standing_after sid f) ss) ≡ map (stream_after f) (map stream_in ss)
after_streams sid f [] = refl
after_streams sid f (s ∷ ss) = ap (λ l. stream_after f s.stream ∷ l) (after_streams sid f ss)

-- ---- one fact more

-- what each stream owes then stands beside it
abbrev Owes : Sum → Fact → Standing → Type 0
Owes base f s = s.owed ≡ owed_after base (f ∷ []) (name_of s)

-- unless it is taken away
abbrev OwesIfKept : Sum → Fact → Standing → Type 0
OwesIfKept base f s = is_taken (removed_by f) (name_of s) ≡ false → Owes base f s

old_owes : (sid : List ℕ) (ss : List Standing) (created : List Count) (published : List Publication) (refused : Refusals) (f : Fact)
    → AreDistinct (map stream_in ss) → Each (λ s. OwesIfKept (sum_with sid ss created published refused) f (standing_after sid f s)) ss
old_owes sid ss created published refused f distinct =
    let base : Sum = sum_with sid ss created published refused in
    let streams : List Stream = map stream_in ss in
    let made : List Made = made_by base.parts f in
    let brought : Option Stream = brought_by base.parts f in
    let owed_and_made : Each (λ s. (owed_in (name_of s) streams base.owed ≡ s.owed) × (filter (is_of (name_of s)) made ≡ token_for sid f s.stream)) ss =
    each_and (λ s. owed_in (name_of s) streams base.owed ≡ s.owed) (λ s. filter (is_of (name_of s)) made ≡ token_for sid f s.stream)
    (λ s. (owed_in (name_of s) streams base.owed ≡ s.owed) × (filter (is_of (name_of s)) made ≡ token_for sid f s.stream))
    (λ s a b. (a, b)) ss (all_own ss distinct) (each_own sid f ss distinct) in
    each_and (λ s. stands (name_of s) streams ≡ true)
    (λ s. (owed_in (name_of s) streams base.owed ≡ s.owed) × (filter (is_of (name_of s)) made ≡ token_for sid f s.stream))
    (λ s. OwesIfKept base f (standing_after sid f s))
    (λ s here both kept. sym (ap (owed_after base (f ∷ [])) (after_same f s.stream).name
    ∙ owed_step base f (name_of s) here
    (stands_placed (name_of s) brought (without (removed_by f) (map (stream_after f) streams))
    (stands_without (name_of s) (removed_by f) (map (stream_after f) streams)
    (ap (is_taken (removed_by f)) (sym (after_same f s.stream).name) ∙ kept)
    ∙ stands_after (name_of s) f streams ∙ here))
    ∙ ap (λ l. filter (λ (t : Made). not (takes_off (name_of s) f t)) l ++ filter (is_of (name_of s)) made) both.0
    ∙ ap (λ l. filter (λ (t : Made). not (takes_off (name_of s) f t)) s.owed ++ l) both.1))
    ss (all_stand ss) owed_and_made

new_owes : (sid : List ℕ) (ss : List Standing) (created : List Count) (published : List Publication) (refused : Refusals) (f : Fact) (o : Option Stream)
    → IsFresh (map stream_in ss) o → IfBrought (Owes (sum_with sid ss created published refused) f) o
new_owes sid ss created published refused f None fresh = tt
new_owes sid ss created published refused f (Some s) fresh =
    sym (owed_new (sum_with sid ss created published refused) f s.conf.stream (none_beside s.conf.stream ss fresh)
    (none_for s.conf.stream sid f (map stream_in ss) fresh))

-- what streams with what they owe come to by one fact more
pub stepped_sum : (sid : List ℕ) (ss : List Standing) (created : List Count) (published : List Publication) (refused : Refusals) (f : Fact)
    → AreDistinct (map stream_in ss) → IsFresh (map stream_in ss) (brought_by (sum_with sid ss created published refused).parts f)
    → sum_of (sum_with sid ss created published refused) (f ∷ [])
    ≡ sum_with sid (placed_standing (brought_by (sum_with sid ss created published refused).parts f)
    (without_standing (removed_by f) (map (standing_after sid f) ss)))
    (counted (brought_by (sum_with sid ss created published refused).parts f) created)
    (published ++ published_by (sum_with sid ss created published refused).parts f)
    (with_refused refused (refused_by (sum_with sid ss created published refused) f))
stepped_sum sid ss created published refused f distinct fresh =
    let base : Sum = sum_with sid ss created published refused in
    let p : Parts = base.parts in
    let brought : Option Stream = brought_by p f in
    let after : List Standing = map (standing_after sid f) ss in
    let kept : List Standing = without_standing (removed_by f) after in
    let next : List Standing = placed_standing brought kept in
    let parts_with : List Stream → Parts = λ l. record { store_id = sid; streams = l; created = counted brought created; published = published ++ published_by p f } in
    let streams : map stream_in next ≡ (parts_after p f).streams =
    placed_streams brought kept
    ∙ ap (placed brought) (without_streams (removed_by f) after ∙ ap (without (removed_by f)) (after_streams sid f ss)) in
    let each : Each (Owes base f) next =
    each_placed (Owes base f) brought kept (new_owes sid ss created published refused f brought fresh)
    (each_without (Owes base f) (removed_by f) after
    (each_map (OwesIfKept base f) (standing_after sid f) ss (old_owes sid ss created published refused f distinct))) in
    let kept_refused : Refusals = with_refused refused (refused_by base f) in
    ap (λ (l : List Stream). record {
      parts = parts_with l;
      owed = map (λ (t : Stream). owed_after base (f ∷ []) t.conf.stream) l;
      refused = kept_refused;
    }) (sym streams)
    ∙ ap (λ (l : List (List Made)). record { parts = parts_with (map stream_in next); owed = l; refused = kept_refused })
    (map-map (λ (t : Stream). owed_after base (f ∷ []) t.conf.stream) stream_in next
    ∙ sym (map_each owed_in_standing (λ s. owed_after base (f ∷ []) (name_of s)) next each))
