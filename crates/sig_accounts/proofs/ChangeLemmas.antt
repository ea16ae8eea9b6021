-- What the change of one stream leaves of all: a fact that names a stream leaves the others as they are.
use Rattle.std.proofs.Common.{◌≡◌, ◌∙◌, ap, sym, subst, ℕ, suc, ◌+◌, ◌<◌, List, [], ◌∷◌, ◌++◌, map, filter, length, take, drop, get_or, Bool, true, false, not, ◌&&◌, ◌||◌, Option, Some, None, if◌then◌else◌, refl, append-nil, arith}
use Rattle.std.specs.Prelude.{All, cond}
use Rattle.std.proofs.lemmas.List.Elements.{All-get_or}
use Rattle.std.specs.List.{position_or_len, remove}
use Rattle.std.proofs.lemmas.Bool.{or_parts}
use Rattle.std.proofs.lemmas.Slice.Eq.{bytes_eq-Decides}
use Rattle.std.proofs.Math.ListN.{set}
use Rattle.sig_event.specs.declared.status.Status.{Status}
use Rattle.sig_subject.specs.declared.subject.Subject.{Subject}
use Rattle.sig_terms.specs.declared.fact.SettledItem.{SettledItem}
use Rattle.sig_terms.specs.declared.want.Delivery.{Delivery}
use Rattle.sig_terms.specs.declared.fact.Fact.TheVariants.{Created, Configured, StatusSet, Listed, Unlisted, Deleted, Published, Settled, Asked}
use Rattle.sig_terms.specs.declared.configuration.StreamConf.{StreamConf}
use Rattle.sig_event.specs.declared.news.News.{News}
use Rattle.sig_history.specs.Streams.{Stream, is_disabled, is_due, is_named, list_added, list_removed, stands, with_asked, with_conf, with_listed, with_status}
use Rattle.sig_history.specs.Facts.{configured, of_named, told_one, updated_news, verified_news}
use Rattle.sig_history.specs.Owed.{names_number}
use Rattle.sig_history.proofs.StepLemmas.{AreDistinct}
use Rattle.sig_accounts.specs.declared.debt.Debt.{Debt}
use Rattle.sig_accounts.specs.declared.debt.Said.{Said}
use Rattle.sig_accounts.specs.declared.debt.Said.TheVariants as said
use Rattle.sig_accounts.specs.Owings.{Balance, Owing, first_changed, has_name, next_debt, notice_for, owing_after, owing_asked, owing_heard, owing_in, owing_noted, owing_set, owing_settled, owing_told, owing_with, stream_in}
use Rattle.sig_accounts.specs.Owings.{AreNumbers, HasRoomFor, IsBelowTop}
use Rattle.std.specs.List.{list_any}
use Rattle.std.specs.Prelude.{nat_eq}
use Rattle.sig_accounts.proofs.TextLemmas.{filter_alike, filter_all, filter_none, turned}

-- ---- where the stream of a name stands

pub stands_at : (name : List ℕ) (bs : List Balance) → stands name (map stream_in (map owing_in bs)) ≡ true → position_or_len (has_name name) bs < length bs
stands_at name [] here = cc
stands_at name (b ∷ bs) here =
    elim (is_named name b.owing.stream) as (λ t. (t || stands name (map stream_in (map owing_in bs))) ≡ true
    → cond (not t) (1 + position_or_len (has_name name) bs) 0 < length (b ∷ bs)) [
      | true ↦ λ here. omega arith
      | false ↦ λ here. let rest : position_or_len (has_name name) bs < length bs = stands_at name bs here in omega arith
    ] here

named_first : (name : List ℕ) (bs : List Balance) (d : Balance) → position_or_len (has_name name) bs < length bs
    → is_named name (get_or bs (position_or_len (has_name name) bs) d).owing.stream ≡ true
named_first name [] d within = absurd (omega arith)
named_first name (b ∷ bs) d within =
    let place : ℕ = position_or_len (has_name name) bs in
    let one : 1 + place ≡ suc place = omega arith in
    elim (is_named name b.owing.stream) as (λ t. is_named name b.owing.stream ≡ t → cond (not t) (1 + place) 0 < length (b ∷ bs)
    → is_named name (get_or (b ∷ bs) (cond (not t) (1 + place) 0) d).owing.stream ≡ true) [
      | true ↦ λ is within. is
      | false ↦ λ is within. ap (λ n. is_named name (get_or (b ∷ bs) n d).owing.stream) one ∙ named_first name bs d (omega arith)
    ] refl within

pub room_at : (name : List ℕ) (room : Balance → ℕ) (bs : List Balance) (place : ℕ) (old : Balance) → place ≡ position_or_len (has_name name) bs
    → place < length bs → old ≡ get_or bs place old → All (HasRoomFor (is_named name) room) bs → 0 < room old
room_at name room bs place old at within read rooms =
    let first : position_or_len (has_name name) bs < length bs = omega arith in
    let here : HasRoomFor (is_named name) room (get_or bs place old) = All-get_or (HasRoomFor (is_named name) room) bs place old within rooms in
    subst (λ (b : Balance). 0 < room b) (sym read)
    (here (ap (λ n. is_named name (get_or bs n old).owing.stream) at ∙ named_first name bs old first))

pub top_at : (bs : List Balance) (place : ℕ) (old : Balance) → place < length bs → old ≡ get_or bs place old → All IsBelowTop bs → IsBelowTop old
top_at bs place old within read tops = subst IsBelowTop (sym read) (All-get_or IsBelowTop bs place old within tops)

changed_first : (name : List ℕ) (g : Owing → Owing) (bs : List Balance) (d new : Balance) → position_or_len (has_name name) bs < length bs
    → new.owing ≡ g (get_or bs (position_or_len (has_name name) bs) d).owing
    → map owing_in (set bs (position_or_len (has_name name) bs) new) ≡ first_changed name g (map owing_in bs)
changed_first name g [] d new within is = absurd (omega arith)
changed_first name g (b ∷ bs) d new within is =
    let place : ℕ = position_or_len (has_name name) bs in
    let one : 1 + place ≡ suc place = omega arith in
    elim (is_named name b.owing.stream) as (λ t. cond (not t) (1 + place) 0 < length (b ∷ bs)
    → new.owing ≡ g (get_or (b ∷ bs) (cond (not t) (1 + place) 0) d).owing
    → map owing_in (set (b ∷ bs) (cond (not t) (1 + place) 0) new)
    ≡ (if t then g b.owing ∷ map owing_in bs else b.owing ∷ first_changed name g (map owing_in bs))) [
      | true ↦ λ within is. ap (λ o. o ∷ map owing_in bs) is
      | false ↦ λ within is. ap (λ n. map owing_in (set (b ∷ bs) n new)) one
          ∙ ap (λ l. b.owing ∷ l) (changed_first name g bs d new (omega arith) (is ∙ ap (λ n. g (get_or (b ∷ bs) n d).owing) one))
    ] within is

-- what is written at the place of a name changes the first of it
pub changed_at : (name : List ℕ) (g : Owing → Owing) (bs : List Balance) (place : ℕ) (old new : Balance) → place ≡ position_or_len (has_name name) bs
    → place < length bs → old ≡ get_or bs place old → new.owing ≡ g old.owing → map owing_in (set bs place new) ≡ first_changed name g (map owing_in bs)
changed_at name g bs place old new at within read is =
    ap (λ n. map owing_in (set bs n new)) at
    ∙ changed_first name g bs old new (omega arith) (is ∙ ap (λ (b : Balance). g b.owing) (read ∙ ap (λ n. get_or bs n old) at))

-- ---- each name once

all_stay : (name : List ℕ) (h : Owing → Owing) (os : List Owing) → stands name (map stream_in os) ≡ false
    → ((o : Owing) → is_named name o.stream ≡ false → h o ≡ o) → map h os ≡ os
all_stay name h [] absent other = refl
all_stay name h (o ∷ os) absent other =
    let parts = or_parts (is_named name o.stream) (stands name (map stream_in os)) absent in
    ap (λ p. p ∷ map h os) (other o parts.0) ∙ ap (λ l. o ∷ l) (all_stay name h os parts.1 other)

others_absent : (name : List ℕ) (o : Owing) (os : List Owing) → AreDistinct (map stream_in (o ∷ os)) → is_named name o.stream ≡ true
    → stands name (map stream_in os) ≡ false
others_absent name o os distinct named =
    ap (λ n. stands n (map stream_in os)) (sym ((bytes_eq-Decides o.stream.conf.stream name).0 named)) ∙ distinct.0

-- where each name stands once and others stay, the first of a name changed is all changed
pub all_changed : (name : List ℕ) (g h : Owing → Owing) (os : List Owing) → AreDistinct (map stream_in os)
    → ((o : Owing) → is_named name o.stream ≡ true → g o ≡ h o) → ((o : Owing) → is_named name o.stream ≡ false → h o ≡ o)
    → first_changed name g os ≡ map h os
all_changed name g h [] distinct named other = refl
all_changed name g h (o ∷ os) distinct named other =
    elim (is_named name o.stream) as (λ t. is_named name o.stream ≡ t → (if t then g o ∷ os else o ∷ first_changed name g os) ≡ h o ∷ map h os) [
      | true ↦ λ is. ap (λ p. p ∷ os) (named o is)
          ∙ ap (λ l. h o ∷ l) (sym (all_stay name h os (others_absent name o os distinct is) other))
      | false ↦ λ is. ap (λ p. p ∷ first_changed name g os) (sym (other o is))
          ∙ ap (λ l. h o ∷ l) (all_changed name g h os distinct.1 named other)
    ] refl

abbrev others : List ℕ → Owing → Bool
others name o = not (is_named name o.stream)

none_named : (name : List ℕ) (os : List Owing) → stands name (map stream_in os) ≡ false → filter (others name) os ≡ os
none_named name [] absent = refl
none_named name (o ∷ os) absent =
    let parts = or_parts (is_named name o.stream) (stands name (map stream_in os)) absent in
    ap (λ b. if not b then o ∷ filter (others name) os else filter (others name) os) parts.0
    ∙ ap (λ l. o ∷ l) (none_named name os parts.1)

removed_first : (name : List ℕ) (bs : List Balance) → AreDistinct (map stream_in (map owing_in bs))
    → map owing_in (take (position_or_len (has_name name) bs) bs ++ drop (suc (position_or_len (has_name name) bs)) bs)
    ≡ filter (others name) (map owing_in bs)
removed_first name [] distinct = refl
removed_first name (b ∷ bs) distinct =
    let place : ℕ = position_or_len (has_name name) bs in
    let one : 1 + place ≡ suc place = omega arith in
    elim (is_named name b.owing.stream) as (λ t. is_named name b.owing.stream ≡ t
    → map owing_in (take (cond (not t) (1 + place) 0) (b ∷ bs) ++ drop (suc (cond (not t) (1 + place) 0)) (b ∷ bs))
    ≡ (if not t then b.owing ∷ filter (others name) (map owing_in bs) else filter (others name) (map owing_in bs))) [
      | true ↦ λ is. sym (none_named name (map owing_in bs) (others_absent name b.owing (map owing_in bs) distinct is))
      | false ↦ λ is. ap (λ n. map owing_in (take n (b ∷ bs) ++ drop (suc n) (b ∷ bs))) one
          ∙ ap (λ l. b.owing ∷ l) (removed_first name bs distinct.1)
    ] refl

-- without what stands at the place of a name, the others are left
pub removed_at : (name : List ℕ) (bs : List Balance) (place : ℕ) → place ≡ position_or_len (has_name name) bs
    → AreDistinct (map stream_in (map owing_in bs)) → map owing_in (remove bs place) ≡ filter (others name) (map owing_in bs)
removed_at name bs place at distinct = ap (λ n. map owing_in (remove bs n)) at ∙ removed_first name bs distinct

-- ---- facts of one stream

kept : (ds : List Debt) → filter (λ (d : Debt). true) ds ++ [] ≡ ds
kept ds = append-nil (filter (λ (d : Debt). true) ds) ∙ filter_all (λ (d : Debt). true) (λ d. refl) ds

abbrev edited_owing : (Stream → Stream) → Owing → Bool → Owing
edited_owing change o b = record { stream = if b then change o.stream else o.stream; owed = o.owed }

abbrev silent_owing : List ℕ → (Stream → Stream) → Owing → List Debt → Owing
silent_owing name change o left = record { stream = of_named name change o.stream; owed = left }

-- one that makes no token and takes none off
edited : (name : List ℕ) (change : Stream → Stream) (o : Owing) (b : Bool) → is_named name o.stream ≡ b
    → edited_owing change o b ≡ silent_owing name change o (filter (λ (d : Debt). true) o.owed ++ [])
edited name change o b is = ap (edited_owing change o) (sym is) ∙ ap (silent_owing name change o) (sym (kept o.owed))

abbrev with_configured : Option (List (List ℕ)) → Delivery → Option (List ℕ) → Stream → Stream
with_configured requested delivery description s = with_conf (configured requested delivery description s.conf) s

abbrev with_added : Subject → Stream → Stream
with_added subject s = with_listed (list_added subject s.listed) s

abbrev with_removed : Subject → Stream → Stream
with_removed subject s = with_listed (list_removed subject s.listed) s

pub configured_all : (name : List ℕ) (requested : Option (List (List ℕ))) (delivery : Delivery) (description : Option (List ℕ)) (w : Said) (os : List Owing)
    → AreDistinct (map stream_in os)
    → first_changed name (λ (o : Owing). owing_with (with_configured requested delivery description o.stream) o) os
    ≡ map (owing_after (Configured name requested delivery description) w) os
configured_all name requested delivery description w os distinct =
    let change : Stream → Stream = λ (s : Stream). with_conf (configured requested delivery description s.conf) s in
    all_changed name (λ (o : Owing). owing_with (change o.stream) o) (owing_after (Configured name requested delivery description) w) os distinct
    (λ o is. edited name change o true is) (λ o is. sym (edited name change o false is))

pub listed_all : (name : List ℕ) (subject : Subject) (w : Said) (os : List Owing) → AreDistinct (map stream_in os)
    → first_changed name (λ (o : Owing). owing_with (with_added subject o.stream) o) os ≡ map (owing_after (Listed name subject) w) os
listed_all name subject w os distinct =
    let change : Stream → Stream = λ (s : Stream). with_listed (list_added subject s.listed) s in
    all_changed name (λ (o : Owing). owing_with (change o.stream) o) (owing_after (Listed name subject) w) os distinct
    (λ o is. edited name change o true is) (λ o is. sym (edited name change o false is))

pub unlisted_all : (name : List ℕ) (subject : Subject) (w : Said) (os : List Owing) → AreDistinct (map stream_in os)
    → first_changed name (λ (o : Owing). owing_with (with_removed subject o.stream) o) os ≡ map (owing_after (Unlisted name subject) w) os
unlisted_all name subject w os distinct =
    let change : Stream → Stream = λ (s : Stream). with_listed (list_removed subject s.listed) s in
    all_changed name (λ (o : Owing). owing_with (change o.stream) o) (owing_after (Unlisted name subject) w) os distinct
    (λ o is. edited name change o true is) (λ o is. sym (edited name change o false is))

-- ---- a settlement

abbrev paid : List SettledItem → Bool → List Debt → List Debt
paid items b ds = filter (λ (d : Debt). not (b && names_number d.number items)) ds ++ []

settled : (name : List ℕ) (items : List SettledItem) (w : Said) (o : Owing) (b : Bool) → is_named name o.stream ≡ b
    → owing_after (Settled name items) w o ≡ record { stream = o.stream; owed = paid items b o.owed }
settled name items w o b is =
    ap (λ t. record { stream = o.stream; owed = paid items t o.owed }) (turned name o.stream.conf.stream ∙ is)

pub settled_all : (name : List ℕ) (numbers : List ℕ) (items : List SettledItem) (w : Said) (os : List Owing) → AreNumbers numbers items
    → AreDistinct (map stream_in os)
    → first_changed name (owing_settled (λ n. list_any (nat_eq n) numbers)) os ≡ map (owing_after (Settled name items) w) os
settled_all name numbers items w os same distinct =
    all_changed name (owing_settled (λ n. list_any (nat_eq n) numbers)) (owing_after (Settled name items) w) os distinct
    (λ o is. ap (λ l. record { stream = o.stream; owed = l })
    (filter_alike (λ (d : Debt). not (list_any (nat_eq d.number) numbers)) (λ (d : Debt). not (names_number d.number items)) (λ (d : Debt). ap not (same d.number)) o.owed
    ∙ sym (append-nil (filter (λ (d : Debt). not (names_number d.number items)) o.owed)))
    ∙ sym (settled name items w o true is))
    (λ o is. settled name items w o false is ∙ ap (λ l. record { stream = o.stream; owed = l }) (kept o.owed))

-- ---- a status

abbrev noticed : Said → ℕ → Stream → Bool → List Debt
noticed w time s b = if b then next_debt time w s ∷ [] else []

abbrev status_after : List ℕ → Status → Option (List ℕ) → ℕ → Said → Owing → Bool → Bool → Owing
status_after name status reason time w o told b = record {
  stream = told_one (if told then Some (updated_news name status reason) else None) (if b then with_status status reason o.stream else o.stream);
  owed = filter (λ (d : Debt). not (b && is_disabled status)) o.owed ++ noticed w time o.stream told;
}

status_is : (name : List ℕ) (status : Status) (reason : Option (List ℕ)) (operator : Bool) (time : ℕ) (w : Said) (o : Owing) (b : Bool)
    → is_named name o.stream ≡ b
    → owing_after (StatusSet name status reason operator time) w o ≡ status_after name status reason time w o (operator && b) b
status_is name status reason operator time w o b is =
    ap (λ t. record {
      stream = told_one (if operator && is_named name o.stream then Some (updated_news name status reason) else None)
          (if is_named name o.stream then with_status status reason o.stream else o.stream);
      owed = filter (λ (d : Debt). not (t && is_disabled status)) o.owed ++ noticed w time o.stream (operator && is_named name o.stream);
    }) (turned name o.stream.conf.stream)
    ∙ ap (λ t. status_after name status reason time w o (operator && t) t) is

emptied : (b : Bool) (ds : List Debt) → (if b then [] else ds) ≡ filter (λ (d : Debt). not b) ds
emptied true ds = sym (filter_none (λ (d : Debt). false) (λ d. refl) ds)
emptied false ds = sym (filter_all (λ (d : Debt). true) (λ d. refl) ds)

status_named : (name : List ℕ) (status : Status) (reason : Option (List ℕ)) (operator : Bool) (time : ℕ) (o : Owing)
    → owing_noted (notice_for status reason operator time) (owing_set status reason o)
    ≡ status_after name status reason time (said.Updated status reason) o (operator && true) true
status_named name status reason true time o =
    ap (λ l. record {
      stream = told_one (Some (updated_news name status reason)) (with_status status reason o.stream);
      owed = l ++ next_debt time (said.Updated status reason) o.stream ∷ [];
    }) (emptied (is_disabled status) o.owed)
status_named name status reason false time o =
    ap (λ l. record { stream = with_status status reason o.stream; owed = l })
    (emptied (is_disabled status) o.owed ∙ sym (append-nil (filter (λ (d : Debt). not (is_disabled status)) o.owed)))

status_other : (name : List ℕ) (status : Status) (reason : Option (List ℕ)) (operator : Bool) (time : ℕ) (w : Said) (o : Owing)
    → status_after name status reason time w o (operator && false) false ≡ o
status_other name status reason true time w o = ap (λ l. record { stream = o.stream; owed = l }) (kept o.owed)
status_other name status reason false time w o = ap (λ l. record { stream = o.stream; owed = l }) (kept o.owed)

pub status_all : (name : List ℕ) (status : Status) (reason : Option (List ℕ)) (operator : Bool) (time : ℕ) (os : List Owing)
    → AreDistinct (map stream_in os)
    → first_changed name (λ (o : Owing). owing_noted (notice_for status reason operator time) (owing_set status reason o)) os
    ≡ map (owing_after (StatusSet name status reason operator time) (said.Updated status reason)) os
status_all name status reason operator time os distinct =
    let w : Said = said.Updated status reason in
    all_changed name (λ (o : Owing). owing_noted (notice_for status reason operator time) (owing_set status reason o))
    (owing_after (StatusSet name status reason operator time) w) os distinct
    (λ o is. status_named name status reason operator time o ∙ sym (status_is name status reason operator time w o true is))
    (λ o is. status_is name status reason operator time w o false is ∙ status_other name status reason operator time w o)

-- ---- a verification

asked_is : (name : List ℕ) (state : Option (List ℕ)) (time : ℕ) (w : Said) (o : Owing) (b : Bool) → is_named name o.stream ≡ b
    → owing_after (Asked name state time) w o
    ≡ record {
      stream = told_one (if b then Some (verified_news name state) else None) (if b then with_asked time o.stream else o.stream);
      owed = filter (λ (d : Debt). true) o.owed ++ noticed w time o.stream b;
    }
asked_is name state time w o b is =
    ap (λ t. record {
      stream = told_one (if t then Some (verified_news name state) else None) (if t then with_asked time o.stream else o.stream);
      owed = filter (λ (d : Debt). true) o.owed ++ noticed w time o.stream t;
    }) is

pub asked_all : (name : List ℕ) (state : Option (List ℕ)) (time : ℕ) (os : List Owing) → AreDistinct (map stream_in os)
    → first_changed name (owing_asked state time) os ≡ map (owing_after (Asked name state time) (said.Verified state)) os
asked_all name state time os distinct =
    let w : Said = said.Verified state in
    all_changed name (owing_asked state time) (owing_after (Asked name state time) w) os distinct
    (λ o is. ap (λ l. record { stream = told_one (Some (verified_news name state)) (with_asked time o.stream); owed = l ++ next_debt time w o.stream ∷ [] })
    (sym (filter_all (λ (d : Debt). true) (λ d. refl) o.owed))
    ∙ sym (asked_is name state time w o true is))
    (λ o is. asked_is name state time w o false is ∙ ap (λ l. record { stream = o.stream; owed = l }) (kept o.owed))

-- ---- facts of all streams, or of none that stands

heard_is : (id : List ℕ) (n : News) (time place : ℕ) (o : Owing) (b : Bool)
    → (if b then owing_told time (said.Published place) o else o)
    ≡ record { stream = told_one (if b then Some n else None) o.stream; owed = filter (λ (d : Debt). true) o.owed ++ noticed (said.Published place) time o.stream b }
heard_is id n time place o true =
    ap (λ l. record { stream = told_one (Some n) o.stream; owed = l ++ next_debt time (said.Published place) o.stream ∷ [] })
    (sym (filter_all (λ (d : Debt). true) (λ d. refl) o.owed))
heard_is id n time place o false = ap (λ l. record { stream = o.stream; owed = l }) (sym (kept o.owed))

pub heard_all : (id : List ℕ) (n : News) (time place : ℕ) (os : List Owing)
    → map (owing_heard n time place) os ≡ map (owing_after (Published id n time) (said.Published place)) os
heard_all id n time place [] = refl
heard_all id n time place (o ∷ os) =
    ap (λ p. p ∷ map (owing_heard n time place) os) (heard_is id n time place o (is_due n o.stream))
    ∙ ap (λ l. owing_after (Published id n time) (said.Published place) o ∷ l) (heard_all id n time place os)

pub created_all : (conf : StreamConf) (time : ℕ) (w : Said) (os : List Owing) → map (owing_after (Created conf time) w) os ≡ os
created_all conf time w [] = refl
created_all conf time w (o ∷ os) =
    ap (λ l. record { stream = o.stream; owed = l } ∷ map (owing_after (Created conf time) w) os) (kept o.owed)
    ∙ ap (λ l. o ∷ l) (created_all conf time w os)

deleted_other : (name : List ℕ) (w : Said) (o : Owing) → is_named name o.stream ≡ false → owing_after (Deleted name) w o ≡ o
deleted_other name w o is =
    ap (λ t. record { stream = o.stream; owed = filter (λ (d : Debt). not t) o.owed ++ [] }) (turned name o.stream.conf.stream ∙ is)
    ∙ ap (λ l. record { stream = o.stream; owed = l }) (kept o.owed)

-- where a stream is deleted, what is left of the others is what they were
pub deleted_all : (name : List ℕ) (w : Said) (os : List Owing)
    → filter (others name) (map (owing_after (Deleted name) w) os) ≡ filter (others name) os
deleted_all name w [] = refl
deleted_all name w (o ∷ os) =
    elim (is_named name o.stream) as (λ t. is_named name o.stream ≡ t
    → (if not t then owing_after (Deleted name) w o ∷ filter (others name) (map (owing_after (Deleted name) w) os)
    else filter (others name) (map (owing_after (Deleted name) w) os))
    ≡ (if not t then o ∷ filter (others name) os else filter (others name) os)) [
      | true ↦ λ is. deleted_all name w os
      | false ↦ λ is. ap (λ p. p ∷ filter (others name) (map (owing_after (Deleted name) w) os)) (deleted_other name w o is)
          ∙ ap (λ l. o ∷ l) (deleted_all name w os)
    ] refl
