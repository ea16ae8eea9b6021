-- Parts of a watch, joined; a link that came, and one that went back.
use Rattle.std.proofs.Common.{◌≡◌, ◌∙◌, ℕ, zero, suc, ◌<◌, ◌≤◌, List, [], ◌∷◌, ◌++◌, length, take, drop, map, Bool, true, false, nat_le, Option, None, refl, sym, ap, subst, arith, append_assoc, append-nil, length-append}
use Rattle.std.proofs.lemmas.Bool.Decides.{nat_tests}
use Rattle.std.proofs.lemmas.List.{length-map, map-append}
use Rattle.std.specs.Prelude.{slice_index_or}
use Rattle.sig_json.specs.declared.limits.TheConstants.{LINKS_AT_ONCE}
use Rattle.sig_links.specs.Views.{DoorView}
use Rattle.sig_serving.specs.declared.stop.Stop.{Stop}
use Rattle.sig_watch.specs.Happening.{Came, Event, Happens, IsWithout, Moment, OpenLink, Runs, Went, logs_of, moment}
use Rattle.sig_watch.specs.Passing.{LetsIn, Passes, PassesUntil, StopsIf}
use Rattle.sig_watch.specs.Sights.{Sight}

pub logs_more : {G : Type 0} (first second : List (Event G)) → logs_of (first ++ second) ≡ logs_of first ++ logs_of second
logs_more [] second = refl
logs_more (Came sight ∷ first) second = logs_more first second
logs_more (Went one log left ∷ first) second = ap (λ l. log ∷ l) (logs_more first second)

module _ {G : Type 0} (serves : ℕ → G → Sight → Sight → Type 0) where
  runs_more : (first second : List (Event G)) (old mid new : Moment) → Runs serves first old mid → Runs serves second mid new → Runs serves (first ++ second) old new
  runs_more [] second old mid new one two = subst (λ (m : Moment). Runs serves second m new) one two
  runs_more (event ∷ first) second old mid new one two = (one.0, one.1, runs_more first second one.0 mid new one.2 two)

  -- nothing happened
  pub stays : (logs : List G) (old : Moment) → Passes serves logs logs old old
  stays logs old = record { events = []; runs = refl; kept = sym (append-nil logs) }

  -- one part after another
  pub joined : (a b c : List G) (old mid new : Moment) → Passes serves a b old mid → Passes serves b c mid new → Passes serves a c old new
  joined a b c old mid new one two = record {
    events = one.events ++ two.events;
    runs = runs_more one.events two.events old mid new one.runs two.runs;
    kept = two.kept ∙ ap (λ (l : List G). l ++ logs_of two.events) one.kept ∙ append_assoc a (logs_of one.events) (logs_of two.events)
        ∙ ap (λ (l : List G). a ++ l) (sym (logs_more one.events two.events));
  }

  -- one event
  pub came : (logs : List G) (sight : Sight) (old new : Moment) → Happens serves (Came sight) old new → Passes serves logs logs old new
  came logs sight old new happens = record { events = Came sight ∷ []; runs = (new, happens, refl); kept = sym (append-nil logs) }

  pub went : (logs after : List G) (one : OpenLink) (log : G) (left : Sight) (old new : Moment) → after ≡ logs ++ log ∷ [] → Happens serves (Went one log left) old new
      → Passes serves logs after old new
  went logs after one log left old new kept happens = record { events = Went one log left ∷ []; runs = (new, happens, refl); kept = kept }

  -- ---- the same, where none is open

  pub emptied : {X : Type 0} (a b : List G) (opened : X → OpenLink) (items : List X) (old : Moment) (d : DoorView) (count : ℕ) → items ≡ []
      → Passes serves a b old (moment d count (map opened items)) → Passes serves a b old (moment d count [])
  emptied a b opened items old d count none passes = subst (λ l. Passes serves a b old (moment d count (map opened l))) none passes

  pub from_none : {X : Type 0} (a b : List G) (stop : Option Stop) (opened : X → OpenLink) (items : List X) (count : ℕ) (d : DoorView) (new : Moment) → count ≡ 0 → items ≡ []
      → PassesUntil serves a b stop (moment d count (map opened items)) new → PassesUntil serves a b stop (moment d 0 []) new
  from_none a b stop opened items count d new first none passes =
      subst (λ (n : ℕ). PassesUntil serves a b stop (moment d n []) new) first
      (subst (λ l. PassesUntil serves a b stop (moment d count (map opened l)) new) none passes)

  -- the door and the count go by other names
  pub renamed : (a b : List G) (d d' : DoorView) (count count' : ℕ) (live : List OpenLink) (new : DoorView) → d' ≡ d → count' ≡ count
      → Passes serves a b (moment d' count live) (moment new count' []) → Passes serves a b (moment d count live) (moment new count [])
  renamed a b d d' count count' live new door same passes =
      subst (λ (n : ℕ). Passes serves a b (moment d count live) (moment new n [])) same
      (subst (λ (v : DoorView). Passes serves a b (moment v count live) (moment new count' [])) door passes)

  -- ---- until no further link is accepted

  -- the door is as it was, or stopped
  pub until : (a b : List G) (stop : Option Stop) (old : Moment) (d d' : DoorView) (count : ℕ) (live : List OpenLink) → Passes serves a b old (moment d count live) → StopsIf stop count d d'
      → PassesUntil serves a b stop old (moment d' count live)
  until a b stop old d d' count live passes stops = record { between = d; passes = passes; stops = stops }

  -- the watch goes on
  pub goes_on : (a b : List G) (stop : Option Stop) (old new : Moment) → stop ≡ None → PassesUntil serves a b stop old new → Passes serves a b old new
  goes_on a b stop old new none h =
      let same : new.door ≡ h.between = subst (λ (o : Option Stop). StopsIf o new.count h.between new.door) none h.stops in
      subst (λ (d : DoorView). Passes serves a b old (moment d new.count new.live)) (sym same) h.passes

  -- a part before it stops
  pub after : (a b c : List G) (stop told : Option Stop) (old mid new : Moment) → told ≡ stop → Passes serves a b old mid → PassesUntil serves b c told mid new → PassesUntil serves a c stop old new
  after a b c stop told old mid new is one two = record {
    between = two.between;
    passes = joined a b c old mid (record new { door = two.between }) one two.passes;
    stops = subst (λ (o : Option Stop). StopsIf o new.count two.between new.door) is two.stops;
  }

-- ---- one of a list

parts : {X : Type 0} (items : List X) (at : ℕ) (x : X) → at < length items → x ≡ slice_index_or items at x → items ≡ take at items ++ x ∷ drop (suc at) items
parts [] at x here is = absurd (omega (arith, here))
parts (y ∷ items) zero x here is = ap (λ z. z ∷ items) (sym is)
parts (y ∷ items) (suc at) x here is = ap (λ l. y ∷ l) (parts items at x (omega (arith, here)) is)

pub without : {X : Type 0} (opened : X → OpenLink) (items : List X) (at : ℕ) (x : X) → at < length items → x ≡ slice_index_or items at x
    → IsWithout (map opened items) (opened x) (map opened (take at items ++ drop (suc at) items))
without opened items at x here is = (
  map opened (take at items),
  map opened (drop (suc at) items),
  ap (map opened) (parts items at x here is) ∙ map-append opened (take at items) (x ∷ drop (suc at) items),
  map-append opened (take at items) (drop (suc at) items),
)

-- where fewer are open than may be, one more may be
pub room_left : {X : Type 0} (opened : X → OpenLink) (items : List X) (one : OpenLink) → length items < LINKS_AT_ONCE → length (map opened items ++ one ∷ []) ≤ LINKS_AT_ONCE
room_left opened items one fewer = omega (arith, fewer, length-append (map opened items) (one ∷ []), length-map items opened)

-- ---- what the host was asked

pub lets_none : (answered : ℕ → Bool → Type 0) (count : ℕ) → LetsIn answered count count
lets_none answered count = λ number more most. absurd (omega (arith, more, most))

lets_either : (answered : ℕ → Bool → Type 0) (a b c : ℕ) → LetsIn answered a b → LetsIn answered b c → (number : ℕ) → a < number → number ≤ c → (low : Bool) → nat_le number b ≡ low → answered number true
lets_either answered a b c one two number more most true is = one number more (grind (arith, nat_tests, is))
lets_either answered a b c one two number more most false is = two number (grind (arith, nat_tests, is)) most

pub lets_more : (answered : ℕ → Bool → Type 0) (a b c : ℕ) → LetsIn answered a b → LetsIn answered b c → LetsIn answered a c
lets_more answered a b c one two = λ number more most. lets_either answered a b c one two number more most (nat_le number b) refl
