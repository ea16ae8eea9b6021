-- Links that came and went back are a watch.
use Rattle.std.proofs.Common.{Bool, true, false, ◌≡◌, ◌∙◌, ℕ, ◌+◌, ◌≤◌, zero, suc, List, [], ◌∷◌, ◌++◌, Option, Some, None, refl, sym, subst, ap, arith}
use Rattle.std.specs.Prelude.{IfSome}
use Rattle.sig_links.specs.Told.{Lends, Served, TakesBack, served_of, with_last}
use Rattle.sig_links.specs.Views.{DoorView}
use Rattle.sig_serving.specs.declared.stop.Stop.{Stop}
use Rattle.sig_serving.specs.declared.stop.Stop.TheVariants.{Spent, Shut, Failed, Halted}
use Rattle.sig_watch.specs.Accepting.{StopsBy}
use Rattle.sig_watch.specs.Attending.{Attends, GoBack, with_all}
use Rattle.sig_watch.specs.Happening.{Came, Event, IsWithout, Moment, OpenLink, Runs, Went, left_of, logs_of, moment, open_link}
use Rattle.sig_watch.specs.Passing.{Passes, PassesUntil}
use Rattle.sig_watch.specs.Accepting.{Gives}
use Rattle.sig_watch.specs.Returning.{IsBack}
use Rattle.sig_watch.specs.Sights.{IfErrand, Sight, with_link}
use Rattle.sig_watch.proofs.PassLemmas.{logs_more}

-- ---- those that are out

-- what holds anyway holds where something is told
where_told : {T : Type 0} (told : Option T) (holds : Type 0) → holds → IfSome told (λ (x : T). holds)
where_told {T} None holds h = tt
where_told {T} (Some x) holds h = h

-- a link is one of the door's, and an errand none
abbrev one_by : Bool → ℕ
one_by true = 0
one_by false = 1

-- how many of those that are open are links
abbrev links_in : List OpenLink → ℕ
links_in [] = 0
links_in (one ∷ rest) = one_by one.came.is_errand + links_in rest

links_more : (first second : List OpenLink) → links_in (first ++ second) ≡ links_in first + links_in second
links_more [] second = omega arith
links_more (one ∷ first) second = omega (arith, links_more first second)

links_and : (live : List OpenLink) (number : ℕ) (came : Sight) (kind : Bool) → came.is_errand ≡ kind → links_in (live ++ open_link number came ∷ []) ≡ one_by kind + links_in live
links_and live number came kind is = omega (arith, links_more live (open_link number came ∷ []), ap one_by is)

links_without : (all others : List OpenLink) (one : OpenLink) (kind : Bool) → one.came.is_errand ≡ kind → IsWithout all one others → links_in all ≡ one_by kind + links_in others
links_without all others one kind is h =
    omega (arith, ap links_in h.2, ap links_in h.3, links_more h.0 (one ∷ h.1), links_more h.0 h.1, ap one_by is)

-- where it is told what comes back, as many more are out as links are open
abbrev IsOut : ℕ → Option (List Served) → ℕ → ℕ → Type 0
IsOut base served out n = IfSome served (λ (list : List Served). out ≡ n + base)

one_more : (served : Option (List Served)) (out out' n base : ℕ) → Lends served out out' → IsOut base served out n → IsOut base served out' (suc n)
one_more None out out' n base lends told = tt
one_more (Some list) out out' n base lends told = omega (arith, lends, told)

-- one of those that are out goes back
back_one : (served new : Option (List Served)) (out now n base : ℕ) (last : Option Served) → IsOut base served out (suc n) → TakesBack served new out now last
    → (new ≡ with_last served last) × IsOut base new now n
back_one None new out now n base last told takes = (takes, subst (λ (o : Option (List Served)). IsOut base o now n) (sym takes) tt)
back_one (Some list) new zero now n base last told takes = absurd (omega (arith, told))
back_one (Some list) new (suc out) now n base last told takes = (takes.0, where_told new (now ≡ n + base) (omega (arith, takes.1, told)))

-- ---- what happened, one event after the other

-- what the door tells is that of those that went back; and where none came, it told of none
record Ran (base : ℕ) (left : List Sight) (old new : Moment) : Type 0 where
  pub served : new.door.served ≡ with_all old.door.served left
  pub out : IsOut base new.door.served new.door.out (links_in new.live)
  pub place : new.door.place ≡ old.door.place
  pub faults : new.door.faults ≡ old.door.faults
  pub counts : old.count ≤ new.count
  pub coming : new.count ≡ old.count → new.door.coming ≡ old.door.coming

-- what of a door is as it was
record IsStill (old new : DoorView) : Type 0 where
  pub served : new.served ≡ old.served
  pub out : new.out ≡ old.out
  pub place : new.place ≡ old.place
  pub faults : new.faults ≡ old.faults
  pub coming : new.coming ≡ old.coming

still : (old new : DoorView) → new ≡ old → IsStill old new
still old new same = record {
  served = ap (λ (d : DoorView). d.served) same;
  out = ap (λ (d : DoorView). d.out) same;
  place = ap (λ (d : DoorView). d.place) same;
  faults = ap (λ (d : DoorView). d.faults) same;
  coming = ap (λ (d : DoorView). d.coming) same;
}

out_still : (base n m : ℕ) (old new : DoorView) → IsStill old new → m ≡ n → IsOut base old.served old.out n → IsOut base new.served new.out m
out_still base n m old new h same out =
    subst (λ (k : ℕ). IsOut base new.served new.out k) (sym same)
    (subst (λ (k : ℕ). IsOut base new.served k n) (sym h.out)
    (subst (λ (o : Option (List Served)). IsOut base o old.out n) (sym h.served) out))

-- a link or an errand came
came_one : (base : ℕ) (came : Sight) (kind : Bool) (old new : Moment) → came.is_errand ≡ kind → IsOut base old.door.served old.door.out (links_in old.live)
    → IfErrand kind (new.door ≡ old.door) (Gives old.door new.door came) → new.count ≡ old.count + 1 → new.live ≡ old.live ++ open_link new.count came ∷ [] → Ran base [] old new
came_one base came true old new is out same count live =
    let h : IsStill old.door new.door = still old.door new.door same in
    record {
      served = h.served;
      out = out_still base (links_in old.live) (links_in new.live) old.door new.door h (omega (arith, ap links_in live, links_and old.live new.count came true is)) out;
      place = h.place;
      faults = h.faults;
      counts = omega (arith, count);
      coming = λ k. h.coming;
    }
came_one base came false old new is out gives count live =
    let more : links_in new.live ≡ suc (links_in old.live) = omega (arith, ap links_in live, links_and old.live new.count came false is) in
    record {
      served = gives.served;
      out = subst (λ (n : ℕ). IsOut base new.door.served new.door.out n) (sym more)
          (subst (λ (o : Option (List Served)). IsOut base o new.door.out (suc (links_in old.live))) (sym gives.served)
          (one_more old.door.served old.door.out new.door.out (links_in old.live) base gives.lends out));
      place = gives.place;
      faults = gives.faults;
      counts = omega (arith, count);
      coming = λ k. absurd (omega (arith, count, k));
    }

-- one of those that were open went back
went_one : (base : ℕ) (one : OpenLink) (left : Sight) (kind : Bool) (old new : Moment) → one.came.is_errand ≡ kind → IsOut base old.door.served old.door.out (links_in old.live)
    → IfErrand kind (new.door ≡ old.door) (IsBack left old.door new.door) → new.count ≡ old.count → IsWithout old.live one new.live → Ran base (with_link kind left []) old new
went_one base one left true old new is out same count rest =
    let h : IsStill old.door new.door = still old.door new.door same in
    record {
      served = h.served;
      out = out_still base (links_in old.live) (links_in new.live) old.door new.door h (omega (arith, links_without old.live new.live one true is rest)) out;
      place = h.place;
      faults = h.faults;
      counts = omega (arith, count);
      coming = λ k. h.coming;
    }
went_one base one left false old new is out back count rest =
    let last : Option Served = served_of left.line.written left.side.sent in
    let fewer : links_in old.live ≡ suc (links_in new.live) = omega (arith, links_without old.live new.live one false is rest) in
    let told : (new.door.served ≡ with_last old.door.served last) × IsOut base new.door.served new.door.out (links_in new.live) =
    back_one old.door.served new.door.served old.door.out new.door.out (links_in new.live) base last
    (subst (λ (n : ℕ). IsOut base old.door.served old.door.out n) fewer out) back.takes in
    record {
      served = told.0;
      out = told.1;
      place = back.place;
      faults = back.faults;
      counts = omega (arith, count);
      coming = λ k. back.coming;
    }

with_more : (told : Option (List Served)) (first second : List Sight) → with_all told (first ++ second) ≡ with_all (with_all told first) second
with_more told [] second = refl
with_more told (left ∷ first) second = with_more (with_last told (served_of left.line.written left.side.sent)) first second

-- one part after another
ran_on : (base : ℕ) (first second : List Sight) (old mid new : Moment) → Ran base first old mid → Ran base second mid new → Ran base (first ++ second) old new
ran_on base first second old mid new one two = record {
  served = two.served ∙ ap (λ (o : Option (List Served)). with_all o second) one.served ∙ sym (with_more old.door.served first second);
  out = two.out;
  place = two.place ∙ one.place;
  faults = two.faults ∙ one.faults;
  counts = omega (arith, one.counts, two.counts);
  coming = λ same. two.coming (omega (arith, one.counts, two.counts, same)) ∙ one.coming (omega (arith, one.counts, two.counts, same));
}

link_first : (kind : Bool) (left : Sight) (rest : List Sight) → with_link kind left rest ≡ with_link kind left [] ++ rest
link_first true left rest = refl
link_first false left rest = refl

module _ {G : Type 0} (serves : ℕ → G → Sight → Sight → Type 0) where
  ran : (base : ℕ) (events : List (Event G)) (old new : Moment) → IsOut base old.door.served old.door.out (links_in old.live) → Runs serves events old new → Ran base (left_of events) old new
  ran base [] old new out same =
      subst (λ (m : Moment). Ran base [] old m) (sym same) (record { served = refl; out = out; place = refl; faults = refl; counts = omega arith; coming = λ k. refl })
  ran base (Came sight ∷ later) old new out h =
      let one : Ran base [] old h.0 = came_one base sight sight.is_errand old h.0 refl out h.1.0 h.1.1 h.1.2 in
      ran_on base [] (left_of later) old h.0 new one (ran base later h.0 new one.out h.2)
  ran base (Went one log left ∷ later) old new out h =
      let here : Ran base (with_link left.is_errand left []) old h.0 = went_one base one left left.is_errand old h.0 (sym h.1.0.0) out h.1.0.1 h.1.2 h.1.3 in
      subst (λ (l : List Sight). Ran base l old new) (sym (link_first left.is_errand left (left_of later)))
      (ran_on base (with_link left.is_errand left []) (left_of later) old h.0 new here (ran base later h.0 new here.out h.2))

link_more : (kind : Bool) (left : Sight) (first second : List Sight) → with_link kind left (first ++ second) ≡ with_link kind left first ++ second
link_more true left first second = refl
link_more false left first second = refl

pub left_more : {G : Type 0} (first second : List (Event G)) → left_of (first ++ second) ≡ left_of first ++ left_of second
left_more [] second = refl
left_more (Came sight ∷ first) second = left_more first second
left_more (Went one log left ∷ first) second = ap (with_link left.is_errand left) (left_more first second) ∙ link_more left.is_errand left (left_of first) (left_of second)

-- ---- the watch

-- a door that stops changes its count of faults at most
stopped : (stop : Stop) (count : ℕ) (old new : DoorView) → StopsBy stop count old new → new ≡ record old { faults = new.faults }
stopped Spent count old new stops = subst (λ (d : DoorView). d ≡ record old { faults = d.faults }) (sym stops.1) refl
stopped Shut count old new stops = subst (λ (d : DoorView). d ≡ record old { faults = d.faults }) (sym stops.2) refl
stopped Failed count old new stops = stops.1.same
stopped Halted count old new stops = subst (λ (d : DoorView). d ≡ record old { faults = d.faults }) (sym stops.1) refl

module _ {G : Type 0} (serves : ℕ → G → Sight → Sight → Type 0) where
  go_back : (events since : List (Event G)) (old between new : DoorView) (last : Moment) (stop : Stop) → Runs serves events (moment old 0 []) last → StopsBy stop last.count last.door between
      → Runs serves since (moment between last.count last.live) (moment new last.count []) → GoBack (left_of (events ++ since)) old between new
  go_back events since old between new last stop runs stops ends =
      let plus : 0 + old.out ≡ old.out = omega arith in
      let one : Ran old.out (left_of events) (moment old 0 []) last = ran serves old.out events (moment old 0 []) last (where_told old.served (old.out ≡ 0 + old.out) (omega arith)) runs in
      let same : between ≡ record last.door { faults = between.faults } = stopped stop last.count last.door between stops in
      let out : IsOut old.out between.served between.out (links_in last.live) = subst (λ (d : DoorView). IsOut old.out d.served d.out (links_in last.live)) (sym same) one.out in
      let two : Ran old.out (left_of since) (moment between last.count last.live) (moment new last.count []) =
      ran serves old.out since (moment between last.count last.live) (moment new last.count []) out ends in
      record {
        served = two.served ∙ ap (λ (o : Option (List Served)). with_all o (left_of since)) (ap (λ (d : DoorView). d.served) same ∙ one.served)
            ∙ sym (ap (with_all old.served) (left_more events since) ∙ with_more old.served (left_of events) (left_of since));
        out = subst (λ (n : ℕ). IfSome new.served (λ (list : List Served). new.out ≡ n)) plus two.out;
        coming = two.coming refl;
        place = two.place ∙ ap (λ (d : DoorView). d.place) same ∙ one.place;
        faults = two.faults;
      }

  -- links came until the door stopped, and all went back
  pub attends : (stop : Stop) (none logs all : List G) (count : ℕ) (live : List OpenLink) (old between new : DoorView) → none ≡ []
      → PassesUntil serves none logs (Some stop) (moment old 0 []) (moment between count live) → Passes serves logs all (moment between count live) (moment new count [])
      → Attends serves stop all old new
  attends stop none logs all count live old between new empty until rest = record {
    events = until.passes.events;
    since = rest.events;
    last = moment until.between count live;
    between = between;
    runs = until.passes.runs;
    stops = until.stops;
    ends = rest.runs;
    logs_are = rest.kept ∙ ap (λ (l : List G). l ++ logs_of rest.events) (until.passes.kept ∙ ap (λ (l : List G). l ++ logs_of until.passes.events) empty)
        ∙ sym (logs_more until.passes.events rest.events);
    back = go_back until.passes.events rest.events old between new (moment until.between count live) stop until.passes.runs until.stops rest.runs;
  }
