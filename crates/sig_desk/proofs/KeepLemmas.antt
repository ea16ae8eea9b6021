-- A desk whose node keeps a turn, and one whose link ends.
use Rattle.std.proofs.Common.{◌≡◌, ◌≢◌, ◌∙◌, ℕ, zero, suc, ◌<◌, ◌≤◌, ◌==◌, ◌-◌, if◌then◌else◌, Bool, true, false, List, [], ◌∷◌, ◌++◌, Option, Some, None, inl, inr, refl, sym, subst, ap, arith, length, append_assoc, filter}
use Rattle.std.specs.Prelude.{All, Contains, IfSome, not, slice_get, slice_set}
use Rattle.std.proofs.Math.Logic.{∥∥₁_map}
use Rattle.std.proofs.lemmas.Bool.Decides.{nat_tests}
use Rattle.std.proofs.lemmas.List.{append-nil}
use Rattle.std.proofs.lemmas.Option.{slice_get_within}
use Rattle.std.proofs.lemmas.List.Elements.{All-nil, All-push, Contains-append_left, Contains-push, filter-append}
use mathlib.Core.List.{IsPrefix}
use Rattle.sig_logs.specs.Logs.{of_link}
use Rattle.sig_logs.specs.declared.difference.Differ.{Differ}
use Rattle.sig_logs.specs.declared.difference.Differ.TheVariants.{Turn}
use Rattle.sig_desk.specs.Keeping.{AreKept, Differed, IsKept, KeepsOn}
use Rattle.sig_desk.specs.Views.{DeskView, IsClosed, IsOpen, first_of, telling}

-- ---- marks

apart_by : (a b : ℕ) (test : Bool) → (a == b) ≡ test → (a ≡ b → ⊥) → test ≡ false
apart_by a b true is other = absurd (other (grind (arith, nat_tests)))
apart_by a b false is other = refl

-- a link that is open is no link that has ended
pub other_link : (marks : List Bool) (a b : ℕ) → IsOpen marks a → IsClosed marks b → (a == b) ≡ false
other_link marks a b open_a closed_b = apart_by a b (a == b) refl (λ is. cc (sym open_a ∙ ap (slice_get marks) is ∙ closed_b))

-- a link that ends is closed, and what was closed stays so
pub closes : (marks : List Bool) (number : ℕ) → IsOpen marks number → IsClosed (slice_set marks number false) number
closes [] number is = absurd (cc is)
closes (m ∷ marks) zero is = refl
closes (m ∷ marks) (suc number) is = closes marks number is

pub closed_still : (marks : List Bool) (number other : ℕ) → IsClosed marks other → IsClosed (slice_set marks number false) other
closed_still [] number other is = absurd (cc is)
closed_still (m ∷ marks) zero zero is = refl
closed_still (m ∷ marks) zero (suc other) is = is
closed_still (m ∷ marks) (suc number) zero is = is
closed_still (m ∷ marks) (suc number) (suc other) is = closed_still marks number other is

-- what is open then was open
pub open_before : (marks : List Bool) (number other : ℕ) → IsOpen (slice_set marks number false) other → IsOpen marks other
open_before [] number other is = absurd (cc is)
open_before (m ∷ marks) zero zero is = absurd (cc is)
open_before (m ∷ marks) zero (suc other) is = is
open_before (m ∷ marks) (suc number) zero is = is
open_before (m ∷ marks) (suc number) (suc other) is = open_before marks number other is

pub marks_length : (marks : List Bool) (number : ℕ) → length (slice_set marks number false) ≡ length marks
marks_length [] number = refl
marks_length (m ∷ marks) zero = refl
marks_length (m ∷ marks) (suc number) = ap suc (marks_length marks number)

-- ---- turns of one link

module _ {T : Type 0} (link_of : T → ℕ) where
  -- one turn more of another link, and of this one
  pub of_other : (number : ℕ) (all : List T) (turn : T) → (link_of turn == number) ≡ false → of_link link_of number (all ++ turn ∷ []) ≡ of_link link_of number all
  of_other number all turn other =
      filter-append (λ t. link_of t == number) all (turn ∷ []) ∙ ap (λ (b : Bool). of_link link_of number all ++ (if b then turn ∷ [] else [])) other ∙ append-nil (of_link link_of number all)

  pub of_both : (number : ℕ) (turns all : List T) (turn : T) → of_link link_of number turns ≡ of_link link_of number all → of_link link_of number (turns ++ turn ∷ []) ≡ of_link link_of number (all ++ turn ∷ [])
  of_both number turns all turn same =
      filter-append (λ t. link_of t == number) turns (turn ∷ []) ∙ ap (λ (l : List T). l ++ of_link link_of number (turn ∷ [])) same ∙ sym (filter-append (λ t. link_of t == number) all (turn ∷ []))

  -- the turns of one link stay where those of another are dropped
  keeps_one : (t : T) (number other : ℕ) (here there : Bool) (rest less : List T) → (link_of t == number) ≡ here → (link_of t == other) ≡ there → (number ≡ other → ⊥)
      → of_link link_of other less ≡ of_link link_of other rest
      → of_link link_of other (if not here then t ∷ less else less) ≡ (if there then t ∷ of_link link_of other rest else of_link link_of other rest)
  keeps_one t number other true true rest less is it apart same = absurd (apart (grind (arith, nat_tests)))
  keeps_one t number other true false rest less is it apart same = same
  keeps_one t number other false there rest less is it apart same = ap (λ (b : Bool). if b then t ∷ of_link link_of other less else of_link link_of other less) it ∙ ap (λ (l : List T). if there then t ∷ l else l) same

  pub others_stay : (number other : ℕ) → (number ≡ other → ⊥) → (turns : List T) → of_link link_of other (filter (λ t. not (link_of t == number)) turns) ≡ of_link link_of other turns
  others_stay number other apart [] = refl
  others_stay number other apart (t ∷ turns) = keeps_one t number other (link_of t == number) (link_of t == other) turns (filter (λ u. not (link_of u == number)) turns) refl refl apart (others_stay number other apart turns)

prefix_longer : {X : Type 0} (xs ys zs : List X) → IsPrefix xs ys → IsPrefix xs (ys ++ zs)
prefix_longer xs ys zs p = (p.0 ++ zs, sym (append_assoc xs p.0 zs) ∙ ap (λ l. l ++ zs) p.1)

module _ {G T : Type 0} (link_of : T → ℕ) (number_of : G → ℕ) (turns_of : G → List T) where
  -- what differed differs still, where links only end and logs only come
  pub differed_on : (old new : DeskView G T) (all made : List T) → ((number : ℕ) → IsOpen new.marks number → IsOpen old.marks number)
      → ((log : G) → Contains old.logs log → Contains new.logs log) → (differ : Differ) → Differed link_of number_of turns_of old all differ → Differed link_of number_of turns_of new (all ++ made) differ
  differed_on old new all made closing more (Turn link place) (inl h) = inl (record {
    log = h.log;
    has = more h.log h.has;
    number = h.number;
    earlier = h.earlier;
    before = prefix_longer h.earlier all made h.before;
    counted = h.counted;
    differs = h.differs;
  })
  differed_on old new all made closing more (Turn link place) (inr (inl h)) = inr (inl (record {
    turn = h.turn;
    has = Contains-append_left all made h.turn h.has;
    of = h.of;
    closed = λ o. h.closed (closing link o);
    first = h.first;
  }))
  differed_on old new all made closing more (Turn link place) (inr (inr none)) = inr (inr none)

  told_on : (old new : DeskView G T) (all made : List T) → ((number : ℕ) → IsOpen new.marks number → IsOpen old.marks number)
      → ((log : G) → Contains old.logs log → Contains new.logs log) → (told : Option Differ)
      → IfSome told (λ d. ∥ Differed link_of number_of turns_of old all d ∥₁) → IfSome told (λ d. ∥ Differed link_of number_of turns_of new (all ++ made) d ∥₁)
  told_on old new all made closing more None h = h
  told_on old new all made closing more (Some d) h = ∥∥₁_map h (differed_on old new all made closing more d)

  -- it tells what it told, and has kept all where it had
  pub keeps_on : (old new : DeskView G T) (made : List T) → new.differs ≡ old.differs → ((number : ℕ) → IsOpen new.marks number → IsOpen old.marks number)
      → ((log : G) → Contains old.logs log → Contains new.logs log)
      → ((all : List T) → AreKept link_of number_of turns_of old all → AreKept link_of number_of turns_of new (all ++ made)) → KeepsOn link_of number_of turns_of old new made
  keeps_on old new made same closing more goes all h = record {
    kept = λ none. goes all (h.kept (sym same ∙ none));
    told = subst (λ (o : Option Differ). IfSome o (λ d. ∥ Differed link_of number_of turns_of new (all ++ made) d ∥₁)) (sym same) (told_on old new all made closing more old.differs h.told);
  }

  some_told : (told : Option Differ) (differ : Differ) → first_of told differ ≡ None → ⊥
  some_told None differ is = cc is
  some_told (Some d) differ is = cc is

  -- it tells what differs, or what it told before
  pub tells_on : (old new : DeskView G T) (made : List T) (differ : Differ) → new.differs ≡ first_of old.differs differ → ((number : ℕ) → IsOpen new.marks number → IsOpen old.marks number)
      → ((log : G) → Contains old.logs log → Contains new.logs log) → ((all : List T) → IsKept link_of number_of turns_of old all → old.differs ≡ None → Differed link_of number_of turns_of new (all ++ made) differ)
      → KeepsOn link_of number_of turns_of old new made
  tells_on old new made differ is closing more does all h = record {
    kept = λ none. absurd (some_told old.differs differ (sym is ∙ none));
    told = subst (λ (o : Option Differ). IfSome o (λ d. ∥ Differed link_of number_of turns_of new (all ++ made) d ∥₁)) (sym is) (first old.differs refl h.told);
  }
    where
      first : (told : Option Differ) → old.differs ≡ told → IfSome told (λ d. ∥ Differed link_of number_of turns_of old all d ∥₁) → IfSome (first_of told differ) (λ d. ∥ Differed link_of number_of turns_of new (all ++ made) d ∥₁)
      first None none h' = ∣ does all h none ∣₁
      first (Some d) none h' = ∥∥₁_map h' (differed_on old new all made closing more d)

  -- ---- a node keeps a turn

  -- a turn of a link that is open
  pub kept_turn : (old new : DeskView G T) (turn : T) → new.logs ≡ old.logs → new.marks ≡ old.marks → new.differs ≡ old.differs → new.turns ≡ old.turns ++ turn ∷ []
      → IsOpen old.marks (link_of turn) → KeepsOn link_of number_of turns_of old new (turn ∷ [])
  kept_turn old new turn logs marks differs turns is_open =
      keeps_on old new (turn ∷ []) differs (λ number o. subst (λ (m : List Bool). IsOpen m number) marks o) (λ log h. subst (λ (l : List G). Contains l log) (sym logs) h)
      (λ all h. record {
        nobody = subst (λ (m : List Bool). IsClosed m 0) (sym marks) h.nobody;
        each = subst (All (λ (log : G). turns_of log ≡ of_link link_of (number_of log) (all ++ turn ∷ []))) (sym logs)
            (λ k d lt. h.each k d lt ∙ sym (of_other link_of _ all turn (other_link old.marks _ _ is_open (h.ended k d lt))));
        ended = subst (λ (m : List Bool). All (λ (log : G). IsClosed m (number_of log)) new.logs) (sym marks) (subst (All (λ (log : G). IsClosed old.marks (number_of log))) (sym logs) h.ended);
        waiting = λ number o. ap (of_link link_of number) turns ∙ of_both link_of number old.turns all turn (h.waiting number (subst (λ (m : List Bool). IsOpen m number) marks o));
        known = subst (λ (m : List Bool). All (λ (t : T). (1 ≤ link_of t) × (link_of t < length m)) (all ++ turn ∷ [])) (sym marks)
            (All-push (λ (t : T). (1 ≤ link_of t) × (link_of t < length old.marks)) all turn h.known (some_link (link_of turn) is_open h.nobody));
      })
    where
      some_link : (link : ℕ) → IsOpen old.marks link → IsClosed old.marks 0 → (1 ≤ link) × (link < length old.marks)
      some_link zero o none = absurd (cc (sym o ∙ none))
      some_link (suc link) o none = (omega arith, slice_get_within old.marks (suc link) true o)

  -- a turn of a link that isn't
  pub stray_turn : (old new : DeskView G T) (turn : T) → new ≡ telling old (Turn (link_of turn) 1) → (IsOpen old.marks (link_of turn) → ⊥) → KeepsOn link_of number_of turns_of old new (turn ∷ [])
  stray_turn old new turn is closed = subst (λ (n : DeskView G T). KeepsOn link_of number_of turns_of old n (turn ∷ [])) (sym is)
      (tells_on old (telling old (Turn (link_of turn) 1)) (turn ∷ []) (Turn (link_of turn) 1) refl (λ number o. o) (λ log h. h)
      (λ all h none. inr (inl (record { turn = turn; has = Contains-push all turn; of = refl; closed = closed; first = refl }))))

  -- it keeps the same, with whatever room
  pub same_desk : (old new : DeskView G T) → new.logs ≡ old.logs → new.turns ≡ old.turns → new.marks ≡ old.marks → new.differs ≡ old.differs → KeepsOn link_of number_of turns_of old new []
  same_desk old new logs turns marks differs =
      keeps_on old new [] differs (λ number o. subst (λ (m : List Bool). IsOpen m number) marks o) (λ log h. subst (λ (l : List G). Contains l log) (sym logs) h)
      (λ all h. subst (AreKept link_of number_of turns_of new) (sym (append-nil all)) (record {
        nobody = subst (λ (m : List Bool). IsClosed m 0) (sym marks) h.nobody;
        each = subst (All (λ (log : G). turns_of log ≡ of_link link_of (number_of log) all)) (sym logs) h.each;
        ended = subst (λ (m : List Bool). All (λ (log : G). IsClosed m (number_of log)) new.logs) (sym marks) (subst (All (λ (log : G). IsClosed old.marks (number_of log))) (sym logs) h.ended);
        waiting = λ number o. ap (of_link link_of number) turns ∙ h.waiting number (subst (λ (m : List Bool). IsOpen m number) marks o);
        known = subst (λ (m : List Bool). All (λ (t : T). (1 ≤ link_of t) × (link_of t < length m)) all) (sym marks) h.known;
      }))

  -- the node kept these further turns, and no others
  pub kept_on : (old new : DeskView G T) (all more made : List T) → KeepsOn link_of number_of turns_of old new made → more ≡ all ++ made → IsKept link_of number_of turns_of old all → IsKept link_of number_of turns_of new more
  kept_on old new all more made on is h = subst (IsKept link_of number_of turns_of new) (sym is) (on all h)

  pub kept_same : (old new : DeskView G T) (all : List T) → KeepsOn link_of number_of turns_of old new [] → IsKept link_of number_of turns_of old all → IsKept link_of number_of turns_of new all
  kept_same old new all on h = subst (IsKept link_of number_of turns_of new) (append-nil all) (on all h)

  -- no turn
  pub no_turn : (desk : DeskView G T) → KeepsOn link_of number_of turns_of desk desk []
  no_turn desk all h = subst (IsKept link_of number_of turns_of desk) (sym (append-nil all)) h

  -- ---- a link ends

  -- its log could not be compared
  pub unseen_log : (old new : DeskView G T) (number : ℕ) → new ≡ telling old (Turn number 0) → KeepsOn link_of number_of turns_of old new []
  unseen_log old new number is = subst (λ (n : DeskView G T). KeepsOn link_of number_of turns_of old n []) (sym is)
      (tells_on old (telling old (Turn number 0)) [] (Turn number 0) refl (λ n o. o) (λ log h. h) (λ all h none. inr (inr refl)))

  -- the link of this log has ended, and the history has the log
  pub record HasEnded (old new : DeskView G T) (log : G) : Type 0 where
    pub logs : new.logs ≡ old.logs ++ log ∷ []
    pub marks : new.marks ≡ slice_set old.marks (number_of log) false
    pub turns : new.turns ≡ filter (λ t. not (link_of t == number_of log)) old.turns

  closing_of : (old new : DeskView G T) (log : G) → HasEnded old new log → (number : ℕ) → IsOpen new.marks number → IsOpen old.marks number
  closing_of old new log h number o = open_before old.marks (number_of log) number (subst (λ (m : List Bool). IsOpen m number) h.marks o)

  more_of : (old new : DeskView G T) (log : G) → HasEnded old new log → (one : G) → Contains old.logs one → Contains new.logs one
  more_of old new log h one has = subst (λ (l : List G). Contains l one) (sym h.logs) (Contains-append_left old.logs (log ∷ []) one has)

  pub same_log : (old new : DeskView G T) (log : G) → IsOpen old.marks (number_of log) → HasEnded old new log → new.differs ≡ old.differs
      → turns_of log ≡ of_link link_of (number_of log) old.turns → KeepsOn link_of number_of turns_of old new []
  same_log old new log is_open end differs same =
      keeps_on old new [] differs (closing_of old new log end) (more_of old new log end)
      (λ all h. subst (AreKept link_of number_of turns_of new) (sym (append-nil all)) (record {
        nobody = subst (λ (m : List Bool). IsClosed m 0) (sym end.marks) (closed_still old.marks (number_of log) 0 h.nobody);
        each = subst (All (λ (l : G). turns_of l ≡ of_link link_of (number_of l) all)) (sym end.logs)
            (All-push (λ (l : G). turns_of l ≡ of_link link_of (number_of l) all) old.logs log h.each (same ∙ h.waiting (number_of log) is_open));
        ended = subst (λ (m : List Bool). All (λ (l : G). IsClosed m (number_of l)) new.logs) (sym end.marks)
            (subst (All (λ (l : G). IsClosed (slice_set old.marks (number_of log) false) (number_of l))) (sym end.logs)
            (All-push (λ (l : G). IsClosed (slice_set old.marks (number_of log) false) (number_of l)) old.logs log
            (λ k d lt. closed_still old.marks (number_of log) _ (h.ended k d lt)) (closes old.marks (number_of log) is_open)));
        waiting = λ number o. ap (of_link link_of number) end.turns
            ∙ others_stay link_of (number_of log) number (λ is. cc (sym (subst (λ (m : List Bool). IsOpen m number) end.marks o) ∙ subst (λ (n : ℕ). IsClosed (slice_set old.marks (number_of log) false) n) is (closes old.marks (number_of log) is_open))) old.turns
            ∙ h.waiting number (closing_of old new log end number o);
        known = subst (λ (n : ℕ). All (λ (t : T). (1 ≤ link_of t) × (link_of t < n)) all) (sym (ap length end.marks ∙ marks_length old.marks (number_of log))) h.known;
      }))

  -- it differs at this place, counted from 1
  pub other_log : (old new : DeskView G T) (log : G) (place : ℕ) → IsOpen old.marks (number_of log) → HasEnded old new log → new.differs ≡ first_of old.differs (Turn (number_of log) place)
      → 1 ≤ place → slice_get (turns_of log) (place - 1) ≢ slice_get (of_link link_of (number_of log) old.turns) (place - 1) → KeepsOn link_of number_of turns_of old new []
  other_log old new log place is_open end differs counted other =
      tells_on old new [] (Turn (number_of log) place) differs (closing_of old new log end) (more_of old new log end)
      (λ all h none. inl (record {
        log = log;
        has = subst (λ (l : List G). Contains l log) (sym end.logs) (Contains-push old.logs log);
        number = refl;
        earlier = all;
        before = ([], refl);
        counted = counted;
        differs = subst (λ (l : List T). slice_get (turns_of log) (place - 1) ≢ slice_get l (place - 1)) ((h.kept none).waiting (number_of log) is_open) other;
      }))

  -- ---- before the first turn

  pub kept_none : (desk : DeskView G T) → desk.logs ≡ [] → desk.turns ≡ [] → IsClosed desk.marks 0 → desk.differs ≡ None → IsKept link_of number_of turns_of desk []
  kept_none desk logs turns nobody none = record {
    kept = λ is. record {
      nobody = nobody;
      each = subst (All (λ (log : G). turns_of log ≡ of_link link_of (number_of log) [])) (sym logs) (All-nil (λ (log : G). turns_of log ≡ of_link link_of (number_of log) []));
      ended = subst (All (λ (log : G). IsClosed desk.marks (number_of log))) (sym logs) (All-nil (λ (log : G). IsClosed desk.marks (number_of log)));
      waiting = λ number o. ap (of_link link_of number) turns;
      known = All-nil (λ (t : T). (1 ≤ link_of t) × (link_of t < length desk.marks));
    };
    told = subst (λ (o : Option Differ). IfSome o (λ d. ∥ Differed link_of number_of turns_of desk [] d ∥₁)) (sym none) tt;
  }
