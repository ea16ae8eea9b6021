-- The logs that the receipts of a watch are of.
use Rattle.std.proofs.Common.{◌≡◌, ◌∙◌, ℕ, zero, suc, ◌<◌, ◌≤◌, ◌==◌, Bool, true, false, List, [], ◌∷◌, ◌++◌, Option, Some, None, inl, inr, refl, sym, subst, ap, arith, length, if◌then◌else◌}
use Rattle.std.specs.Prelude.{◌⊎◌, All, Contains, IfSome, MatchOption, slice_index_or}
use Rattle.std.proofs.lemmas.Bool.Decides.{nat_tests}
use lib.Dec.{leb}
use Rattle.std.proofs.lemmas.List.Elements.{All-contains, All-cons, All-head, All-nil, All-tail, Contains-append_left}
use Rattle.sig_desk.specs.Keeping.{AreKept, Differed, IsKept}
use Rattle.sig_desk.specs.Settling.{IsLeft, IsOf, IsSettled, IsShown, IsUnsettled}
use Rattle.sig_desk.specs.Views.{DeskView, ReceiptView}
use Rattle.sig_links.specs.Views.{DoorView}
use Rattle.sig_logs.specs.Logs.{of_link}
use Rattle.sig_logs.specs.declared.difference.Differ.{Differ}
use Rattle.sig_logs.specs.declared.difference.Differ.TheVariants.{Turn}
use Rattle.sig_serving.specs.declared.stop.Stop.{Stop}
use Rattle.sig_watch.specs.Attending.{Attends, GoBack}
use Rattle.sig_watch.specs.Ends.{Compares, DeskTells, Differs}
use Rattle.sig_watch.specs.Happening.{Came, Event, Moment, Runs, Went, left_of, logs_of}
use Rattle.sig_watch.specs.Receipts.{AreOf, AreSettled, IsUnlike, ServedBy}
use Rattle.sig_watch.specs.Sights.{Sight, with_link}
use Rattle.sig_watch.proofs.PassLemmas.{logs_more}
use Rattle.sig_watch.proofs.WatchLemmas.{left_more}

module _ {G : Type 0} (serves : ℕ → G → Sight → Sight → Type 0) (number_of : G → ℕ) where
  are_of_more : (logs more : List G) (first second : List (ReceiptView G)) → AreOf number_of logs first → AreOf number_of more second → AreOf number_of (logs ++ more) (first ++ second)
  are_of_more [] more [] second h k = k
  are_of_more [] more (r ∷ first) second h k = absurd h
  are_of_more (log ∷ logs) more [] second h k = absurd h
  are_of_more (log ∷ logs) more (r ∷ first) second h k = (h.0, are_of_more logs more first second h.1 k)

  -- the same events, each with the log in place of its receipt
  record ByLogs (events : List (Event (ReceiptView G))) (old new : Moment) : Type 0 where
    pub by : List (Event G)
    pub runs : Runs serves by old new
    pub left : left_of by ≡ left_of events
    pub of : AreOf number_of (logs_of by) (logs_of events)

  by_logs : (events : List (Event (ReceiptView G))) (old new : Moment) → Runs (ServedBy serves number_of) events old new → ByLogs events old new
  by_logs [] old new same = record { by = []; runs = same; left = refl; of = tt }
  by_logs (Came sight ∷ later) old new h =
      let rest = by_logs later h.0 new h.2 in
      record { by = Came sight ∷ rest.by; runs = (h.0, h.1, rest.runs); left = rest.left; of = rest.of }
  by_logs (Went one receipt left ∷ later) old new h =
      let rest = by_logs later h.0 new h.2 in
      let served = h.1.1 in
      record {
        by = Went one served.0 left ∷ rest.by;
        runs = (h.0, (h.1.0, served.1, h.1.2, h.1.3), rest.runs);
        left = ap (with_link left.is_errand left) rest.left;
        of = (served.2, rest.of);
      }

  -- a watch by receipts is a watch by the logs that they are of
  pub record WatchedBy (stop : Stop) (receipts : List (ReceiptView G)) (old new : DoorView) : Type 0 where
    pub logs : List G
    pub attends : Attends serves stop logs old new
    pub of : AreOf number_of logs receipts

  pub watched_by : (stop : Stop) (receipts : List (ReceiptView G)) (old new : DoorView) → Attends (ServedBy serves number_of) stop receipts old new → WatchedBy stop receipts old new
  watched_by stop receipts old new h =
      let first = by_logs h.events _ _ h.runs in
      let second = by_logs h.since _ _ h.ends in
      let left : left_of (first.by ++ second.by) ≡ left_of (h.events ++ h.since) =
      left_more first.by second.by ∙ ap (λ (l : List Sight). l ++ left_of second.by) first.left ∙ ap (λ (l : List Sight). left_of h.events ++ l) second.left ∙ sym (left_more h.events h.since) in
      record {
        logs = logs_of (first.by ++ second.by);
        attends = record {
          events = first.by;
          since = second.by;
          last = h.last;
          between = h.between;
          runs = first.runs;
          stops = h.stops;
          ends = second.runs;
          logs_are = refl;
          back = subst (λ (l : List Sight). GoBack l old h.between new) (sym left) h.back;
        };
        of = subst (λ (l : List G). AreOf number_of l receipts) (sym (logs_more first.by second.by))
            (subst (AreOf number_of (logs_of first.by ++ logs_of second.by)) (sym (h.logs_are ∙ logs_more h.events h.since))
            (are_of_more (logs_of first.by) (logs_of second.by) (logs_of h.events) (logs_of h.since) first.of second.of));
      }

module _ {G T : Type 0} (link_of : T → ℕ) (number_of : G → ℕ) (turns_of : G → List T) where
  pub as_many : (logs : List G) (receipts : List (ReceiptView G)) → AreOf number_of logs receipts → length logs ≡ length receipts
  as_many [] [] h = refl
  as_many [] (r ∷ receipts) h = absurd h
  as_many (log ∷ logs) [] h = absurd h
  as_many (log ∷ logs) (r ∷ receipts) h = ap suc (as_many logs receipts h.1)

  has_log : (desk : DeskView G T) (log : G) (receipt : ReceiptView G) → IsOf number_of log receipt → IsShown desk receipt → Contains desk.logs log
  has_log desk log receipt of shown = subst (λ (l : List G). Contains l log) shown.1.1 (Contains-append_left receipt.front shown.1.0 log (of.1 shown.0))

  -- the history has the log of each receipt that it shows
  pub has_all : (desk : DeskView G T) (logs : List G) (receipts : List (ReceiptView G)) → AreOf number_of logs receipts → All (λ (r : ReceiptView G). IsShown desk r) receipts
      → All (λ (log : G). Contains desk.logs log) logs
  has_all desk [] receipts of shown = All-nil (λ (log : G). Contains desk.logs log)
  has_all desk (log ∷ logs) [] of shown = absurd of
  has_all desk (log ∷ logs) (r ∷ receipts) of shown =
      All-cons (λ (log : G). Contains desk.logs log) log logs (has_log desk log r of.0 (All-head (λ (r : ReceiptView G). IsShown desk r) r receipts shown))
      (has_all desk logs receipts of.1 (All-tail (λ (r : ReceiptView G). IsShown desk r) r receipts shown))

  skips : (test : Bool) (t : T) (rest : List T) → (if test then t ∷ rest else rest) ≡ [] → (test ≡ false) × (rest ≡ [])
  skips true t rest none = absurd (cc none)
  skips false t rest none = (refl, none)

  -- no turn is of a link that none of these is of
  none_of : (turns : List T) (link k : ℕ) (d : T) → k < length turns → link_of (slice_index_or turns k d) ≡ link → of_link link_of link turns ≡ [] → ⊥
  none_of [] link k d within same none = omega (arith, within)
  none_of (t ∷ turns) link zero d within same none = apart (link_of t) link (skips (link_of t == link) t (of_link link_of link turns) none).0 same
    where
      apart : (a b : ℕ) → (a == b) ≡ false → a ≡ b → ⊥
      apart a b is same = grind (arith, nat_tests)
  none_of (t ∷ turns) link (suc k) d within same none = none_of turns link k d (omega (arith, within)) same (skips (link_of t == link) t (of_link link_of link turns) none).1

  at_most : (a b : ℕ) (test : Bool) → leb a b ≡ test → (b < a → ⊥) → a ≤ b
  at_most a b true is h = grind (arith, nat_tests)
  at_most a b false is h = absurd (h (grind (arith, nat_tests)))

  few_links : (desk : DeskView G T) (all : List T) (links : ℕ) → AreKept link_of number_of turns_of desk all → IsSettled links desk
      → (k : ℕ) (d : T) → k < length all → (1 ≤ link_of (slice_index_or all k d)) × (link_of (slice_index_or all k d) ≤ links)
  few_links desk all links kept settled k d within =
      let link = link_of (slice_index_or all k d) in
      let known = kept.known k d within in (
        known.0,
        at_most link links (leb link links) refl
            (λ more. none_of all link k d within refl (sym (kept.waiting link (settled.few link more known.1)) ∙ ap (of_link link_of link) settled.none)),
      )

  -- what is compared where nothing differs, and where something does
  pub compares : (desk : DeskView G T) (all : List T) (logs : List G) (receipts : List (ReceiptView G)) (links : ℕ) (told : Option Differ) → IsKept link_of number_of turns_of desk all
      → length receipts ≡ links → AreOf number_of logs receipts → MatchOption told (AreSettled links desk receipts) (IsUnlike link_of links desk receipts)
      → Compares link_of number_of turns_of logs all told
  compares desk all logs receipts links None kept long of h = record {
    each = λ k d within. All-contains (λ (log : G). turns_of log ≡ of_link link_of (number_of log) all) desk.logs _ (kept.kept h.settled.same).each (has_all desk logs receipts of h.shown k d within);
    known = λ k d within. subst (λ (n : ℕ). (1 ≤ link_of (slice_index_or all k d)) × (link_of (slice_index_or all k d) ≤ n)) (sym (as_many logs receipts of ∙ long)) (few_links desk all links (kept.kept h.settled.same) h.settled k d within);
  }
  compares desk all logs receipts links (Some (Turn link place)) kept long of (inl none) = inl none.nowhere
  compares desk all logs receipts links (Some (Turn link place)) kept long of (inr h) = tells h.1
    where
      desk_tells : ∥ Differed link_of number_of turns_of desk all (Turn link place) ∥₁ ⊎ IsLeft link_of desk link place → DeskTells link_of number_of turns_of logs all link place
      desk_tells differs = record { desk = desk; has = has_all desk logs receipts of h.0; differs = differs }

      tells : IsUnsettled link_of links desk (Turn link place) → Differs link_of number_of turns_of logs all (Turn link place)
      tells (inl same) = inr (desk_tells (inl (subst (λ (o : Option Differ). IfSome o (λ d. ∥ Differed link_of number_of turns_of desk all d ∥₁)) same kept.told)))
      tells (inr (inl left)) = inr (desk_tells (inr left))
      tells (inr (inr none)) = inl none.0

-- where the history has the logs of all receipts, what differs is what the desk tells
pub settled : {G T : Type 0} (link_of : T → ℕ) (desk : DeskView G T) (receipts : List (ReceiptView G)) (links : ℕ) (told : Option Differ) → All (λ (r : ReceiptView G). IsShown desk r) receipts
    → MatchOption told (IsSettled links desk) (IsUnsettled link_of links desk) → MatchOption told (AreSettled links desk receipts) (IsUnlike link_of links desk receipts)
settled link_of desk receipts links None shown h = record { shown = shown; settled = h }
settled link_of desk receipts links (Some (Turn link place)) shown h = inr (shown, h)
