-- A run between the store that is opened and the one that is put back.
use Rattle.std.proofs.Common.{◌≡◌, ℕ, Bool, true, List, [], Option, inl, inr, sym, ap, subst}
use Rattle.std.specs.Prelude.{IsSome, is_some}
use Rattle.sig_command.specs.Moment.{Moment}
use Rattle.sig_courier.specs.declared.attempt.Attempt.{Attempt}
use Rattle.sig_links.specs.Told.{Begins, HandsNext, LendsSide, SideEnd, SidePlan, TakesBack, side_end, stored}
use Rattle.sig_links.specs.Views.{SideView}
use Rattle.sig_opening.proofs.FilesLemmas.{both_stay, both_with}
use Rattle.sig_opening.proofs.ReadingLemmas.{tells_on}
use Rattle.sig_opening.specs.Ends.{BreaksBy}
use Rattle.sig_owing.proofs.SoundLemmas.{unchanged}
use Rattle.sig_serve.specs.Closing.{FilesTell, PutsBack}
use Rattle.sig_serve.specs.Ends.{Says}
use Rattle.sig_serve.specs.Opening.{Opens}
use Rattle.sig_terms.specs.declared.rules.Rules.{Rules}
use Rattle.sig_txnode.specs.Node.{NodeView, files_told, first_file, second_file}
use Rattle.sig_txsettings.specs.declared.settings.TxSettings.{TxSettings}
use Rattle.sig_ticking.specs.Ends.{ByCourier, fails_by}
use Rattle.sig_ticking.specs.Lines.{EndTicks, MakesTicks}
use Rattle.sig_ticking.specs.Runs.{Couriers, CouriersBy, Run, RunsOver}
use Rattle.sig_ticking.specs.Sides.{Beside, NoTicks, TakesSide, beside}
use Rattle.sig_ticking.specs.Ticks.{Between, Tick, with_node}
use Rattle.sig_ticking.specs.declared.ending.CourierEnd.{CourierEnd}
use Rattle.sig_ticking.specs.declared.ending.CourierEnd.TheVariants.{Done, SettingsFailed, Refused, NoStore, StoreFailed, Damaged, InputFailed, OutputFailed, Full, Endless, Memory}
use Rattle.sig_ticking.proofs.TickLemmas.{rows_state}

-- ---- over a side

-- a side that was taken and given back
takes_side : (ahead taken ahead' : Option (List SidePlan)) (back between back' : Option (List SideEnd)) (out lent now : ℕ) (first last : SideView)
    → HandsNext ahead taken first.ahead first.times → ahead' ≡ taken → Begins back first.sent → first.faults ≡ 0 → between ≡ back
    → LendsSide ahead back out lent → TakesBack between back' lent now (side_end last.ahead last.times last.sent)
    → TakesSide ahead back ahead' back' first last
takes_side ahead taken ahead' back between back' out lent now first last next same begins whole back_same lends takes = record {
  next = subst (λ (s : Option (List SidePlan)). HandsNext ahead s first.ahead first.times) (sym same) next;
  begins = begins;
  whole = whole;
  out = out;
  lent = lent;
  lends = lends;
  after = now;
  gives_back = subst (λ (b : Option (List SideEnd)). TakesBack b back' lent now (side_end last.ahead last.times last.sent)) back_same takes;
}

-- ticks over it
pub runs_over : {D : Type 0} (told : D → Bool) (rules : Rules) (end : CourierEnd) (node node' : NodeView D) (ahead taken ahead' : Option (List SidePlan)) (back between back' : Option (List SideEnd)) (out lent now : ℕ) (first last : SideView) (before after : Moment)
    → HandsNext ahead taken first.ahead first.times → ahead' ≡ taken → Begins back first.sent → first.faults ≡ 0 → between ≡ back
    → LendsSide ahead back out lent → TakesBack between back' lent now (side_end last.ahead last.times last.sent)
    → (log : List Attempt) × MakesTicks rules end (with_node told node first []) (with_node told node' last log) before after → files_told told node' ≡ files_told told node
    → RunsOver told rules end node node' ahead back ahead' back' before after
runs_over told rules end node node' ahead taken ahead' back between back' out lent now first last before after next same begins whole back_same lends takes makes files = record {
  first = first;
  last = last;
  side = takes_side ahead taken ahead' back between back' out lent now first last next same begins whole back_same lends takes;
  log = makes.0;
  made = makes.1;
  files = files;
}

-- ---- by the end

-- a run that made ticks can end so
abbrev pub IsEndOfTicks : CourierEnd → Type 0
IsEndOfTicks Done = Unit {0}
IsEndOfTicks SettingsFailed = ⊥
IsEndOfTicks (Refused member) = ⊥
IsEndOfTicks NoStore = ⊥
IsEndOfTicks StoreFailed = Unit {0}
IsEndOfTicks (Damaged file at) = ⊥
IsEndOfTicks InputFailed = Unit {0}
IsEndOfTicks OutputFailed = Unit {0}
IsEndOfTicks (Full n) = Unit {0}
IsEndOfTicks (Endless n) = Unit {0}
IsEndOfTicks Memory = Unit {0}

end_of_ticks : (end : CourierEnd) (ticks : List Tick) → EndTicks end ticks → IsEndOfTicks end
end_of_ticks Done ticks h = tt
end_of_ticks SettingsFailed ticks h = h
end_of_ticks (Refused member) ticks h = h
end_of_ticks NoStore ticks h = h
end_of_ticks StoreFailed ticks h = tt
end_of_ticks (Damaged file at) ticks h = h
end_of_ticks InputFailed ticks h = tt
end_of_ticks OutputFailed ticks h = tt
end_of_ticks (Full n) ticks h = tt
end_of_ticks (Endless n) ticks h = tt
end_of_ticks Memory ticks h = tt

pub ticks_other : {D : Type 0} (told : D → Bool) (rules : Rules) (end other : CourierEnd) (node node' : NodeView D) (ahead : Option (List SidePlan)) (back : Option (List SideEnd)) (ahead' : Option (List SidePlan)) (back' : Option (List SideEnd)) (before after : Moment)
    → RunsOver told rules end node node' ahead back ahead' back' before after → (IsEndOfTicks other → ⊥) → end ≡ other → ⊥
ticks_other told rules end other node node' ahead back ahead' back' before after r not is = not (subst IsEndOfTicks is (end_of_ticks end r.made.ticks r.made.ends))

-- they ended with a store that failed
pub ticks_store : (end : CourierEnd) (broken_at : Option ℕ) → end ≡ StoreFailed → BreaksBy (fails_by end) broken_at → is_some broken_at ≡ true
ticks_store end broken_at is h = subst (λ (e : CourierEnd). BreaksBy (fails_by e) broken_at) is h

run_end : (end : CourierEnd) (none run : Type 0) → IsEndOfTicks end → run → ByCourier end none run
run_end Done none run kind h = h
run_end SettingsFailed none run kind h = absurd kind
run_end (Refused member) none run kind h = absurd kind
run_end NoStore none run kind h = absurd kind
run_end StoreFailed none run kind h = inr h
run_end (Damaged file at) none run kind h = absurd kind
run_end InputFailed none run kind h = h
run_end OutputFailed none run kind h = h
run_end (Full n) none run kind h = h
run_end (Endless n) none run kind h = h
run_end Memory none run kind h = inr h

by_courier : (end : CourierEnd) (none none' run run' : Type 0) → (none → none') → (run → run') → ByCourier end none run → ByCourier end none' run'
by_courier Done none none' run run' e f h = f h
by_courier SettingsFailed none none' run run' e f h = e h
by_courier (Refused member) none none' run run' e f h = e h
by_courier NoStore none none' run run' e f h = e h
by_courier StoreFailed none none' run run' e f (inl h) = inl (e h)
by_courier StoreFailed none none' run run' e f (inr h) = inr (f h)
by_courier (Damaged file at) none none' run run' e f h = e h
by_courier InputFailed none none' run run' e f h = f h
by_courier OutputFailed none none' run run' e f h = f h
by_courier (Full n) none none' run run' e f h = f h
by_courier (Endless n) none none' run run' e f h = f h
by_courier Memory none none' run run' e f (inl h) = inl (e h)
by_courier Memory none none' run run' e f (inr h) = inr (f h)

-- ---- the store

-- both files of a store that was told are told again
pub stays_told : {D : Type 0} (told : D → Bool) (seen : D → List ℕ) (own rules : Rules) (end : CourierEnd) (ahead : Option (List SidePlan)) (back : Option (List SideEnd)) (ahead' : Option (List SidePlan)) (back' : Option (List SideEnd)) (before after : Moment)
    (a b a' b' : Option (List ℕ)) (node node' : NodeView D) → Opens told seen own a b node → RunsOver told rules end node node' ahead back ahead' back' before after
    → a' ≡ stored (told (first_file node')) (seen (first_file node')) → b' ≡ stored (told (second_file node')) (seen (second_file node'))
    → (IsSome a → IsSome a') × (IsSome b → IsSome b')
stays_told told seen own rules end ahead back ahead' back' before after a b a' b' node node' opens runs is_a is_b =
    both_stay told seen a b a' b' (first_file node) (second_file node) (first_file node') (second_file node') opens.file_a opens.file_b runs.files is_a is_b

-- a run over a store that was opened and put back
pub couriers_store : {D : Type 0} (told : D → Bool) (seen : D → List ℕ) (rules : Rules) (end : CourierEnd) (ahead : Option (List SidePlan)) (back : Option (List SideEnd)) (ahead' : Option (List SidePlan)) (back' : Option (List SideEnd)) (before after : Moment)
    (a b a' b' : Option (List ℕ)) (node node' : NodeView D) → Opens told seen rules a b node → RunsOver told rules end node node' ahead back ahead' back' before after
    → BreaksBy (fails_by end) node'.store.broken_at → FilesTell told seen node'
    → a' ≡ stored (told (first_file node')) (seen (first_file node')) → b' ≡ stored (told (second_file node')) (seen (second_file node'))
    → Couriers rules end (record { a = a; b = b; ahead = ahead; back = back }) (record { a = a'; b = b'; ahead = ahead'; back = back' }) before after
couriers_store told seen rules end ahead back ahead' back' before after a b a' b' node node' opens runs broken kept is_a is_b =
    let old : Beside = record { a = a; b = b; ahead = ahead; back = back } in
    let new : Beside = record { a = a'; b = b'; ahead = ahead'; back = back' } in
    let last : Between = record { state = node'.state; files = files_told told node; side = runs.last; log = runs.log } in
    let made : MakesTicks rules end (with_node told node runs.first []) last before after =
    subst (λ (f : Bool × Bool). MakesTicks rules end (with_node told node runs.first []) (record { state = node'.state; files = f; side = runs.last; log = runs.log }) before after) runs.files runs.made in
    let run : Run rules end old new before after = record {
      state = node.state;
      opened = opens.state;
      files = files_told told node;
      first = runs.first;
      last = runs.last;
      side = runs.side;
      now = node'.state;
      log = runs.log;
      made = made;
      adds = rows_state rules made.ticks (with_node told node runs.first []) last (unchanged node.state opens.sound) made.each;
      back = both_with a' b' (stored (told (first_file node')) (seen (first_file node'))) (stored (told (second_file node')) (seen (second_file node'))) (PutsBack (fails_by end) node'.state) is_a is_b (kept (fails_by end) broken);
    } in
    run_end end (NoTicks old new before after) (Run rules end old new before after) (end_of_ticks end runs.made.ticks runs.made.ends) run

-- the same by other names of the rules and of the sides
pub at_sides : {D : Type 0} (told : D → Bool) (by rules : Rules) (end : CourierEnd) (node node' : NodeView D) (ahead : Option (List SidePlan)) (back : Option (List SideEnd)) (ahead' : Option (List SidePlan)) (back' : Option (List SideEnd))
    (first : Option (List SidePlan)) (second : Option (List SideEnd)) (first' : Option (List SidePlan)) (second' : Option (List SideEnd)) (before after : Moment) → by ≡ rules → ahead ≡ first → back ≡ second → ahead' ≡ first' → back' ≡ second'
    → RunsOver told by end node node' ahead back ahead' back' before after → RunsOver told rules end node node' first second first' second' before after
at_sides told by rules end node node' ahead back ahead' back' first second first' second' before after o p q r s runs =
    subst (λ (x : Rules). RunsOver told x end node node' first second first' second' before after) o
    (subst (λ (x : Option (List SidePlan)). RunsOver told by end node node' x second first' second' before after) p
    (subst (λ (x : Option (List SideEnd)). RunsOver told by end node node' ahead x first' second' before after) q
    (subst (λ (x : Option (List SidePlan)). RunsOver told by end node node' ahead back x second' before after) r
    (subst (λ (x : Option (List SideEnd)). RunsOver told by end node node' ahead back ahead' x before after) s runs))))

-- ---- by settings that are told

beside_same : {X : Type 0} (held : X → List ℕ → Option (List ℕ)) (ahead : X → Option (List SidePlan)) (back : X → Option (List SideEnd)) (a b : List ℕ) (x y : X)
    → held x ≡ held y → ahead x ≡ ahead y → back x ≡ back y → beside held ahead back a b x ≡ beside held ahead back a b y
beside_same held ahead back a b x y p q r = λ i. record { a = p i a; b = p i b; ahead = q i; back = r i }

-- no line was asked for where all is told as before
pub no_ticks : (old new : Beside) (before : Moment) → new ≡ old → NoTicks old new before before
no_ticks old new before same = record {
  files = (tells_on old.a new.a (ap (λ (x : Beside). x.a) same), tells_on old.b new.b (ap (λ (x : Beside). x.b) same));
  ahead = ap (λ (x : Beside). x.ahead) same;
  back = ap (λ (x : Beside). x.back) same;
  unused = λ i. before;
}

pub no_ticks_at : {X : Type 0} (held : X → List ℕ → Option (List ℕ)) (ahead : X → Option (List SidePlan)) (back : X → Option (List SideEnd)) (a b : List ℕ) (old new : X) (before : Moment)
    → held new ≡ held old → ahead new ≡ ahead old → back new ≡ back old → NoTicks (beside held ahead back a b old) (beside held ahead back a b new) before before
no_ticks_at held ahead back a b old new before p q r = no_ticks (beside held ahead back a b old) (beside held ahead back a b new) before (beside_same held ahead back a b new old p q r)

-- by the names of the files, and over what is told before the settings were read
pub couriers_named : {X : Type 0} (held : X → List ℕ → Option (List ℕ)) (ahead : X → Option (List SidePlan)) (back : X → Option (List SideEnd)) (told : Option (List ℕ)) (said : TxSettings) (end : CourierEnd)
    → (a a' b b' : List ℕ) (old mid new : X) (before after : Moment) → a ≡ a' → b ≡ b' → held mid ≡ held old → ahead mid ≡ ahead old → back mid ≡ back old → Says told said
    → Couriers said.rules end (beside held ahead back a b mid) (beside held ahead back a b new) before after
    → CouriersBy told end (beside held ahead back a' b' old) (beside held ahead back a' b' new) before after
couriers_named held ahead back told said end a a' b b' old mid new before after is_a is_b p q r says h =
    let now = beside held ahead back a' b' new in
    subst (λ (x : Beside). CouriersBy told end x now before after) (beside_same held ahead back a' b' mid old p q r)
    (by_courier end (NoTicks (beside held ahead back a' b' mid) now before after) (NoTicks (beside held ahead back a' b' mid) now before after)
    (Run said.rules end (beside held ahead back a' b' mid) now before after)
    ((said : TxSettings) × Says told said × Run said.rules end (beside held ahead back a' b' mid) now before after) (λ none. none) (λ run. (said, says, run))
    (subst (λ (m : List ℕ). Couriers said.rules end (beside held ahead back a' m mid) (beside held ahead back a' m new) before after) is_b
    (subst (λ (n : List ℕ). Couriers said.rules end (beside held ahead back n b mid) (beside held ahead back n b new) before after) is_a h)))
