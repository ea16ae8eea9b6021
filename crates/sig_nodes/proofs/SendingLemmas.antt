-- What a transmitter's node over a store in memory holds after it is loaded, after a call, and after a stop.
use Rattle.std.specs.Option.{option_to_list}
use Rattle.std.proofs.Common.{◌≡◌, ◌∙◌, ap, sym, subst, inl, inr, ⊎_elim, ℕ, ◌+◌, ◌<◌, ◌≤◌, List, [], ◌∷◌, ◌++◌, length, map, append-nil, Bool, true, false, Option, Some, None, Result, Ok, Err, refl, arith}
use Rattle.std.specs.Prelude.{◌⊎◌, ◌↔◌, IfOk, IfSome, IsErrOf, IsOk, MatchBool, OnOk, is_ok, is_some, nat_le, nat_lt, if◌then◌else◌}
use Rattle.std.proofs.lemmas.Bool.{false≢true}
use Rattle.std.proofs.lemmas.List.{length-map}
use Rattle.sig_json.specs.declared.limits.TheConstants.{LAST_NUMBER}
use Rattle.sig_terms.specs.declared.answer.Answer.{Answer}
use Rattle.sig_terms.specs.declared.call.Call.{Call}
use Rattle.sig_terms.specs.declared.fact.Fact.{Fact}
use Rattle.sig_terms.specs.declared.rules.Rules.{Rules}
use Rattle.sig_history.specs.Owed.{Sum, empty_sum, sum_of}
use Rattle.sig_history.proofs.JoinLemmas.{joined}
use Rattle.sig_calls.specs.Table.{change_of}
use Rattle.sig_entry.specs.Facts.{spelling_of}
use Rattle.sig_outside.specs.Disk.{StopsAfter}
use Rattle.sig_outside.specs.KeptDisk.{Kept, left_since, may_leave, seen}
use Rattle.sig_journal.specs.declared.fault.LoadFault.{LoadFault}
use Rattle.sig_journal.specs.declared.kind.Kind.TheVariants.{Tx}
use Rattle.sig_journal.specs.Added.{rests_with_it}
use Rattle.sig_journal.specs.Journal.{image_store, told_store}
use Rattle.sig_journal.specs.Layout.{end_of}
use Rattle.sig_journal.specs.Store.{Told, pick, tells, with_record}
use Rattle.sig_journal.specs.declared.node_fault.NodeFault.{NodeFault}
use Rattle.sig_journal.specs.declared.node_fault.NodeFault.TheVariants.{Store, Full, Memory}
use Rattle.sig_journal.specs.Standing.{Loads}
use Rattle.sig_journal.specs.Appended.{Breaks, HasRecord}
use Rattle.sig_journal.specs.Stored.{Stored}
use Rattle.sig_journal.specs.Taking.{loaded}
use Rattle.sig_still.specs.Still.{faults, is_short, moment, rest, stop, tells_file}
use Rattle.sig_still.specs.Stores.{HoldsStore, Reads, ReadsBoth, end_at, store_of, with_kept}
use Rattle.sig_still.proofs.Crashes.{crash_tells, holds_count, holds_end, loaded_holds, read_holds, stop_image, stop_rests, stop_tells}
use Rattle.sig_txnode.specs.Answering.{Answered, answer_at, end_with, sum_after, time_used, when_ok}
use Rattle.sig_txnode.specs.Loaded.{Begins}
use Rattle.sig_txnode.specs.Node.{NodeView}
use Rattle.sig_txnode.specs.Records.{sending}
use Rattle.sig_txnode.specs.Taken.{IsCarried, Lasts, Refused, StaysBeside}
use Rattle.sig_nodes.specs.Records.{fact_records}
use Rattle.sig_nodes.specs.Sending.{MakesFact, TxAt, TxHalted, TxRests, TxTaken, sum_at, tx_change, tx_told}
use Rattle.sig_nodes.specs.declared.halted.Halted.{Halted}
use Rattle.sig_nodes.specs.declared.halted.Halted.TheVariants as halted
use Rattle.sig_nodes.proofs.KeptLemmas.{kept_count, map_kept, picked_whole}
use Rattle.sig_nodes.proofs.ToldLemmas.{never_store, ok_tells}

abbrev LastsHere : {T : Type 0} → NodeView Kept → NodeView Kept → Sum → Option Fact → Result T NodeFault → Type 0
LastsHere old new before change result = Lasts tells_file seen may_leave moment left_since stop is_short old.store new.store before change result

-- ---- loading

sum_same : (a b : Sum) → (let r : Result Sum LoadFault = Ok a in r ≡ Ok b) → a ≡ b
sum_same a b h = cc h

-- a node that was loaded of what both files told
pub load_at : (rules : Rules) (a b : Kept) (node : NodeView Kept) → Begins tells_file seen may_leave rules node
    → loaded sending (tells Tx (seen a) (seen b)) ≡ Ok node.state
    → Reads a (pick node.store.journal.in_b node.store.journal.written node.store.journal.other)
    → Reads b (pick node.store.journal.in_b node.store.journal.other node.store.journal.written)
    → (name : List ℕ) (facts : List Fact) → tells Tx (seen a) (seen b) ≡ Ok (store_of name (fact_records facts))
    → loaded sending (Ok (store_of name (fact_records facts))) ≡ Ok (sum_at name facts) → TxAt rules name node facts
load_at rules a b node begins gives in_a in_b name facts told loads = record {
  rules_are = begins.same_rules;
  state = sum_same node.state (sum_at name facts) (sym gives ∙ ap (loaded sending) told ∙ loads);
  kind = begins.kind;
  holds = loaded_holds name (fact_records facts) Tx a b node.store told begins.whole begins.rests begins.kind in_a in_b;
  loads = loads;
}

-- a store that has no record stands for no fact
pub new_loads : (name : List ℕ) → loaded sending (Ok (store_of name [])) ≡ Ok (sum_at name [])
new_loads name = refl

-- what a crash leaves of a node
pub crash_rests : (rules : Rules) (name : List ℕ) (node : NodeView Kept) (facts : List Fact) → TxAt rules name node facts → TxRests name node facts
crash_rests rules name node facts at = record {
  told = ap (λ k. tells k (rest (pick node.store.journal.in_b node.store.journal.written node.store.journal.other)) (rest (pick node.store.journal.in_b node.store.journal.other node.store.journal.written))) (sym at.kind)
      ∙ crash_tells name (fact_records facts) node.store at.holds;
  loads = at.loads;
}

-- a node whose files were only read
pub read_at : (rules : Rules) (name : List ℕ) (facts : List Fact) (old new : NodeView Kept) → TxAt rules name old facts → ReadsBoth old.store new.store
    → new.rules ≡ old.rules → new.state ≡ old.state → TxAt rules name new facts
read_at rules name facts old new at reads same_rules same_state = record {
  rules_are = same_rules ∙ at.rules_are;
  state = same_state ∙ at.state;
  kind = reads.kind ∙ at.kind;
  holds = read_holds name (fact_records facts) old.store new.store at.holds reads;
  loads = at.loads;
}

-- ---- a call

-- with one more fact
sum_more : (name : List ℕ) (facts : List Fact) (f : Fact) → sum_after (sum_at name facts) (Some f) ≡ sum_at name (facts ++ f ∷ [])
sum_more name facts f = sym (joined (empty_sum name) facts (f ∷ []))

module _ (rules : Rules) (name : List ℕ) (facts : List Fact) (c : Call) (now : ℕ) (old new : NodeView Kept) (at : TxAt rules name old facts) where
  told_is : answer_at old.rules old.state old.store.journal.end c (time_used now) ≡ tx_told rules name facts c now
  told_is =
      ap (λ r. answer_at r old.state old.store.journal.end c (time_used now)) at.rules_are
      ∙ ap (λ s. answer_at rules s old.store.journal.end c (time_used now)) at.state
      ∙ ap (λ e. answer_at rules (sum_at name facts) e c (time_used now)) (holds_end name (fact_records facts) old.store at.holds)

  change_is : change_of old.rules old.state c (time_used now) ≡ tx_change rules name facts c now
  change_is = ap (λ r. change_of r old.state c (time_used now)) at.rules_are ∙ ap (λ s. change_of rules s c (time_used now)) at.state

some_none : (turn : ℕ) → (let o : Option ℕ = Some turn in o ≡ None) → ⊥
some_none turn h = cc h

-- its answer, or the number that is too great, is told
ok_told : (told : Result Answer NodeFault) (broken_at : Option ℕ) (change : Option Fact) (before after : Sum) (answer : Answer) → broken_at ≡ None
    → Answered told change broken_at before after (Ok answer) → told ≡ Ok answer
ok_told told None change before after answer whole h = elim h.answer [
  | inl is ↦ absurd (ok_memory answer is)
  | inr (inl is) ↦ absurd (ok_store answer is.0)
  | inr (inr is) ↦ sym is
]
  where
    ok_memory : (answer : Answer) → (let r : Result Answer NodeFault = Ok answer in r ≡ Err Memory) → ⊥
    ok_memory answer is = cc is

    ok_store : (answer : Answer) → (let r : Result Answer NodeFault = Ok answer in r ≡ Err Store) → ⊥
    ok_store answer is = cc is
ok_told told (Some turn) change before after answer whole h = absurd (some_none turn whole)

full_told : (told : Result Answer NodeFault) (broken_at : Option ℕ) (change : Option Fact) (before after : Sum) (n : ℕ) → broken_at ≡ None
    → Answered told change broken_at before after (Err (Full n)) → told ≡ Err (Full n)
full_told told None change before after n whole h = elim h.answer [
  | inl is ↦ absurd (full_memory n is)
  | inr (inl is) ↦ absurd (full_store n is.0)
  | inr (inr is) ↦ sym is
]
  where
    full_memory : (n : ℕ) → (let r : Result Answer NodeFault = Err (Full n) in r ≡ Err Memory) → ⊥
    full_memory n is = cc is

    full_store : (n : ℕ) → (let r : Result Answer NodeFault = Err (Full n) in r ≡ Err Store) → ⊥
    full_store n is = cc is
full_told told (Some turn) change before after n whole h = absurd (some_none turn whole)

-- where the disk failed, the call would have been answered
ok_there : (told : Result Answer NodeFault) → IsOk told → (answer : Answer) × (told ≡ Ok answer)
ok_there (Ok answer) h = (answer, refl)
ok_there (Err fault) h = absurd (false≢true h)

store_memory : (let r : Result Answer NodeFault = Err Store in r ≡ Err Memory) → ⊥
store_memory is = cc is

store_told : (told : Result Answer NodeFault) (broken_at : Option ℕ) (change : Option Fact) (before after : Sum) → broken_at ≡ None → (told ≡ Err Store → ⊥)
    → Answered told change broken_at before after (Err Store) → (answer : Answer) × (told ≡ Ok answer)
store_told told None change before after whole never h = elim h.answer [
  | inl is ↦ absurd (store_memory is)
  | inr (inl is) ↦ ok_there told is.1
  | inr (inr is) ↦ absurd (never (sym is))
]
store_told told (Some turn) change before after whole never h = absurd (some_none turn whole)

-- ---- after a call

some_same : (a b : Fact) → (let o : Option Fact = Some a in o ≡ Some b) → a ≡ b
some_same a b h = cc h

none_some : {P : Type 0} (f : Fact) → (let o : Option Fact = None in o ≡ Some f) → P
none_some f h = cc h

-- the node after a call that was answered and made this change
module _ (rules : Rules) (name : List ℕ) (facts : List Fact) (old new : NodeView Kept) (answer : Answer) (at : TxAt rules name old facts) (same_rules : new.rules ≡ old.rules) where
  after_none : LastsHere old new old.state None (let r : Result Answer NodeFault = Ok answer in r) → new.state ≡ old.state → TxAt rules name new facts
  after_none lasts state = record {
    rules_are = same_rules ∙ at.rules_are;
    state = state ∙ at.state;
    kind = ap (λ (s : Stored Kept). s.journal.kind) (lasts.idle refl) ∙ at.kind;
    holds = subst (HoldsStore name (fact_records facts)) (sym (lasts.idle refl)) at.holds;
    loads = at.loads;
  }

  after_some : (f : Fact) → LastsHere old new old.state (Some f) (let r : Result Answer NodeFault = Ok answer in r) → new.state ≡ sum_after old.state (Some f)
      → TxAt rules name new (facts ++ f ∷ [])
  after_some f lasts state =
      let added : HasRecord tells_file seen may_leave old.store new.store (spelling_of f) = lasts.added in
      let records : fact_records (facts ++ f ∷ []) ≡ fact_records facts ++ spelling_of f ∷ [] = map_kept spelling_of true facts f in
      let told : told_store seen new.store.journal ≡ Ok (store_of name (fact_records (facts ++ f ∷ []))) =
      added.tells (refl, refl) ∙ ap (λ t. with_record t (spelling_of f)) at.holds.tells
      ∙ ap (λ rs. let t : Result Told LoadFault = Ok (store_of name rs) in t) (sym records) in
      let sum : new.state ≡ sum_at name (facts ++ f ∷ []) = state ∙ ap (λ s. sum_after s (Some f)) at.state ∙ sum_more name facts f in
      record {
        rules_are = same_rules ∙ at.rules_are;
        state = sum;
        kind = lasts.files.kind ∙ at.kind;
        holds = record { whole = added.whole; tells = told; rests = added.rests };
        loads = ap (loaded sending) (sym told) ∙ lasts.acknowledged.1 (refl, refl)
            ∙ ap (λ s. let r : Result Sum LoadFault = Ok s in r) (ap (λ s. sum_after s (Some f)) at.state ∙ sum_more name facts f);
      }

-- a call that was answered, and what the node holds then
pub took_at : (rules : Rules) (name : List ℕ) (facts : List Fact) (c : Call) (now : ℕ) (old new : NodeView Kept) (answer : Answer) → TxAt rules name old facts
    → new.rules ≡ old.rules
    → Answered (answer_at old.rules old.state old.store.journal.end c (time_used now)) (change_of old.rules old.state c (time_used now)) old.store.broken_at old.state new.state (Ok answer)
    → LastsHere old new old.state (change_of old.rules old.state c (time_used now)) (let r : Result Answer NodeFault = Ok answer in r)
    → (tx_told rules name facts c now ≡ Ok answer) × TxAt rules name new (facts ++ option_to_list (tx_change rules name facts c now))
took_at rules name facts c now old new answer at same_rules answered lasts =
    let change : change_of old.rules old.state c (time_used now) ≡ tx_change rules name facts c now = change_is rules name facts c now old new at in
    let state : new.state ≡ sum_after old.state (tx_change rules name facts c now) = answered.state ∙ ap (sum_after old.state) change in (
      sym (told_is rules name facts c now old new at)
          ∙ ok_told _ old.store.broken_at (change_of old.rules old.state c (time_used now)) old.state new.state answer at.holds.whole answered,
      by_change (tx_change rules name facts c now)
          (subst (λ o. LastsHere old new old.state o (let r : Result Answer NodeFault = Ok answer in r)) change lasts) state,
    )
  where
    by_change : (o : Option Fact) → LastsHere old new old.state o (let r : Result Answer NodeFault = Ok answer in r) → new.state ≡ sum_after old.state o
        → TxAt rules name new (facts ++ option_to_list o)
    by_change None lasts state = subst (TxAt rules name new) (sym (append-nil facts)) (after_none rules name facts old new answer at same_rules lasts state)
    by_change (Some f) lasts state = after_some rules name facts old new answer at same_rules f lasts state

-- a number is too great
pub full_at : (rules : Rules) (name : List ℕ) (facts : List Fact) (c : Call) (now n : ℕ) (old new : NodeView Kept) → TxAt rules name old facts
    → Answered (answer_at old.rules old.state old.store.journal.end c (time_used now)) (change_of old.rules old.state c (time_used now)) old.store.broken_at old.state new.state (Err (Full n))
    → tx_told rules name facts c now ≡ Err (Full n)
full_at rules name facts c now n old new at answered =
    sym (told_is rules name facts c now old new at)
    ∙ full_told _ old.store.broken_at (change_of old.rules old.state c (time_used now)) old.state new.state n at.holds.whole answered

-- ---- a disk that stands still

-- what a crash leaves of a node whose disk stood still while this fact was added
halted_rests : (rules : Rules) (name : List ℕ) (facts : List Fact) (old new : NodeView Kept) (f : Fact) (calls fill : ℕ) (result : Result Answer NodeFault) → TxAt rules name old facts
    → StopsAfter true calls fill (stop old.store.journal.written) → LastsHere old new old.state (Some f) result → IsCarried result
    → end_with old.store.journal.end f ≤ LAST_NUMBER → is_short new.store.journal.written ≡ false
    → TxRests name new (with_kept (rests_with_it calls fill) facts f)
halted_rests rules name facts old new f calls fill result at stops lasts carried room short =
    let leaves = lasts.recorded at.holds.whole carried in
    let keeps : Bool = rests_with_it calls fill in
    let records : fact_records (with_kept keeps facts f) ≡ with_kept keeps (fact_records facts) (spelling_of f) = map_kept spelling_of keeps facts f in
    let told = stop_tells name (fact_records facts) (spelling_of f) calls fill old.store new.store result at.holds stops lasts.files leaves room short in
    let image = stop_image name (fact_records facts) (spelling_of f) calls fill old.store new.store result at.holds stops leaves room short in
    let rested = stop_rests (Loads sending seen old.store.journal old.state) (Loads sending seen old.store.journal (sum_after old.state (Some f))) result
    calls fill old.store.journal.written new.store.journal.written stops short (lasts.stopped at.holds.whole carried (refl, refl) room) in
    record {
      told = ap (λ k. tells k (rest (pick new.store.journal.in_b new.store.journal.written new.store.journal.other)) (rest (pick new.store.journal.in_b new.store.journal.other new.store.journal.written))) (sym (lasts.files.kind ∙ at.kind))
          ∙ told ∙ ap (λ rs. let t : Result Told LoadFault = Ok (store_of name rs) in t) (sym records);
      loads = by_kept keeps (image ∙ ap (λ rs. let t : Result Told LoadFault = Ok (store_of name rs) in t) (sym records)) rested.1;
    }
  where
    by_kept : (k : Bool) → image_store seen old.store.journal (rest new.store.journal.written) ≡ Ok (store_of name (fact_records (with_kept k facts f)))
        → MatchBool k (Loads sending seen old.store.journal (sum_after old.state (Some f)) (rest new.store.journal.written)) (Loads sending seen old.store.journal old.state (rest new.store.journal.written))
        → loaded sending (Ok (store_of name (fact_records (with_kept k facts f)))) ≡ Ok (sum_at name (with_kept k facts f))
    by_kept true image loads = ap (loaded sending) (sym image) ∙ loads
        ∙ ap (λ s. let r : Result Sum LoadFault = Ok s in r) (ap (λ s. sum_after s (Some f)) at.state ∙ sum_more name facts f)
    by_kept false image loads = at.loads

-- what becomes of a call that was answered while the disk stood still: the journal tells whether it made a fact
pub halted_ok : (rules : Rules) (name : List ℕ) (facts : List Fact) (c : Call) (now calls fill before : ℕ) (old mid new : NodeView Kept) (answer : Answer) (given : Option Answer)
    → TxAt rules name old facts → StopsAfter true calls fill (stop old.store.journal.written) → before ≡ old.store.journal.records → mid.rules ≡ old.rules
    → Answered (answer_at old.rules old.state old.store.journal.end c (time_used now)) (change_of old.rules old.state c (time_used now)) old.store.broken_at old.state mid.state (Ok answer)
    → LastsHere old mid old.state (change_of old.rules old.state c (time_used now)) (let r : Result Answer NodeFault = Ok answer in r)
    → (mid.store.journal.records ≡ before → (given ≡ Some answer) × ReadsBoth mid.store new.store × (new.rules ≡ mid.rules) × (new.state ≡ mid.state))
    → (mid.store.journal.records ≡ before + 1 → (given ≡ None) × (new ≡ mid))
    → TxTaken rules name facts c now (rests_with_it calls fill) new given
halted_ok rules name facts c now calls fill before old mid new answer given at stops count same_rules answered lasts idle made =
    let change : change_of old.rules old.state c (time_used now) ≡ tx_change rules name facts c now = change_is rules name facts c now old mid at in
    let told : tx_told rules name facts c now ≡ Ok answer = (took_at rules name facts c now old mid answer at same_rules answered lasts).0 in
    let state : mid.state ≡ sum_after old.state (tx_change rules name facts c now) = answered.state ∙ ap (sum_after old.state) change in
    by_change (tx_change rules name facts c now) refl told
    (subst (λ o. LastsHere old mid old.state o (let r : Result Answer NodeFault = Ok answer in r)) change lasts) state
  where
    by_change : (o : Option Fact) → tx_change rules name facts c now ≡ o → tx_told rules name facts c now ≡ Ok answer
        → LastsHere old mid old.state o (let r : Result Answer NodeFault = Ok answer in r) → mid.state ≡ sum_after old.state o
        → TxTaken rules name facts c now (rests_with_it calls fill) new given
    by_change None is told lasts state =
        let went = idle (ap (λ (s : Stored Kept). s.journal.records) (lasts.idle refl) ∙ sym count) in
        subst (TxTaken rules name facts c now (rests_with_it calls fill) new) (sym went.0)
        (is, told, read_at rules name facts mid new (after_none rules name facts old mid answer at same_rules lasts state) went.1 went.2 went.3)
    by_change (Some f) is told lasts state =
        let added : HasRecord tells_file seen may_leave old.store mid.store (spelling_of f) = lasts.added in
        let halted = made (added.counts ∙ ap (λ n. n + 1) (sym count)) in
        let makes : MakesFact rules name facts c now = record { fact = f; answer = answer; change = is; told = told } in
        let end : old.store.journal.end ≡ end_at name (fact_records facts) = holds_end name (fact_records facts) old.store at.holds in
        let room : end_with old.store.journal.end f ≤ LAST_NUMBER =
        subst (λ e. end_with e f ≤ LAST_NUMBER) (sym end) ((ok_tells rules (sum_at name facts) (end_at name (fact_records facts)) c (time_used now) answer told).room f is) in
        let taken : TxTaken rules name facts c now (rests_with_it calls fill) mid None =
        (makes, λ short. halted_rests rules name facts old mid f calls fill (let r : Result Answer NodeFault = Ok answer in r) at stops lasts tt room short) in
        subst (λ n. TxTaken rules name facts c now (rests_with_it calls fill) n given) (sym halted.1)
        (subst (TxTaken rules name facts c now (rests_with_it calls fill) mid) (sym halted.0) taken)

-- and of one that was brought to the disk, which failed
halted_store : (rules : Rules) (name : List ℕ) (facts : List Fact) (c : Call) (now calls fill turn : ℕ) (old new : NodeView Kept)
    → TxAt rules name old facts → StopsAfter true calls fill (stop old.store.journal.written)
    → Answered (answer_at old.rules old.state old.store.journal.end c (time_used now)) (change_of old.rules old.state c (time_used now)) old.store.broken_at old.state new.state (Err Store)
    → LastsHere old new old.state (change_of old.rules old.state c (time_used now)) (let r : Result Answer NodeFault = Err Store in r)
    → Refused faults old.store new.store turn (let r : Result Answer NodeFault = Err Store in r)
    → TxTaken rules name facts c now (rests_with_it calls fill) new None
halted_store rules name facts c now calls fill turn old new at stops answered lasts refused =
    let change : change_of old.rules old.state c (time_used now) ≡ tx_change rules name facts c now = change_is rules name facts c now old new at in
    let is = told_is rules name facts c now old new at in
    let told = store_told _ old.store.broken_at (change_of old.rules old.state c (time_used now)) old.state new.state at.holds.whole
    (λ h. never_store rules (sum_at name facts) (end_at name (fact_records facts)) c (time_used now) (sym is ∙ h)) answered in
    by_change (tx_change rules name facts c now) refl told.0 (sym is ∙ told.1)
    (subst (λ o. LastsHere old new old.state o (let r : Result Answer NodeFault = Err Store in r)) change lasts)
  where
    by_change : (o : Option Fact) → tx_change rules name facts c now ≡ o → (answer : Answer) → tx_told rules name facts c now ≡ Ok answer
        → LastsHere old new old.state o (let r : Result Answer NodeFault = Err Store in r) → TxTaken rules name facts c now (rests_with_it calls fill) new None
    by_change None is answer told lasts = absurd (not_idle (lasts.idle refl) (refused.store refl))
      where
        not_idle : new.store ≡ old.store → (is_some old.store.broken_at ≡ true) ⊎ Breaks faults old.store new.store turn → ⊥
        not_idle same (inl broken) = false≢true (ap is_some (sym at.holds.whole) ∙ broken)
        not_idle same (inr breaks) = some_none turn (sym breaks.at ∙ ap (λ (s : Stored Kept). s.broken_at) same ∙ at.holds.whole)
    by_change (Some f) is answer told lasts =
        let makes : MakesFact rules name facts c now = record { fact = f; answer = answer; change = is; told = told } in
        let end : old.store.journal.end ≡ end_at name (fact_records facts) = holds_end name (fact_records facts) old.store at.holds in
        let room : end_with old.store.journal.end f ≤ LAST_NUMBER =
        subst (λ e. end_with e f ≤ LAST_NUMBER) (sym end) ((ok_tells rules (sum_at name facts) (end_at name (fact_records facts)) c (time_used now) answer told).room f is) in
        (makes, λ short. halted_rests rules name facts old new f calls fill (let r : Result Answer NodeFault = Err Store in r) at stops lasts tt room short)

-- ---- what functions give

-- what was loaded of the files that a crash left
pub rest_loads : (node : NodeView Kept) (a b first second : Kept)
    → a ≡ pick node.store.journal.in_b node.store.journal.written node.store.journal.other → b ≡ pick node.store.journal.in_b node.store.journal.other node.store.journal.written
    → seen first ≡ rest a → seen second ≡ rest b → a.short ≡ false → b.short ≡ false
    → (name : List ℕ) (facts : List Fact) → (is_short node.store.journal.written ≡ false → TxRests name node facts)
    → (tells Tx (seen first) (seen second) ≡ Ok (store_of name (fact_records facts))) × (loaded sending (Ok (store_of name (fact_records facts))) ≡ Ok (sum_at name facts))
rest_loads node a b first second is_a is_b in_first in_second whole_a whole_b name facts rests =
    let j = node.store.journal in
    let r = rests (picked_whole j.in_b j.written j.other (ap (λ (d : Kept). d.short) (sym is_a) ∙ whole_a) (ap (λ (d : Kept). d.short) (sym is_b) ∙ whole_b)) in (
      ap (λ x. tells Tx x (seen second)) (in_first ∙ ap rest is_a) ∙ ap (λ x. tells Tx (rest (pick j.in_b j.written j.other)) x) (in_second ∙ ap rest is_b) ∙ r.told,
      r.loads,
    )

-- a call, by its result
pub took_result : (c : Call) (now : ℕ) (old new : NodeView Kept) (result : Result Answer NodeFault) → new.rules ≡ old.rules
    → Answered (answer_at old.rules old.state old.store.journal.end c (time_used now)) (change_of old.rules old.state c (time_used now)) old.store.broken_at old.state new.state result
    → LastsHere old new old.state (change_of old.rules old.state c (time_used now)) result
    → IfOk result (λ answer. (rules : Rules) (name : List ℕ) (facts : List Fact) → TxAt rules name old facts
    → (tx_told rules name facts c now ≡ Ok answer) × TxAt rules name new (facts ++ option_to_list (tx_change rules name facts c now)))
took_result c now old new (Ok answer) same_rules answered lasts = λ rules name facts at. took_at rules name facts c now old new answer at same_rules answered lasts
took_result c now old new (Err e) same_rules answered lasts = tt

pub full_result : (c : Call) (now : ℕ) (old new : NodeView Kept) (result : Result Answer NodeFault)
    → Answered (answer_at old.rules old.state old.store.journal.end c (time_used now)) (change_of old.rules old.state c (time_used now)) old.store.broken_at old.state new.state result
    → (n : ℕ) → IsErrOf result (Full n) → (rules : Rules) (name : List ℕ) (facts : List Fact) → TxAt rules name old facts → tx_told rules name facts c now ≡ Err (Full n)
full_result c now old new result answered n is rules name facts at =
    full_at rules name facts c now n old new at
    (subst (λ r. Answered (answer_at old.rules old.state old.store.journal.end c (time_used now)) (change_of old.rules old.state c (time_used now)) old.store.broken_at old.state new.state r) is answered)

pub store_result : (c : Call) (now turn : ℕ) (old new : NodeView Kept) (e : NodeFault) → e ≡ Store
    → Answered (answer_at old.rules old.state old.store.journal.end c (time_used now)) (change_of old.rules old.state c (time_used now)) old.store.broken_at old.state new.state (Err e)
    → LastsHere old new old.state (change_of old.rules old.state c (time_used now)) (let r : Result Answer NodeFault = Err e in r)
    → Refused faults old.store new.store turn (let r : Result Answer NodeFault = Err e in r)
    → (rules : Rules) (name : List ℕ) (facts : List Fact) (calls fill : ℕ) → TxAt rules name old facts → StopsAfter true calls fill (stop old.store.journal.written)
    → TxTaken rules name facts c now (rests_with_it calls fill) new None
store_result c now turn old new e is answered lasts refused rules name facts calls fill at stops =
    halted_store rules name facts c now calls fill turn old new at stops
    (subst (λ f. Answered (answer_at old.rules old.state old.store.journal.end c (time_used now)) (change_of old.rules old.state c (time_used now)) old.store.broken_at old.state new.state (Err f)) is answered)
    (subst (λ f. LastsHere old new old.state (change_of old.rules old.state c (time_used now)) (let r : Result Answer NodeFault = Err f in r)) is lasts)
    (subst (λ f. Refused faults old.store new.store turn (let r : Result Answer NodeFault = Err f in r)) is refused)

-- a node that was asked to stand still
pub stopped_at : (rules : Rules) (name : List ℕ) (facts : List Fact) (old new : NodeView Kept) → TxAt rules name old facts → Reads old.store.journal.written new.store.journal.written
    → Reads old.store.journal.other new.store.journal.other → StaysBeside old new → TxAt rules name new facts
stopped_at rules name facts old new at written other same = read_at rules name facts old new at (record {
  written = written;
  other = other;
  in_b = same.store.in_b;
  kind = same.store.kind;
  records = same.store.records;
  end = same.store.end;
  broken_at = same.store.broken_at;
}) same.rules same.state

-- there is a record for each fact
pub count_at : (rules : Rules) (name : List ℕ) (facts : List Fact) (node : NodeView Kept) → TxAt rules name node facts → node.store.journal.records ≡ length facts
count_at rules name facts node at = holds_count name (fact_records facts) node.store at.holds ∙ length-map facts spelling_of

-- a node that was loaded again from what its disk rested with
pub crashed_at : (rules : Rules) (name : List ℕ) (facts : List Fact) (c : Call) (now before : ℕ) (keeps : Bool) (old stood again : NodeView Kept) (h : Halted Answer)
    → TxAt rules name old facts → before ≡ old.store.journal.records → TxTaken rules name facts c now keeps stood None
    → ((told : List Fact) → (is_short stood.store.journal.written ≡ false → TxRests name stood told) → TxAt rules name again told × (h ≡ halted.Crashed (nat_lt before (length told))))
    → TxHalted rules name facts c now keeps again h
crashed_at rules name facts c now before keeps old stood again h at count taken loads =
    let made = loads (with_kept keeps facts taken.0.fact) taken.1 in
    let counted : before ≡ length facts = count ∙ count_at rules name facts old at in
    subst (TxHalted rules name facts c now keeps again) (sym made.1)
    (taken.0, ap (λ n. nat_lt n (length (with_kept keeps facts taken.0.fact))) counted ∙ kept_count keeps facts taken.0.fact, made.0)
