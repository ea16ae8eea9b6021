-- What a store is left as by a call that brings a change to the disk, and by one that doesn't.
use Rattle.std.proofs.Common.{◌≡◌, ◌∙◌, ap, sym, subst, refl, inl, inr, ℕ, ◌+◌, ◌<◌, ◌≤◌, List, [], ◌∷◌, length, Bool, true, false, nat_lt, Option, Some, None, Result, Ok, Err, if◌then◌else◌, arith}
use Rattle.std.specs.Prelude.{◌↔◌, IfSome, OnOk, IsErrOf, is_ok, is_some, ⊤}
use Rattle.std.proofs.lemmas.Bool.{false≢true, ltb-true}
use Rattle.std.proofs.lemmas.Bool.Decides.{nat_tests}
use Rattle.sig_json.specs.declared.limits.TheConstants.{LAST_NUMBER}
use Rattle.sig_outside.specs.Disk.{LeavesOnly, Stop}
use Rattle.sig_journal.specs.declared.journal.AppendFault.{AppendFault}
use Rattle.sig_journal.specs.declared.journal.AppendFault.TheVariants as append
use Rattle.sig_journal.specs.Added.{RestsWith}
use Rattle.sig_journal.specs.Journal.{BothTold, IsAtRest, Open, image_store, told_store}
use Rattle.sig_journal.proofs.Appending.{rests_map}
use Rattle.sig_terms.specs.declared.fact.Fact.{Fact}
use Rattle.sig_history.specs.Owed.{Sum, sum_of}
use Rattle.sig_history.specs.Sound.{Fits}
use Rattle.sig_entry.specs.Facts.{spelling_of}
use Rattle.sig_journal.specs.declared.node_fault.NodeFault.{NodeFault}
use Rattle.sig_journal.specs.declared.node_fault.NodeFault.TheVariants.{Store, Full, Memory}
use Rattle.sig_journal.specs.Appended.{AppendCauses, Breaks, HasRecord, LeavesRecord}
use Rattle.sig_journal.specs.Faults.{fault_of}
use Rattle.sig_journal.specs.Standing.{Durable, Loads, LoadsEither, StandsFor}
use Rattle.sig_journal.specs.Stored.{IsStored, Stored}
use Rattle.sig_journal.specs.Taking.{loaded}
use Rattle.sig_terms.specs.declared.answer.Answer.{Answer}
use Rattle.sig_txnode.specs.Answering.{IsAnswered, end_with, sum_after, where_room}
use Rattle.sig_txnode.specs.Records.{IsRecordOf, after_record, sending}
use Rattle.sig_txnode.specs.Taken.{IsCarried, Lasts, Refused}

-- a fact that fits is taken up of its record
pub takes_fact : (sum : Sum) (f : Fact) (payload : List ℕ) → IsRecordOf f payload → Fits sum f → sending.step sum payload ≡ Some (sum_of sum (f ∷ []))
takes_fact sum f payload is fits = ap (after_record sum) is.reads ∙ ap (λ b. if b then Some (sum_of sum (f ∷ [])) else None) fits

module _ {D : Type 0} (told : D → Bool) (seen : D → List ℕ) (may_leave : D → List ℕ → Type 0) (moment : D → ℕ) (left_since : D → ℕ → List ℕ → Type 0) (stop : D → Option Stop) (short : D → Bool) where
  -- a store that isn't written loads to its state at each moment
  stays : (only_now : (file : D) (image : List ℕ) → left_since file (moment file) image → may_leave file image)
      → (old : Stored D) (before after : Sum) → IsStored told seen may_leave old → StandsFor sending told seen may_leave old before → old.broken_at ≡ None → BothTold told old.journal
      → LeavesOnly moment left_since old.journal.written old.journal.written (LoadsEither sending seen old.journal before after)
  stays only_now old before after stored stands whole both =
      let loads : loaded sending (told_store seen old.journal) ≡ Ok before = stands.tells whole both in
      let here : (image : List ℕ) → may_leave old.journal.written image → LoadsEither sending seen old.journal before after image =
      λ image may. inl (subst (λ (bytes : List ℕ). loaded sending (image_store seen old.journal bytes) ≡ Ok before) (sym ((stored.rests whole).written image may)) loads) in
      record {
        later = omega arith;
        each = λ image left. here image (only_now old.journal.written image left);
        before = λ t image le left. inl left;
      }

  -- a call that leaves the store as it is
  pub lasts_idle : {T : Type 0} (only_now : (file : D) (image : List ℕ) → left_since file (moment file) image → may_leave file image)
      → (old : Stored D) (before : Sum) (change : Option Fact) (result : Result T NodeFault) → IsStored told seen may_leave old → StandsFor sending told seen may_leave old before
      → OnOk result ((change ≡ None) × (old.broken_at ≡ None)) → (old.broken_at ≡ None → IsCarried result → change ≡ None)
      → Lasts told seen may_leave moment left_since stop short old old before change result
  lasts_idle {T} only_now old before change result stored stands ok nothing = record {
    any_moment = λ whole both. stays only_now old before (sum_after before change) stored stands whole both;
    acknowledged = by result ok;
    stopped = none_stopped change nothing;
    recorded = none_recorded change nothing;
    added = none_added result change ok;
    files = record { other = refl; in_b = refl; kind = refl; told_same = refl };
    idle = λ none. refl;
  }
    where
      by : (r : Result T NodeFault) → OnOk r ((change ≡ None) × (old.broken_at ≡ None))
          → OnOk r (IsAtRest told seen may_leave old.journal × (BothTold told old.journal → loaded sending (told_store seen old.journal) ≡ Ok (sum_after before change)))
      by (Ok x) h = (stored.rests h.1, λ both. subst (λ (o : Option Fact). loaded sending (told_store seen old.journal) ≡ Ok (sum_after before o)) (sym h.0) (stands.tells h.1 both))
      by (Err e) h = tt

      none_stopped : (o : Option Fact) → (old.broken_at ≡ None → IsCarried result → o ≡ None)
          → IfSome o (λ f. old.broken_at ≡ None → IsCarried result → BothTold told old.journal → end_with old.journal.end f ≤ LAST_NUMBER
          → RestsWith (Loads sending seen old.journal before) (Loads sending seen old.journal (sum_after before o)) (stop old.journal.written) (stop old.journal.written) (short old.journal.written) result)
      none_stopped None none = tt
      none_stopped (Some f) none = λ whole carried both room. let is = none whole carried in absurd cc

      none_recorded : (o : Option Fact) → (old.broken_at ≡ None → IsCarried result → o ≡ None)
          → IfSome o (λ f. old.broken_at ≡ None → IsCarried result → LeavesRecord told seen moment left_since stop short old.journal old.journal (spelling_of f) result)
      none_recorded None none = tt
      none_recorded (Some f) none = λ whole carried. let is = none whole carried in absurd cc

      none_added : (r : Result T NodeFault) (o : Option Fact) → OnOk r ((o ≡ None) × (old.broken_at ≡ None))
          → IfSome o (λ f. OnOk r (HasRecord told seen may_leave old old (spelling_of f)))
      none_added r None h = tt
      none_added (Ok x) (Some f) h = let is = h.0 in absurd cc
      none_added (Err e) (Some f) h = tt

  -- the same of another answer to the same
  leaves_same : {T U E F : Type 0} (old new : Open D) (payload : List ℕ) (call : Result U F) (result : Result T E) → is_ok result ≡ is_ok call
      → LeavesRecord told seen moment left_since stop short old new payload call → LeavesRecord told seen moment left_since stop short old new payload result
  leaves_same old new payload call result same leaves = record {
    any_moment = leaves.any_moment;
    stopped = λ both room. rests_map _ _ _ _ (stop old.written) (stop new.written) (short new.written) call result same (λ image h. h) (λ image h. h) (leaves.stopped both room);
  }

  has_same : {T U E F : Type 0} (P : Type 0) (call : Result U F) (result : Result T E) → is_ok result ≡ is_ok call → OnOk call P → OnOk result P
  has_same P (Ok y) (Ok x) same h = h
  has_same P (Err f) (Ok x) same h = absurd (false≢true (sym same))
  has_same P call (Err e) same h = tt

  -- a call whose change was brought to the disk
  pub lasts_carried : {T U : Type 0} (old new : Stored D) (before : Sum) (f : Fact) (payload : List ℕ) (call : Result U AppendFault) (result : Result T NodeFault)
      → is_ok result ≡ is_ok call → payload ≡ spelling_of f
      → OnOk call (HasRecord told seen may_leave old new payload) → LeavesRecord told seen moment left_since stop short old.journal new.journal payload call
      → Durable sending told seen may_leave moment left_since stop short payload old new before (sum_of before (f ∷ [])) result
      → Lasts told seen may_leave moment left_since stop short old new before (Some f) result
  lasts_carried old new before f payload call result ok same has leaves d = record {
    any_moment = λ whole both. d.any_moment both;
    acknowledged = d.acknowledged;
    stopped = λ whole carried both room. d.stopped both (subst (λ (l : List ℕ). old.journal.end + 5 + length l ≤ LAST_NUMBER) (sym same) room);
    recorded = λ whole carried. subst (λ (l : List ℕ). LeavesRecord told seen moment left_since stop short old.journal new.journal l result) same (leaves_same old.journal new.journal payload call result ok leaves);
    added = subst (λ (l : List ℕ). OnOk result (HasRecord told seen may_leave old new l)) same (has_same (HasRecord told seen may_leave old new payload) call result ok has);
    files = d.files;
    idle = λ none. absurd cc;
  }

  -- the same of another answer
  stopped_same : {T U : Type 0} (old new : Stored D) (before : Sum) (change : Option Fact) (call : Result U NodeFault) (result : Result T NodeFault) → is_ok result ≡ is_ok call → (IsCarried result → IsCarried call)
      → IfSome change (λ f. old.broken_at ≡ None → IsCarried call → BothTold told old.journal → end_with old.journal.end f ≤ LAST_NUMBER
      → RestsWith (Loads sending seen old.journal before) (Loads sending seen old.journal (sum_after before change)) (stop old.journal.written) (stop new.journal.written) (short new.journal.written) call)
      → IfSome change (λ f. old.broken_at ≡ None → IsCarried result → BothTold told old.journal → end_with old.journal.end f ≤ LAST_NUMBER
      → RestsWith (Loads sending seen old.journal before) (Loads sending seen old.journal (sum_after before change)) (stop old.journal.written) (stop new.journal.written) (short new.journal.written) result)
  stopped_same old new before None call result same carried h = tt
  stopped_same old new before (Some f) call result same carried h =
      λ whole is both room. rests_map _ _ _ _ (stop old.journal.written) (stop new.journal.written) (short new.journal.written) call result same (λ image k. k) (λ image k. k) (h whole (carried is) both room)

  recorded_same : {T U : Type 0} (old new : Stored D) (change : Option Fact) (call : Result U NodeFault) (result : Result T NodeFault) → is_ok result ≡ is_ok call → (IsCarried result → IsCarried call)
      → IfSome change (λ f. old.broken_at ≡ None → IsCarried call → LeavesRecord told seen moment left_since stop short old.journal new.journal (spelling_of f) call)
      → IfSome change (λ f. old.broken_at ≡ None → IsCarried result → LeavesRecord told seen moment left_since stop short old.journal new.journal (spelling_of f) result)
  recorded_same old new None call result same carried h = tt
  recorded_same old new (Some f) call result same carried h =
      λ whole is. leaves_same old.journal new.journal (spelling_of f) call result same (h whole (carried is))

  added_same : {T U : Type 0} (old new : Stored D) (change : Option Fact) (call : Result U NodeFault) (result : Result T NodeFault) → is_ok result ≡ is_ok call
      → IfSome change (λ f. OnOk call (HasRecord told seen may_leave old new (spelling_of f))) → IfSome change (λ f. OnOk result (HasRecord told seen may_leave old new (spelling_of f)))
  added_same old new None call result same h = tt
  added_same old new (Some f) call result same h = has_same (HasRecord told seen may_leave old new (spelling_of f)) call result same h

  pub lasts_same : {T U : Type 0} (old new : Stored D) (before : Sum) (change : Option Fact) (call : Result U NodeFault) (result : Result T NodeFault) → is_ok result ≡ is_ok call → (IsCarried result → IsCarried call)
      → Lasts told seen may_leave moment left_since stop short old new before change call → Lasts told seen may_leave moment left_since stop short old new before change result
  lasts_same old new before change call result same carried l = record {
    any_moment = l.any_moment;
    acknowledged = has_same (IsAtRest told seen may_leave new.journal × (BothTold told old.journal → loaded sending (told_store seen new.journal) ≡ Ok (sum_after before change))) call result same l.acknowledged;
    stopped = stopped_same old new before change call result same carried l.stopped;
    recorded = recorded_same old new change call result same carried l.recorded;
    added = added_same old new change call result same l.added;
    files = l.files;
    idle = l.idle;
  }

-- ---- why a call was refused

module _ {D : Type 0} (faults : D → ℕ) (old new : Stored D) (turn : ℕ) where
  unbroken : old.broken_at ≡ None → is_some old.broken_at ≡ true → new ≡ old
  unbroken whole broken = absurd (false≢true (ap is_some (sym whole) ∙ broken))

  pub refused_ok : {T : Type 0} (x : T) → old.broken_at ≡ None → new.broken_at ≡ None → faults new.journal.written ≡ faults old.journal.written
      → Refused faults old new turn (Ok x)
  refused_ok x whole still steady = record {
    store = λ is. absurd cc;
    broken = unbroken whole;
    whole = λ _. still ∙ sym whole;
    full = λ n is. absurd cc;
    memory = λ is. absurd cc;
    steady = steady;
    later = omega arith;
  }

  -- a record that was not added
  pub refused_append : {T U : Type 0} (e : AppendFault) (payload : List ℕ) → old.broken_at ≡ None → AppendCauses {T = U} faults old new payload turn (Err e)
      → Refused {T = T} faults old new turn (Err (fault_of e))
  refused_append append.Store payload whole causes = record {
    store = λ is. inr (causes.store refl);
    broken = unbroken whole;
    whole = λ other. absurd (other refl);
    full = λ n is. absurd cc;
    memory = λ is. absurd cc;
    steady = tt;
    later = causes.later;
  }
  refused_append (append.Full m) payload whole causes = record {
    store = λ is. absurd cc;
    broken = unbroken whole;
    whole = λ _. ap (λ (s : Stored D). s.broken_at) (causes.same m refl);
    full = λ n is. causes.same m refl;
    memory = λ is. absurd cc;
    steady = tt;
    later = causes.later;
  }

-- a call that left the store as it was, and was answered otherwise than that it failed, unless the store was broken
pub refused_idle : {D T : Type 0} (faults : D → ℕ) (old : Stored D) (turn : ℕ) (result : Result T NodeFault)
    → (IsErrOf result Store → is_some old.broken_at ≡ true) → Refused faults old old turn result
refused_idle {D} {T} faults old turn result store = record {
  store = λ is. inl (store is);
  broken = λ _. refl;
  whole = λ _. refl;
  full = λ n _. refl;
  memory = λ _. refl;
  steady = same result;
  later = omega arith;
}
  where
    same : (r : Result T NodeFault) → OnOk r (faults old.journal.written ≡ faults old.journal.written)
    same (Ok x) = refl
    same (Err e) = tt

-- ---- where a record would pass LAST_NUMBER

abbrev pub IsFullAt : {T E : Type 0} → (ℕ → E) → Result T E → ℕ → Type 0
IsFullAt full result end = (n : ℕ) → IsErrOf result (full n) ↔ ((n ≡ end) × (LAST_NUMBER < n))

pub full_ok : {T U : Type 0} (x : T) (y : U) (end : ℕ) → IsFullAt append.Full (Ok y) end → IsFullAt Full (Ok x) end
full_ok x y end is = λ n. (λ e. absurd cc, λ over. absurd (never n over))
  where
    never : (n : ℕ) → (n ≡ end) × (LAST_NUMBER < n) → ⊥
    never n over = let e = (is n).1 over in cc

pub full_err : {T U : Type 0} (e : AppendFault) (end : ℕ) → IsFullAt {T = U} append.Full (Err e) end → IsFullAt {T = T} Full (Err (fault_of e)) end
full_err append.Store end is = λ n. (λ e. absurd cc, λ over. absurd (never n over))
  where
    never : (n : ℕ) → (n ≡ end) × (LAST_NUMBER < n) → ⊥
    never n over = let e = (is n).1 over in cc
full_err (append.Full m) end is = λ n. (λ e. (is n).0 cc, λ over. let e = (is n).1 over in cc)

-- the answer of a call whose record was brought to the disk
room_within : (end : ℕ) (f : Fact) (answer : Answer) → (LAST_NUMBER < end_with end f → ⊥) → where_room end answer (Some f) ≡ Ok answer
room_within end f answer within = by (nat_lt LAST_NUMBER (end_with end f)) refl
  where
    by : (b : Bool) → nat_lt LAST_NUMBER (end_with end f) ≡ b → (if b then Err (Full (end_with end f)) else Ok answer) ≡ Ok answer
    by false is = refl
    by true is = absurd (within (ltb-true LAST_NUMBER (end_with end f) is))

pub room_ok : {T : Type 0} (end : ℕ) (f : Fact) (answer : Answer) (x : T) → IsFullAt Full (Ok x) (end_with end f) → where_room end answer (Some f) ≡ Ok answer
room_ok end f answer x full =
    room_within end f answer (λ past. let e = (full (end_with end f)).1 (refl, past) in cc)

pub room_err : (end : ℕ) (f : Fact) (answer : Answer) (e : NodeFault) → IsFullAt {T = ⊤} Full (Err e) (end_with end f) → IsAnswered None (where_room end answer (Some f)) (Err e)
room_err end f answer Store full =
    inr (inl (refl, ap is_ok (room_within end f answer (λ past. let e = (full (end_with end f)).1 (refl, past) in cc))))
room_err end f answer Memory full = inl refl
room_err end f answer (Full n) full =
    let over = (full n).0 refl in
    let is : nat_lt LAST_NUMBER (end_with end f) ≡ true = grind (arith, nat_tests, over.0, over.1) in
    inr (inr (ap (λ (m : ℕ). Err (Full m)) over.0 ∙ sym (ap (λ b. if b then Err (Full (end_with end f)) else Ok answer) is)))

-- the store after a record that was not added
pub stands_err : {D U : Type 0} (told : D → Bool) (seen : D → List ℕ) (may_leave : D → List ℕ → Type 0) (faults : D → ℕ) (old new : Stored D) (before : Sum) (turn : ℕ) (payload : List ℕ) (e : AppendFault)
    → AppendCauses {T = U} faults old new payload turn (Err e) → StandsFor sending told seen may_leave old before → (Breaks faults old new turn → StandsFor sending told seen may_leave new before)
    → StandsFor sending told seen may_leave new before
stands_err told seen may_leave faults old new before turn payload append.Store causes stands broken = broken (causes.store refl)
stands_err {D} told seen may_leave faults old new before turn payload (append.Full n) causes stands broken =
    subst (λ (s : Stored D). StandsFor sending told seen may_leave s before) (sym (causes.same n refl)) stands

pub carried_same : (T U : Type 0) (e : NodeFault) → IsCarried {T = T} (Err e) → IsCarried {T = U} (Err e)
carried_same T U Store h = tt
carried_same T U (Full n) h = h
carried_same T U Memory h = h

-- a change in other words
pub lasts_as : {D T : Type 0} (told : D → Bool) (seen : D → List ℕ) (may_leave : D → List ℕ → Type 0) (moment : D → ℕ) (left_since : D → ℕ → List ℕ → Type 0) (stop : D → Option Stop) (short : D → Bool) (old new : Stored D) (before before' : Sum) (change change' : Option Fact) (result : Result T NodeFault)
    → change ≡ change' → before' ≡ before → Lasts told seen may_leave moment left_since stop short old new before' change' result → Lasts told seen may_leave moment left_since stop short old new before change result
lasts_as told seen may_leave moment left_since stop short old new before before' change change' result same_change same_before l =
    subst (λ (o : Option Fact). Lasts told seen may_leave moment left_since stop short old new before o result) (sym same_change)
    (subst (λ (s : Sum). Lasts told seen may_leave moment left_since stop short old new s change' result) same_before l)

pub carried_store : (T : Type 0) (e : NodeFault) → (e ≡ Store → ⊥) → IsCarried {T = T} (Err e) → ⊥
carried_store T Store other carried = other refl
carried_store T (Full n) other carried = carried
carried_store T Memory other carried = carried
