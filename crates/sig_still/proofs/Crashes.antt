-- What a crash leaves of a store, and what is told of it once it is loaded.
use Rattle.std.proofs.Common.{◌≡◌, ◌∙◌, ap, sym, subst, inl, inr, ⊎_elim, ℕ, ◌+◌, ◌≤◌, List, [], ◌∷◌, ◌++◌, length, Bool, true, false, Option, Some, None, Result, Ok, Err, refl}
use Rattle.std.proofs.lemmas.Bool.{false≢true}
use Rattle.std.specs.Prelude.{◌⊎◌, ◌↔◌, IsOk, IsSomeAnd, IsTrue, MatchBool}
use Rattle.sig_json.specs.declared.limits.TheConstants.{LAST_NUMBER}
use Rattle.sig_outside.specs.declared.disk_call.DiskCall.{DiskCall}
use Rattle.sig_outside.specs.declared.disk_call.Standstill.{Standstill}
use Rattle.sig_outside.specs.Disk.{Only, Stop, StopsAfter}
use Rattle.sig_outside.specs.DiskCalls.{Leaves}
use Rattle.sig_outside.specs.DiskLaws.{leaves_content, leaves_resting}
use Rattle.sig_outside.specs.KeptDisk.{Kept, left_since, may_leave, rest_of, seen, stop_at}
use Rattle.sig_journal.specs.declared.fault.LoadFault.{LoadFault}
use Rattle.sig_journal.specs.declared.kind.Kind.{Kind}
use Rattle.sig_journal.specs.Added.{RestsWith, rests_with_it}
use Rattle.sig_journal.specs.Journal.{BothTold, IsAtRest, Open, Stands, image_store, store_with, told_store}
use Rattle.sig_journal.specs.Layout.{Content, end_of}
use Rattle.sig_journal.specs.OnlyRead.{OnlyRead}
use Rattle.sig_journal.specs.Store.{Told, pick, tells, with_record}
use Rattle.sig_journal.specs.Appended.{LeavesRecord, WritesOne}
use Rattle.sig_journal.specs.Stored.{Stored}
use Rattle.sig_still.specs.Still.{faults, is_short, moment, rest, stop, tells_file}
use Rattle.sig_still.specs.Stores.{HoldsStore, Reads, ReadsBoth, end_at, store_of, with_kept}

-- ---- what is known of a store that holds records

ok_same : {T : Type 0} (a b : T) → (let r : Result T LoadFault = Ok a in r ≡ Ok b) → a ≡ b
ok_same a b h = cc h

holds_stands : (name : List ℕ) (records : List (List ℕ)) (s : Stored Kept) → HoldsStore name records s
    → (s.journal.end ≡ end_at name records) × (s.journal.records ≡ length records)
holds_stands name records s h =
    let stands : Stands (told_store seen s.journal) s.journal.in_b s.journal.end s.journal.records = h.rests.stands (refl, refl) in
    let same : store_of name records ≡ record { in_b = s.journal.in_b; content = stands.content } = ok_same _ _ (sym h.tells ∙ stands.tells) in (
      stands.ends ∙ ap (λ (t : Told). end_of t.content) (sym same),
      stands.counts ∙ ap (λ (t : Told). length t.content.records) (sym same),
    )

pub holds_end : (name : List ℕ) (records : List (List ℕ)) (s : Stored Kept) → HoldsStore name records s → s.journal.end ≡ end_at name records
holds_end name records s h = (holds_stands name records s h).0

pub holds_count : (name : List ℕ) (records : List (List ℕ)) (s : Stored Kept) → HoldsStore name records s → s.journal.records ≡ length records
holds_count name records s h = (holds_stands name records s h).1

-- ---- what a file rests with

rest_leaves : (first : List ℕ) (calls : List DiskCall) (still : Option Standstill) → Leaves first first calls (rest_of still first calls)
rest_leaves first calls None = leaves_content first calls
rest_leaves first calls (Some still) = leaves_resting still.fill first first calls

rest_only : (d : Kept) → Only (seen d) (may_leave d) → rest d ≡ seen d
rest_only d only = only (rest d) (rest_leaves d.first d.calls d.stop)

rest_told_at : (first : List ℕ) (calls : List DiskCall) (still : Option Standstill) (s : Stop) → stop_at first calls still ≡ Some s → rest_of still first calls ≡ s.image
rest_told_at first calls None s h = absurd cc
rest_told_at first calls (Some still) s h = ap (λ o. image_or o) h
  where
    image_or : Option Stop → List ℕ
    image_or None = []
    image_or (Some stop) = stop.image

-- ---- a crash

tells_picked : (kind : Kind) (in_b : Bool) (written other : Kept) (a b : List ℕ) → rest written ≡ a → rest other ≡ b
    → tells kind (rest (pick in_b written other)) (rest (pick in_b other written)) ≡ store_with in_b kind a b
tells_picked kind true written other a b is_a is_b = ap (λ x. tells kind x (rest written)) is_b ∙ ap (λ x. tells kind b x) is_a
tells_picked kind false written other a b is_a is_b = ap (λ x. tells kind x (rest other)) is_a ∙ ap (λ x. tells kind a x) is_b

-- what it leaves of a store that isn't broken tells the same
pub crash_tells : (name : List ℕ) (records : List (List ℕ)) (s : Stored Kept) → HoldsStore name records s
    → tells s.journal.kind (rest (pick s.journal.in_b s.journal.written s.journal.other)) (rest (pick s.journal.in_b s.journal.other s.journal.written)) ≡ Ok (store_of name records)
crash_tells name records s h =
    tells_picked s.journal.kind s.journal.in_b s.journal.written s.journal.other (seen s.journal.written) (seen s.journal.other)
    (rest_only s.journal.written h.rests.written) (rest_only s.journal.other h.rests.other)
    ∙ h.tells

-- ---- a store that is loaded, or asked to stand still

read_picked : (kind : Kind) (in_b : Bool) (a b written other : Kept) → Reads a (pick in_b written other) → Reads b (pick in_b other written)
    → store_with in_b kind (seen written) (seen other) ≡ tells kind (seen a) (seen b)
read_picked kind true a b written other in_a in_b = ap (λ x. tells kind x (seen written)) in_a.bytes_same ∙ ap (λ x. tells kind (seen a) x) in_b.bytes_same
read_picked kind false a b written other in_a in_b = ap (λ x. tells kind x (seen other)) in_a.bytes_same ∙ ap (λ x. tells kind (seen a) x) in_b.bytes_same

-- what is loaded holds what both files told
pub loaded_holds : (name : List ℕ) (records : List (List ℕ)) (kind : Kind) (a b : Kept) (s : Stored Kept) → tells kind (seen a) (seen b) ≡ Ok (store_of name records)
    → s.broken_at ≡ None → IsAtRest tells_file seen may_leave s.journal → s.journal.kind ≡ kind
    → Reads a (pick s.journal.in_b s.journal.written s.journal.other) → Reads b (pick s.journal.in_b s.journal.other s.journal.written)
    → HoldsStore name records s
loaded_holds name records kind a b s told whole rests is in_a in_b = record {
  whole = whole;
  tells = read_picked s.journal.kind s.journal.in_b a b s.journal.written s.journal.other in_a in_b ∙ ap (λ k. tells k (seen a) (seen b)) is ∙ told;
  rests = rests;
}

read_only : (old new : Kept) → Reads old new → Only (seen old) (may_leave old) → Only (seen new) (may_leave new)
read_only old new reads only = λ image left. only image (reads.no_image image left) ∙ sym reads.bytes_same

read_told : (old new : Stored Kept) → ReadsBoth old new → told_store seen new.journal ≡ told_store seen old.journal
read_told old new r =
    ap (λ b. store_with b new.journal.kind (seen new.journal.written) (seen new.journal.other)) r.in_b
    ∙ ap (λ k. store_with old.journal.in_b k (seen new.journal.written) (seen new.journal.other)) r.kind
    ∙ ap (λ x. store_with old.journal.in_b old.journal.kind x (seen new.journal.other)) r.written.bytes_same
    ∙ ap (λ x. store_with old.journal.in_b old.journal.kind (seen old.journal.written) x) r.other.bytes_same

read_stands : (old new : Stored Kept) → ReadsBoth old new → Stands (told_store seen old.journal) old.journal.in_b old.journal.end old.journal.records
    → Stands (told_store seen new.journal) new.journal.in_b new.journal.end new.journal.records
read_stands old new r s = record {
  content = s.content;
  tells = read_told old new r ∙ s.tells ∙ ap (λ b. let t : Result Told LoadFault = Ok (record { in_b = b; content = s.content }) in t) (sym r.in_b);
  ends = r.end ∙ s.ends;
  counts = r.records ∙ s.counts;
}

-- it goes on holding what it held
pub read_holds : (name : List ℕ) (records : List (List ℕ)) (old new : Stored Kept) → HoldsStore name records old → ReadsBoth old new → HoldsStore name records new
read_holds name records old new h r = record {
  whole = r.broken_at ∙ h.whole;
  tells = read_told old new r ∙ h.tells;
  rests = record {
    written = read_only old.journal.written new.journal.written r.written h.rests.written;
    other = read_only old.journal.other new.journal.other r.other h.rests.other;
    stands = λ both. read_stands old new r (h.rests.stands (refl, refl));
  };
}

-- ---- a disk that stands still

none_stops : {P : Type 0} (o : Option Stop) (calls fill : ℕ) → StopsAfter true calls fill o → ((s : Stop) → o ≡ Some s → s.calls ≡ calls → s.fill ≡ fill → P) → P
none_stops None calls fill h k = absurd h
none_stops (Some s) calls fill h k = k s refl h.0 h.1

-- what a disk rests with that was asked to stand still after so many calls, unless it got short: it has P after the call where these are enough, else Q
module _ {T E : Type 0} (IsBefore IsAfter : List ℕ → Type 0) (result : Result T E) where
  rests_so : (calls fill : ℕ) (new : Kept) (o : Option Stop) → stop new ≡ o → IsSomeAnd o (λ r. MatchBool (rests_with_it calls fill) (IsAfter r.image) (IsBefore r.image))
      → MatchBool (rests_with_it calls fill) (IsAfter (rest new)) (IsBefore (rest new))
  rests_so calls fill new None is h = absurd h
  rests_so calls fill new (Some s) is h =
      subst (λ image. MatchBool (rests_with_it calls fill) (IsAfter image) (IsBefore image)) (sym (rest_told_at new.first new.calls new.stop s is)) h

  pub stop_rests : (calls fill : ℕ) (old new : Kept) → StopsAfter true calls fill (stop old) → is_short new ≡ false
      → RestsWith IsBefore IsAfter (stop old) (stop new) (is_short new) result
      → (IsOk result ↔ (4 ≤ calls)) × MatchBool (rests_with_it calls fill) (IsAfter (rest new)) (IsBefore (rest new))
  stop_rests calls fill old new stops whole rests = none_stops (stop old) calls fill stops
      (λ s is calls_are fill_is. by_short calls fill s calls_are fill_is (subst (λ o. RestsWith IsBefore IsAfter o (stop new) (is_short new) result) is rests))
    where
      by_short : (calls fill : ℕ) (s : Stop) → s.calls ≡ calls → s.fill ≡ fill → RestsWith IsBefore IsAfter (Some s) (stop new) (is_short new) result
          → (IsOk result ↔ (4 ≤ calls)) × MatchBool (rests_with_it calls fill) (IsAfter (rest new)) (IsBefore (rest new))
      by_short calls fill s calls_are fill_is (inl short) = absurd (false≢true (sym whole ∙ short))
      by_short calls fill s calls_are fill_is (inr h) =
          subst (λ n. (IsOk result ↔ (4 ≤ n)) × MatchBool (rests_with_it n fill) (IsAfter (rest new)) (IsBefore (rest new))) calls_are
          (subst (λ f. (IsOk result ↔ (4 ≤ s.calls)) × MatchBool (rests_with_it s.calls f) (IsAfter (rest new)) (IsBefore (rest new))) fill_is
          (h.0, rests_so s.calls s.fill new (stop new) refl h.1))

kept_tells : (keeps : Bool) (name : List ℕ) (records : List (List ℕ)) (payload : List ℕ) (told image : Result Told LoadFault) → told ≡ Ok (store_of name records)
    → MatchBool keeps (image ≡ with_record told payload) (image ≡ told) → image ≡ Ok (store_of name (with_kept keeps records payload))
kept_tells true name records payload told image is h = h ∙ ap (λ t. with_record t payload) is
kept_tells false name records payload told image is h = h ∙ is

-- what the file in force of a store then shows whose disk stood still while a record was added
pub stop_image : {T E : Type 0} (name : List ℕ) (records : List (List ℕ)) (payload : List ℕ) (calls fill : ℕ) (old new : Stored Kept) (result : Result T E)
    → HoldsStore name records old → StopsAfter true calls fill (stop old.journal.written)
    → LeavesRecord tells_file seen moment left_since stop is_short old.journal new.journal payload result → old.journal.end + 5 + length payload ≤ LAST_NUMBER
    → is_short new.journal.written ≡ false
    → image_store seen old.journal (rest new.journal.written) ≡ Ok (store_of name (with_kept (rests_with_it calls fill) records payload))
stop_image name records payload calls fill old new result h stops leaves room whole =
    let told = told_store seen old.journal in
    let rested = stop_rests (λ image. image_store seen old.journal image ≡ told) (λ image. image_store seen old.journal image ≡ with_record told payload) result
    calls fill old.journal.written new.journal.written stops whole (leaves.stopped (refl, refl) room) in
    kept_tells (rests_with_it calls fill) name records payload told _ h.tells rested.1

-- what a crash leaves of it
pub stop_tells : {T E : Type 0} (name : List ℕ) (records : List (List ℕ)) (payload : List ℕ) (calls fill : ℕ) (old new : Stored Kept) (result : Result T E)
    → HoldsStore name records old → StopsAfter true calls fill (stop old.journal.written) → WritesOne tells_file old.journal new.journal
    → LeavesRecord tells_file seen moment left_since stop is_short old.journal new.journal payload result → old.journal.end + 5 + length payload ≤ LAST_NUMBER
    → is_short new.journal.written ≡ false
    → tells new.journal.kind (rest (pick new.journal.in_b new.journal.written new.journal.other)) (rest (pick new.journal.in_b new.journal.other new.journal.written))
    ≡ Ok (store_of name (with_kept (rests_with_it calls fill) records payload))
stop_tells name records payload calls fill old new result h stops files leaves room whole =
    let other : rest new.journal.other ≡ seen old.journal.other = ap rest files.other ∙ rest_only old.journal.other h.rests.other in
    tells_picked new.journal.kind new.journal.in_b new.journal.written new.journal.other (rest new.journal.written) (seen old.journal.other) refl other
    ∙ ap (λ b. store_with b new.journal.kind (rest new.journal.written) (seen old.journal.other)) files.in_b
    ∙ ap (λ k. store_with old.journal.in_b k (rest new.journal.written) (seen old.journal.other)) files.kind
    ∙ stop_image name records payload calls fill old new result h stops leaves room whole
