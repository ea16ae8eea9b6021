-- What a store stands for after a record was added to it, and after a call of the disk failed in which one was being added.
use Rattle.std.proofs.Common.{◌≡◌, ◌∙◌, ap, sym, subst, inl, inr, ⊎_elim, ℕ, ◌+◌, ◌≤◌, List, [], ◌∷◌, ◌++◌, length, Bool, Option, Some, None, Result, Ok, Err}
use Rattle.std.proofs.lemmas.Bool.{false≢true}
use Rattle.std.specs.Prelude.{◌⊎◌, OnOk, is_ok, is_some}
use Rattle.std.specs.Option.{option_map_or}
use Rattle.sig_outside.specs.Disk.{Only, Stop}
use Rattle.sig_journal.specs.declared.fault.LoadFault.{LoadFault}
use Rattle.sig_journal.specs.Journal.{BothTold, IsAtRest, image_store, store_with, told_store}
use Rattle.sig_journal.specs.Store.{IsBeforeOrAfter, Told, file_number, in_file_at, with_record}
use Rattle.sig_journal.proofs.Appending.{rests_map}
use Rattle.sig_journal.proofs.Moments.{weaker}
use Rattle.sig_journal.specs.Appended.{Breaks, HasRecord, LeavesRecord, WritesOne}
use Rattle.sig_journal.specs.Standing.{Durable, Loads, LoadsEither, StandsFor}
use Rattle.sig_journal.specs.Stored.{Stored}
use Rattle.sig_journal.specs.Taking.{Taking, loaded, state_after}

abbrev ok_or : {S E : Type 0} → S → Result S E → S
ok_or other (Ok s) = s
ok_or other (Err at) = other

-- records that are all taken, and one more
pub state_after-more : {S : Type 0} (step : S → List ℕ → Option S) (state mid after : S) (place : ℕ) (records : List (List ℕ)) (payload : List ℕ)
    → state_after step state place records ≡ Ok mid → step mid payload ≡ Some after → state_after step state place (records ++ payload ∷ []) ≡ Ok after
state_after-more {S} step state mid after place [] payload took takes =
    ap (λ next. option_map_or (λ (s : S). state_after step s (place + 5 + length payload) []) next (Err place)) (ap (λ s. step s payload) (ap (ok_or state) took) ∙ takes)
state_after-more {S} step state mid after place (first ∷ records) payload took takes =
    elim (step state first) as (λ (found : Option S).
    option_map_or (λ (s : S). state_after step s (place + 5 + length first) records) found (Err place) ≡ Ok mid
    → option_map_or (λ (s : S). state_after step s (place + 5 + length first) (records ++ payload ∷ [])) found (Err place) ≡ Ok after) [
      | None ↦ λ h. absurd cc
      | Some next ↦ λ h. state_after-more step next mid after (place + 5 + length first) records payload h takes
    ] took

pub in_file-ok : {S : Type 0} (file : ℕ) (read : Result S ℕ) (state : S) → in_file_at file read ≡ Ok state → read ≡ Ok state
in_file-ok {S} file (Ok held) state is = ap (held_or) is
  where
    held_or : Result S LoadFault → Result S ℕ
    held_or (Ok s) = Ok s
    held_or (Err fault) = Ok held
in_file-ok file (Err at) state is = absurd cc

-- a store that loads to a state loads with one record more to the state after it
pub loaded_more : {S : Type 0} (taking : Taking S) (told : Result Told LoadFault) (before after : S) (payload : List ℕ)
    → loaded taking told ≡ Ok before → taking.step before payload ≡ Some after → loaded taking (with_record told payload) ≡ Ok after
loaded_more taking (Ok told) before after payload loads takes =
    ap (in_file_at (file_number told.in_b))
    (state_after-more taking.step (taking.start told.content.store_id) before after (35 + length told.content.snapshot) told.content.records payload
    (in_file-ok (file_number told.in_b) _ before loads) takes)
loaded_more taking (Err fault) before after payload loads takes = absurd cc

-- what follows where the call didn't fail
pub on_ok : {T E U F : Type 0} (P Q : Type 0) (call : Result U F) (result : Result T E) → is_ok result ≡ is_ok call → (P → Q) → OnOk call P → OnOk result Q
on_ok P Q (Ok y) (Ok x) same f h = f h
on_ok P Q (Err e) (Ok x) same f h = absurd (false≢true (sym same))
on_ok P Q call (Err e) same f h = tt

module _ {S D : Type 0} (taking : Taking S) (told : D → Bool) (seen : D → List ℕ) (may_leave : D → List ℕ → Type 0) (old new : Stored D) (before after : S) (payload : List ℕ) (stands : StandsFor taking told seen may_leave old before) (whole : old.broken_at ≡ None) (takes : taking.step before payload ≡ Some after) where
  loads_old : BothTold told old.journal → loaded taking (told_store seen old.journal) ≡ Ok before
  loads_old both = stands.tells whole both

  -- an image that tells what was told loads to the state before, and one that tells the record to the state after
  same_loads : BothTold told old.journal → (image : List ℕ) → image_store seen old.journal image ≡ told_store seen old.journal → Loads taking seen old.journal before image
  same_loads both image is = ap (loaded taking) is ∙ loads_old both

  more_loads : BothTold told old.journal → (image : List ℕ) → image_store seen old.journal image ≡ with_record (told_store seen old.journal) payload → Loads taking seen old.journal after image
  more_loads both image is = ap (loaded taking) is ∙ loaded_more taking (told_store seen old.journal) before after payload (loads_old both) takes

  either_loads : BothTold told old.journal → (image : List ℕ) → IsBeforeOrAfter (told_store seen old.journal) payload (image_store seen old.journal image) → LoadsEither taking seen old.journal before after image
  either_loads both image is = ⊎_elim (λ same. inl (same_loads both image same)) (λ more. inr (more_loads both image more)) is

  new_loads : HasRecord told seen may_leave old new payload → BothTold told old.journal → loaded taking (told_store seen new.journal) ≡ Ok after
  new_loads has both = ap (loaded taking) (has.tells both) ∙ loaded_more taking (told_store seen old.journal) before after payload (loads_old both) takes

  both_told : WritesOne told old.journal new.journal → BothTold told new.journal → BothTold told old.journal
  both_told files both = (sym files.told_same ∙ both.0, ap told (sym files.other) ∙ both.1)

  -- once the record is added, the store stands for the state after it
  pub stands_after : WritesOne told old.journal new.journal → HasRecord told seen may_leave old new payload → StandsFor taking told seen may_leave new after
  stands_after files has = record {
    tells = λ _ both. new_loads has (both_told files both);
    leaves = λ broken both. absurd (false≢true (ap is_some (sym has.whole) ∙ broken));
  }

  module _ (moment : D → ℕ) (left_since : D → ℕ → List ℕ → Type 0) (stop : D → Option Stop) (short : D → Bool) where
    -- what the call leaves, in the states that a load gives
    pub durable_of : {T E U F : Type 0} (call : Result U F) (result : Result T E) → is_ok result ≡ is_ok call
        → OnOk call (HasRecord told seen may_leave old new payload) → LeavesRecord told seen moment left_since stop short old.journal new.journal payload call → WritesOne told old.journal new.journal
        → Durable taking told seen may_leave moment left_since stop short payload old new before after result
    durable_of call result same has leaves files = record {
      any_moment = λ both. weaker moment left_since old.journal.written new.journal.written _ _ (leaves.any_moment both) (either_loads both);
      acknowledged = on_ok _ _ call result same (λ h. (h.rests, new_loads h)) has;
      stopped = λ both room. rests_map _ _ _ _ (stop old.journal.written) (stop new.journal.written) (short new.journal.written) call result same (same_loads both) (more_loads both) (leaves.stopped both room);
      files = files;
    }

    -- where the disk failed, it stands for the state before, with the change in flight
    pub stands_broken : {T E : Type 0} (faults : D → ℕ) (turn : ℕ) (call : Result T E) → IsAtRest told seen may_leave old.journal → ((file : D) (t : ℕ) (image : List ℕ) → t ≤ moment file → may_leave file image → left_since file t image)
        → LeavesRecord told seen moment left_since stop short old.journal new.journal payload call → WritesOne told old.journal new.journal → Breaks faults old new turn
        → StandsFor taking told seen may_leave new before
    stands_broken faults turn call rests counts_now leaves files breaks = record {
      tells = λ unbroken both. absurd (false≢true (ap is_some (sym unbroken) ∙ ap is_some breaks.at));
      leaves = λ _ both.
          let both' = both_told files both in
          let run = leaves.any_moment both' in
          record {
            payload = payload;
            after = after;
            change = takes;
            images = λ image may.
                subst (λ (told' : Result Told LoadFault). (loaded taking told' ≡ Ok before) ⊎ (loaded taking told' ≡ Ok after)) (sym (same_image image))
                (either_loads both' image (run.each image (counts_now new.journal.written (moment old.journal.written) image run.later may)));
            other = subst (λ (file : D). Only (seen file) (may_leave file)) (sym files.other) rests.other;
          };
    }
      where
        same_image : (image : List ℕ) → image_store seen new.journal image ≡ image_store seen old.journal image
        same_image image =
            ap (λ (b : Bool). store_with b new.journal.kind image (seen new.journal.other)) files.in_b
            ∙ ap (λ k. store_with old.journal.in_b k image (seen new.journal.other)) files.kind
            ∙ ap (λ (file : D). store_with old.journal.in_b old.journal.kind image (seen file)) files.other
