-- What a store tells while a record is added to its file in force.
use Rattle.std.proofs.Common.{◌≡◌, inl, inr, ⊎_elim, ℕ, ◌+◌, List, length, Bool, true, false, Option, Some, None, Result, Ok, Err, refl, sym, ◌∙◌, ap, arith}
use Rattle.std.proofs.Common.{[], ◌∷◌, ◌++◌, length-append}
use Rattle.std.proofs.lemmas.Bool.{false≢true}
use Rattle.std.proofs.lemmas.List.Sums.{sum_by_push}
use Rattle.std.specs.Int.{to_be_bytes, w32}
use Rattle.std.specs.Prelude.{IsSomeAnd, MatchBool, IsTrue, OnOk, is_ok, is_err}
use Rattle.sig_outside.specs.Disk.{Only, Stop}
use Rattle.sig_journal.specs.Added.{IsJournal, RestsWith, Shows, ShowsAfter, ShowsBefore, ShowsEither, rests_with_it}
use Rattle.sig_journal.specs.Journal.{BothTold, IsAtRest, KnowsFiles, Open, Stands, image_store, told_store}
use Rattle.sig_journal.specs.Layout.{Content, end_of, framed_bytes}
use Rattle.sig_journal.specs.Store.{IsBeforeOrAfter, add_record, with_record}
use Rattle.sig_journal.proofs.Stores.{held, shown}

module _ {D : Type 0} (told : D → Bool) (seen : D → List ℕ) (may_leave : D → List ℕ → Type 0) (journal : Open D) (payload : List ℕ) (rest : IsAtRest told seen may_leave journal) (both : BothTold told journal) where
  stands : Stands (told_store seen journal) journal.in_b journal.end journal.records
  stands = rest.stands both

  is_journal : IsJournal journal.kind (seen journal.written) journal.end (rest.stands both).content
  is_journal = record { holds = held journal.in_b journal.kind (seen journal.written) (seen journal.other) (rest.stands both).content (rest.stands both).tells; ends = (rest.stands both).ends }

  told_again : (image : List ℕ) (next : Content) → Shows journal.kind (seen journal.written) image next → image_store seen journal image ≡ Ok (record { in_b = journal.in_b; content = next })
  told_again image next shows = shown journal.in_b journal.kind (seen journal.written) (seen journal.other) image (rest.stands both).content next (rest.stands both).tells shows

  pub before_told : (image : List ℕ) → ShowsBefore (seen journal.written) journal.end image → image_store seen journal image ≡ told_store seen journal
  before_told image shows =
      told_again image (rest.stands both).content (shows journal.kind (rest.stands both).content is_journal) ∙ sym (rest.stands both).tells

  pub after_told : (image : List ℕ) → ShowsAfter (seen journal.written) journal.end payload image → image_store seen journal image ≡ with_record (told_store seen journal) payload
  after_told image shows =
      told_again image (add_record (rest.stands both).content payload) (shows journal.kind (rest.stands both).content is_journal) ∙ sym (ap (λ t. with_record t payload) (rest.stands both).tells)

  pub either_told : (image : List ℕ) → ShowsEither (seen journal.written) journal.end payload image → IsBeforeOrAfter (told_store seen journal) payload (image_store seen journal image)
  either_told image shows =
      ⊎_elim
      (λ same. inl (told_again image (rest.stands both).content same ∙ sym (rest.stands both).tells))
      (λ more. inr (told_again image (add_record (rest.stands both).content payload) more ∙ sym (ap (λ t. with_record t payload) (rest.stands both).tells)))
      (shows journal.kind (rest.stands both).content is_journal)

matches : (b : Bool) (A B C E : Type 0) → (A → C) → (B → E) → MatchBool b A B → MatchBool b C E
matches true A B C E f g h = f h
matches false A B C E f g h = g h

some_matches : (b : Bool) (A B C E : List ℕ → Type 0) (new : Option Stop) → ((image : List ℕ) → A image → C image) → ((image : List ℕ) → B image → E image)
    → IsSomeAnd new (λ rest. MatchBool b (A rest.image) (B rest.image)) → IsSomeAnd new (λ rest. MatchBool b (C rest.image) (E rest.image))
some_matches b A B C E None f g h = h
some_matches b A B C E (Some rest) f g h = matches b (A rest.image) (B rest.image) (C rest.image) (E rest.image) (f rest.image) (g rest.image) h

-- the same of an answer that is Ok where that of the call was, and of what follows from the images
pub rests_map : {T E U F : Type 0} (B A B' A' : List ℕ → Type 0) (old new : Option Stop) (short : Bool) (call : Result U F) (result : Result T E) → is_ok result ≡ is_ok call
    → ((image : List ℕ) → B image → B' image) → ((image : List ℕ) → A image → A' image) → RestsWith B A old new short call → RestsWith B' A' old new short result
rests_map B A B' A' None new short call result same f g h = h
rests_map B A B' A' (Some stop) new short call result same f g (inl h) = inl h
rests_map B A B' A' (Some stop) new short call result same f g (inr h) =
    inr ((λ ok. h.0.0 (sym same ∙ ok), λ enough. same ∙ h.0.1 enough), some_matches (rests_with_it stop.calls stop.fill) A B A' B' new g f h.1)

-- what holds of a call that didn't fail
pub from_ok : {T E : Type 0} {P : Type 0} (call : Result T E) → false ≡ is_err call → OnOk call P → P
from_ok (Ok x) ok h = h
from_ok (Err e) ok h = absurd (false≢true ok)

pub failed_not_ok : {T E : Type 0} (call : Result T E) → true ≡ is_err call → false ≡ is_ok call
failed_not_ok (Ok x) failed = sym failed
failed_not_ok (Err e) failed = refl

pub not_failed_ok : {T E : Type 0} (call : Result T E) → false ≡ is_err call → true ≡ is_ok call
not_failed_ok (Ok x) ok = refl
not_failed_ok (Err e) ok = sym ok

pub length-framed : (payload : List ℕ) → length (framed_bytes payload) ≡ 5 + length payload
length-framed payload = omega (arith, length-append (to_be_bytes w32 (length payload) ++ payload) (0 ∷ []), length-append (to_be_bytes w32 (length payload)) payload)

end-more : (content : Content) (payload : List ℕ) → end_of (add_record content payload) ≡ end_of content + 5 + length payload
end-more content payload = omega (arith, sum_by_push (λ p. 5 + length p) content.records payload)

module _ {D : Type 0} (told : D → Bool) (seen : D → List ℕ) (may_leave : D → List ℕ → Type 0) (journal : Open D) (payload : List ℕ) (file : D) (records end : ℕ) where
  -- the journal after a record was added to its file in force
  abbrev pub grown : Open D
  grown = record { written = file; other = journal.other; in_b = journal.in_b; kind = journal.kind; records = records; end = end; broken = journal.broken; generation = journal.generation; other_open = journal.other_open; store_id = journal.store_id }

  pub rest_after : IsAtRest told seen may_leave journal → Only (seen file) (may_leave file) → told file ≡ told journal.written
      → (IsTrue (told journal.written) → ShowsAfter (seen journal.written) journal.end payload (seen file))
      → records ≡ journal.records + 1 → end ≡ journal.end + length (framed_bytes payload) → IsAtRest told seen may_leave grown
  rest_after rest durable same added counts ends = record {
    written = durable;
    other = rest.other;
    stands = λ both.
        let both' : BothTold told journal = (sym same ∙ both.0, both.1) in
        let s = rest.stands both' in
        record {
          content = add_record s.content payload;
          tells = after_told told seen may_leave journal payload rest both' (seen file) (added both'.0) ∙ ap (λ t. with_record t payload) s.tells;
          ends = omega (arith, ends, s.ends, end-more s.content payload, length-framed payload);
          counts = omega (arith, counts, s.counts, length-append s.content.records (payload ∷ []));
        };
  }

  -- which knows of its files what it knew
  pub knows_after : told file ≡ told journal.written → (IsTrue (told journal.written) → ShowsAfter (seen journal.written) journal.end payload (seen file))
      → end ≡ journal.end + length (framed_bytes payload) → KnowsFiles told seen journal → KnowsFiles told seen grown
  knows_after same added more knows = record {
    written = λ told_file.
        let was = knows.written (sym same ∙ told_file) in
        let shows = added (sym same ∙ told_file) journal.kind was.content (record { holds = was.holds; ends = was.ends }) in
        record {
          content = add_record was.content payload;
          holds = shows.holds;
          ends = omega (arith, more, was.ends, end-more was.content payload, length-framed payload);
          named = was.named;
          begins = shows.begins ∙ was.begins;
        };
    other = knows.other;
  }

  pub tells_after : IsAtRest told seen may_leave journal → (IsTrue (told journal.written) → ShowsAfter (seen journal.written) journal.end payload (seen file))
      → BothTold told journal → told_store seen grown ≡ with_record (told_store seen journal) payload
  tells_after rest added both = after_told told seen may_leave journal payload rest both (seen file) (added both.0)
