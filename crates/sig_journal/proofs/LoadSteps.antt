-- How the records of a store are taken up one by one, and what stands at their places.
use Rattle.std.proofs.Common.{◌≡◌, ◌∙◌, ap, ℕ, zero, suc, ◌+◌, ◌<◌, List, [], ◌∷◌, length, take, get_or, Bool, Option, Some, None, Ok, Err, arith}
use Rattle.std.proofs.lemmas.Bool.{false≢true}
use Rattle.std.proofs.lemmas.List.Sums.{sum_by-cons}
use Rattle.std.specs.Option.{option_map_or}
use Rattle.sig_journal.specs.Journal.{BothTold, Open, told_store}
use Rattle.sig_journal.specs.Layout.{places_of, records_size}
use Rattle.sig_journal.specs.Standing.{StandsFor}
use Rattle.sig_journal.specs.Taking.{Taking, loaded, state_after}

-- the first record is taken: the others decide
pub taken_up : {S : Type 0} (step : S → List ℕ → Option S) (state next : S) (place : ℕ) (payload : List ℕ) (records : List (List ℕ))
    → step state payload ≡ Some next → state_after step state place (payload ∷ records) ≡ state_after step next (place + 5 + length payload) records
taken_up {S} step state next place payload records takes =
    ap (λ found. option_map_or (λ (s : S). state_after step s (place + 5 + length payload) records) found (Err place)) takes

-- it is refused: the place of its gate is told
pub not_taken : {S : Type 0} (step : S → List ℕ → Option S) (state : S) (place : ℕ) (payload : List ℕ) (records : List (List ℕ))
    → step state payload ≡ None → state_after step state place (payload ∷ records) ≡ Err place
not_taken {S} step state place payload records refused =
    ap (λ found. option_map_or (λ (s : S). state_after step s (place + 5 + length payload) records) found (Err place)) refused

-- the place of a gate is after the records before it
pub place_at : (first : ℕ) (records : List (List ℕ)) (k : ℕ) → k < length records → get_or (places_of first records) k 0 ≡ first + records_size (take k records)
place_at first [] k within = absurd (omega (arith, within))
place_at first (payload ∷ records) zero within = omega arith
place_at first (payload ∷ records) (suc k) within =
    place_at (first + 5 + length payload) records k (omega (arith, within))
    ∙ omega (arith, sum_by-cons (λ p. 5 + length p) payload (take k records))

-- a journal that was loaded stands for the state that its store loads to
pub stands_loaded : {S D : Type 0} (taking : Taking S) (told : D → Bool) (seen : D → List ℕ) (may_leave : D → List ℕ → Type 0) (journal : Open D) (state : S)
    → (BothTold told journal → loaded taking (told_store seen journal) ≡ Ok state)
    → StandsFor taking told seen may_leave (record { journal = journal; broken_at = None }) state
stands_loaded taking told seen may_leave journal state loads = record {
  tells = λ _ both. loads both;
  leaves = λ broken both. absurd (false≢true broken);
}
