-- How the records of a transmitter's store are taken up.
use Rattle.std.proofs.Common.{◌≡◌, ◌∙◌, ap, sym, subst, refl, ℕ, suc, ◌+◌, ◌<◌, List, [], ◌∷◌, length, take, drop, get_or, Bool, true, false, Option, Some, None, Result, Ok, Err, if◌then◌else◌, add-one, arith, drop-cons}
use Rattle.std.proofs.lemmas.List.Sums.{sum_by_more}
use Rattle.std.specs.Prelude.{OnOk, IsErrOf, ⊤}
use Rattle.std.proofs.Common.{inl, inr}
use Rattle.sig_json.specs.Answers.{Answers}
use Rattle.sig_fields.specs.declared.fault.DecodeFault.{DecodeFault}
use Rattle.sig_journal.specs.Layout.{places_of, records_size}
use Rattle.sig_terms.specs.declared.fact.Fact.{Fact}
use Rattle.sig_history.specs.Owed.{Sum, sum_of}
use Rattle.sig_history.specs.Sound.{is_fitting}
use Rattle.sig_history.specs.Whole.{IsWhole}
use Rattle.sig_history.proofs.WholeLemmas.{whole_after}
use Rattle.sig_outbox.specs.declared.applying.ApplyFault.{ApplyFault}
use Rattle.sig_outbox.specs.declared.applying.ApplyFault.TheVariants.{Bad, Memory}
use Rattle.sig_outbox.specs.State.{taken_where}
use Rattle.sig_journal.specs.Taking.{state_after}
use Rattle.sig_journal.proofs.LoadSteps.{not_taken, taken_up}
use Rattle.sig_txnode.specs.Records.{after_record}

-- ---- one record

fits_ok : (sum new : Sum) (f : Fact) (b : Bool) → taken_where b ≡ Ok tt → new ≡ sum_of sum (f ∷ []) → (if b then Some (sum_of sum (f ∷ [])) else None) ≡ Some new
fits_ok sum new f true is same = ap (λ (s : Sum). Some s) (sym same)
fits_ok sum new f false is same = absurd cc

fits_bad : (after : Sum) (b : Bool) → taken_where b ≡ Err Bad → (if b then Some after else None) ≡ None
fits_bad after true is = absurd cc
fits_bad after false is = refl

-- a fact that was read and applied
pub applied : (sum new : Sum) (f : Fact) (d : Result Fact DecodeFault) (r : Result ⊤ ApplyFault) → d ≡ Ok f → Answers Memory r (taken_where (is_fitting sum f)) → OnOk r (new ≡ sum_of sum (f ∷ []))
    → OnOk r (after_record sum d ≡ Some new)
applied sum new f d (Ok u) is fits takes = ap (after_record sum) is ∙ fits_ok sum new f (is_fitting sum f) fits takes
applied sum new f d (Err e) is fits takes = tt

-- one that doesn't fit
pub not_applied : (sum : Sum) (f : Fact) (d : Result Fact DecodeFault) (r : Result ⊤ ApplyFault) → d ≡ Ok f → Answers Memory r (taken_where (is_fitting sum f))
    → IsErrOf r Bad → after_record sum d ≡ None
not_applied sum f d (Ok u) is fits bad = absurd cc
not_applied sum f d (Err e) is (inl memory) bad = absurd cc
not_applied sum f d (Err e) is (inr told) bad =
    let same : e ≡ Bad = cc in
    ap (after_record sum) is ∙ fits_bad (sum_of sum (f ∷ [])) (is_fitting sum f) (told ∙ ap (λ (x : ApplyFault). Err x) same)

-- what is whole stays so
fits_whole : (sum next : Sum) (f : Fact) (b : Bool) → is_fitting sum f ≡ b → (if b then Some (sum_of sum (f ∷ [])) else None) ≡ Some next → IsWhole sum → IsWhole next
fits_whole sum next f true fits is whole =
    let same : sum_of sum (f ∷ []) ≡ next = cc in
    subst IsWhole same (whole_after sum f whole fits)
fits_whole sum next f false fits is whole = absurd cc

pub taken_whole : (sum next : Sum) (d : Result Fact DecodeFault) → after_record sum d ≡ Some next → IsWhole sum → IsWhole next
taken_whole sum next (Ok f) is whole = fits_whole sum next f (is_fitting sum f) refl is whole
taken_whole sum next (Err e) is whole = absurd cc

-- ---- one record after another

pub step_at : (step : Sum → List ℕ → Option Sum) (s next : Sum) (first i : ℕ) (records : List (List ℕ)) → i < length records → step s (get_or records i []) ≡ Some next
    → state_after step s (first + records_size (take i records)) (drop i records) ≡ state_after step next (first + records_size (take (i + 1) records)) (drop (i + 1) records)
step_at step s next first i records within takes =
    let payload = get_or records i [] in
    let place = first + records_size (take i records) in
    let cut : drop i records ≡ payload ∷ drop (i + 1) records = drop-cons records i [] within ∙ ap (λ (n : ℕ). payload ∷ drop n records) (sym (add-one i)) in
    let more : place + 5 + length payload ≡ first + records_size (take (i + 1) records) = omega (arith, sum_by_more (λ (p : List ℕ). 5 + length p) records i [] within) in
    ap (state_after step s place) cut ∙ taken_up step s next place payload (drop (i + 1) records) takes ∙ ap (λ (n : ℕ). state_after step next n (drop (i + 1) records)) more

pub stop_at : (step : Sum → List ℕ → Option Sum) (s : Sum) (place i : ℕ) (records : List (List ℕ)) → i < length records → step s (get_or records i []) ≡ None
    → state_after step s place (drop i records) ≡ Err place
stop_at step s place i records within refused =
    ap (state_after step s place) (drop-cons records i [] within) ∙ not_taken step s place (get_or records i []) (drop (suc i) records) refused

pub length_places : (first : ℕ) (records : List (List ℕ)) → length (places_of first records) ≡ length records
length_places first [] = refl
length_places first (payload ∷ records) = ap suc (length_places (first + 5 + length payload) records)
