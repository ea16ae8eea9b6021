-- How a file's first bytes and its records are read.
use Rattle.std.proofs.Common.{◌≡◌, inl, inr, ℕ, ◌+◌, ◌*◌, ◌≤◌, min, List, [], ◌∷◌, ◌++◌, length, take, drop, Bool, Result, Ok, Err, sym, ◌∙◌, ap, arith, length-take, take-append-drop}
use Rattle.std.proofs.lemmas.Bool.{cases_lt}
use Rattle.std.proofs.lemmas.List.{append-nil, take_all}
use Rattle.std.proofs.lemmas.List.Sums.{sum_by-cons, sum_by_push}
use Rattle.sig_journal.specs.declared.fault.LoadFault.TheVariants.{Damaged, Memory, Store}
use Rattle.sig_journal.specs.Layout.{Content, before_records, places_of, records_of, records_size}
use Rattle.sig_journal.specs.declared.fault.LoadFault.{LoadFault}
use Rattle.sig_journal.specs.Store.{Told, file_number, gate_of, in_file_at, told_in}
use Rattle.sig_journal.proofs.Fronts.{gate_same}
use Rattle.sig_journal.proofs.RecordLemmas.{appends, appends-before, appends-err, appends-ok}

-- the first bytes say how a file begins
pub gate_front : (seen : List ℕ) (count : ℕ) → count ≡ min 15 (length seen) → gate_of (take count seen) ≡ gate_of seen
gate_front seen count is = elim (cases_lt 15 (length seen)) [
  | inl long ↦
      let all : count ≡ 15 = omega (arith, is, long) in
      ap (λ (n : ℕ). gate_of (take n seen)) all ∙ ap gate_of (sym (append-nil (take 15 seen)))
      ∙ gate_same (take 15 seen) [] (drop 15 seen) (omega (arith, length-take 15 seen, long)) ∙ ap gate_of (take-append-drop 15 seen)
  | inr short ↦ ap gate_of (take_all count seen (omega (arith, is, short)))
]

pub read_more : (payloads grown : List (List ℕ)) (payload after rest : List ℕ) (place : ℕ) (all : Result (List (List ℕ)) ℕ) → grown ≡ payloads ++ payload ∷ []
    → records_of (length rest) place rest ≡ before_records payload (records_of (length after) (place + 5 + length payload) after) → appends payloads (records_of (length rest) place rest) ≡ all
    → appends grown (records_of (length after) (place + (5 + length payload)) after) ≡ all
read_more payloads grown payload after rest place all grew found so_far =
    let next = records_of (length after) (place + 5 + length payload) after in
    let here : place + (5 + length payload) ≡ place + 5 + length payload = omega arith in
    ap (λ (p : ℕ). appends grown (records_of (length after) p after)) here
    ∙ ap (λ (l : List (List ℕ)). appends l next) grew ∙ sym (appends-before payloads payload next)
    ∙ ap (appends payloads) (sym found) ∙ so_far

pub places_push : (place : ℕ) (records : List (List ℕ)) (payload : List ℕ) → places_of place (records ++ payload ∷ []) ≡ places_of place records ++ (place + records_size records) ∷ []
places_push place [] payload = let here : place ≡ place + records_size [] = omega arith in ap (λ (p : ℕ). p ∷ []) here
places_push place (record' ∷ records) payload =
    let here : place + 5 + length record' + records_size records ≡ place + records_size (record' ∷ records) = omega (arith, sum_by-cons (λ p. 5 + length p) record' records) in
    ap (λ (l : List ℕ). place ∷ l) (places_push (place + 5 + length record') records payload ∙ ap (λ (p : ℕ). places_of (place + 5 + length record') records ++ p ∷ []) here)

pub size_push : (place first : ℕ) (records grown : List (List ℕ)) (payload : List ℕ) → grown ≡ records ++ payload ∷ [] → place ≡ first + records_size records → place + (5 + length payload) ≡ first + records_size grown
size_push place first records grown payload grew is = omega (arith, is, ap records_size grew, sum_by_push (λ p. 5 + length p) records payload)

-- where the records end, all of them were read
pub read_end : (payloads : List (List ℕ)) (file : ℕ) (next all : Result (List (List ℕ)) ℕ) → next ≡ Ok [] → appends payloads next ≡ all → in_file_at file all ≡ Ok payloads
read_end payloads file next all ends so_far =
    ap (in_file_at file) (sym so_far ∙ ap (appends payloads) ends ∙ appends-ok payloads [] ∙ ap (λ (l : List (List ℕ)). Ok l) (append-nil payloads))

-- where they are damaged, so is the file
pub read_bad : (payloads : List (List ℕ)) (file place : ℕ) (next all : Result (List (List ℕ)) ℕ) → next ≡ Err place → appends payloads next ≡ all → in_file_at file all ≡ Err (Damaged file place)
read_bad payloads file place next all bad so_far = ap (in_file_at file) (sym so_far ∙ ap (appends payloads) bad ∙ appends-err payloads place)

-- what a store tells is what its file in force holds
pub told_ok : (in_b : Bool) (read : Result Content ℕ) (content : Content) → in_file_at (file_number in_b) read ≡ Ok content → told_in in_b read ≡ Ok (record { in_b = in_b; content = content })
told_ok in_b (Ok held) content is = ap (in_store in_b) is
  where
    in_store : Bool → Result Content LoadFault → Result Told LoadFault
    in_store b (Ok c) = Ok (record { in_b = b; content = c })
    in_store b (Err fault) = Err fault
told_ok in_b (Err at) content is = absurd cc

-- and the fault that it has
pub told_err : (in_b : Bool) (read : Result Content ℕ) (fault : LoadFault) → in_file_at (file_number in_b) read ≡ Err fault → told_in in_b read ≡ Err fault
told_err in_b (Ok held) fault is = absurd cc
told_err in_b (Err at) fault is = ap (in_store in_b) is
  where
    in_store : Bool → Result Content LoadFault → Result Told LoadFault
    in_store b (Ok c) = Ok (record { in_b = b; content = c })
    in_store b (Err fault) = Err fault

-- what a file is damaged at is no fault of a disk, and nor is a lack of memory
pub never_store : {T : Type 0} (file : ℕ) (read : Result T ℕ) (fault : LoadFault) → in_file_at file read ≡ Err fault → fault ≡ Store → ⊥
never_store file (Ok x) fault is store = absurd cc
never_store file (Err at) fault is store = cc

pub memory_no_store : (fault : LoadFault) → fault ≡ Memory → fault ≡ Store → ⊥
memory_no_store fault memory store = cc

-- each record has its gate and its length
pub records_least : (records : List (List ℕ)) → 5 * length records ≤ records_size records
records_least [] = omega arith
records_least (payload ∷ records) = omega (arith, records_least records, sum_by-cons (λ p. 5 + length p) payload records)
