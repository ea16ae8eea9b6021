-- How the records of a receiver's store are taken up.
use Rattle.std.proofs.Common.{◌≡◌, ◌∙◌, ap, sym, inl, inr, ℕ, suc, ◌+◌, ◌<◌, List, [], ◌∷◌, ◌++◌, length, take, drop, get_or, Option, Some, None, Result, Ok, Err, refl, arith}
use Rattle.std.proofs.lemmas.List.{map-append}
use Rattle.std.proofs.lemmas.List.Sums.{sum_by_push}
use Rattle.std.proofs.Math.Seq.{drop-cons, take-suc}
use Rattle.std.specs.Option.{option_map_or}
use Rattle.std.specs.Prelude.{◌⊎◌, ⊤}
use Rattle.sig_fields.specs.declared.fault.DecodeFault.{DecodeFault}
use Rattle.sig_journal.specs.Layout.{places_of, records_size}
use Rattle.sig_entry.specs.Tokens.{decoded_token}
use Rattle.sig_set.specs.declared.refusal.Spot.{Spot}
use Rattle.sig_receiver.specs.declared.take_fault.TakeFault.{TakeFault}
use Rattle.sig_receiver.specs.declared.take_fault.TakeFault.TheVariants as take_fault
use Rattle.sig_receiver.specs.Receiver.{Received, received_of}
use Rattle.sig_receiver.specs.Taking.{text_taken}
use Rattle.sig_receiver.proofs.JournalLemmas.{joins}
use Rattle.sig_receiver.proofs.KeptLemmas.{none_more}
use Rattle.sig_journal.specs.Taking.{state_after}
use Rattle.sig_journal.proofs.LoadSteps.{not_taken, place_at, taken_up}
use Rattle.sig_rxnode.specs.declared.recording.RecordFault.TheVariants.{Bad}
use Rattle.sig_rxnode.specs.Records.{after_record, after_text, receiving, text_by, text_in, text_or_none, texts_of}

-- ---- one record

-- what a record spells, where its text was read
pub spells : (decoded : Result (List ℕ) DecodeFault) (text : List ℕ) → text_by decoded ≡ Ok text → decoded ≡ Ok text
spells (Ok found) text h =
    let make : List ℕ → Result (List ℕ) DecodeFault = λ t. Ok t in
    let same : found ≡ text = cc in
    ap make same
spells (Err fault) text h = absurd cc

-- the record is taken where its text is
pub record_taken : (state new : Received) (payload text : List ℕ) → text_in payload ≡ Ok text → text_taken text ≡ Ok tt → new ≡ received_of state (text ∷ []) → receiving.step state payload ≡ Some new
record_taken state new payload text read taken is =
    let make : Received → Option Received = λ s. Some s in
    ap (after_record state) (spells (decoded_token payload) text read) ∙ ap (after_text state text) taken ∙ ap make (sym is)

pub record_texts : (entries new : List (List ℕ)) (payload text : List ℕ) → text_in payload ≡ Ok text → new ≡ entries ++ text ∷ [] → new ≡ entries ++ texts_of (payload ∷ [])
record_texts entries new payload text read grew = grew ∙ ap (λ t. entries ++ text_or_none t ∷ []) (sym (spells (decoded_token payload) text read))

-- it is refused where it spells no text, and where its text says no claims
pub record_unread : (state : Received) (decoded : Result (List ℕ) DecodeFault) → text_by decoded ≡ Err Bad → after_record state decoded ≡ None
record_unread state (Ok text) h = absurd cc
record_unread state (Err fault) h = refl

text_refused : (state : Received) (text : List ℕ) (taken : Result ⊤ TakeFault) (fault : TakeFault) → taken ≡ Err fault → after_text state text taken ≡ None
text_refused state text (Ok x) fault h = absurd cc
text_refused state text (Err f) fault h = refl

-- a text that is refused for a spot is no want of memory
pub was_refused : (taken : Result ⊤ TakeFault) (fault : TakeFault) (spot : Spot) → fault ≡ take_fault.Bad spot → (fault ≡ take_fault.Memory) ⊎ (taken ≡ Err fault) → taken ≡ Err fault
was_refused taken fault spot is h = elim h [ inl e ↦ absurd cc | inr e ↦ e ]

pub record_refused : (state : Received) (payload text : List ℕ) (fault : TakeFault) → text_in payload ≡ Ok text → text_taken text ≡ Err fault → receiving.step state payload ≡ None
record_refused state payload text fault read refused =
    ap (after_record state) (spells (decoded_token payload) text read) ∙ text_refused state text (text_taken text) fault refused

-- ---- all of them

-- what is kept after records that were all taken is that of their texts
pub kept_texts : (state end : Received) (place : ℕ) (payloads : List (List ℕ)) → state_after receiving.step state place payloads ≡ Ok end → end ≡ received_of state (texts_of payloads)
kept_texts state end place [] h = let same : state ≡ end = cc in sym same ∙ sym (none_more state)
kept_texts state end place (payload ∷ payloads) h =
    elim (decoded_token payload) as (λ (decoded : Result (List ℕ) DecodeFault).
    option_map_or (λ next. state_after receiving.step next (place + 5 + length payload) payloads) (after_record state decoded) (Err place) ≡ Ok end
    → end ≡ received_of state (text_or_none decoded ∷ texts_of payloads)) [
      | Err fault ↦ λ none. absurd cc
      | Ok text ↦ elim (text_taken text) as (λ (taken : Result ⊤ TakeFault).
          option_map_or (λ next. state_after receiving.step next (place + 5 + length payload) payloads) (after_text state text taken) (Err place) ≡ Ok end
          → end ≡ received_of state (text ∷ texts_of payloads)) [
            | Err fault ↦ λ none. absurd cc
            | Ok x ↦ λ rest. kept_texts (received_of state (text ∷ [])) end (place + 5 + length payload) payloads rest ∙ sym (joins state (text ∷ []) (texts_of payloads))
          ]
    ] h

-- one record further
pub step_on : (state mid next : Received) (first : ℕ) (payloads : List (List ℕ)) (payload : List ℕ) (i : ℕ) → i < length payloads → payload ≡ get_or payloads i payload
    → receiving.step mid payload ≡ Some next
    → state_after receiving.step state first payloads ≡ state_after receiving.step mid (first + records_size (take i payloads)) (drop i payloads)
    → state_after receiving.step state first payloads ≡ state_after receiving.step next (first + records_size (take (i + 1) payloads)) (drop (i + 1) payloads)
step_on state mid next first payloads payload i within is takes so_far =
    let one : i + 1 ≡ suc i = omega arith in
    let here : drop i payloads ≡ payload ∷ drop (i + 1) payloads = drop-cons payloads i payload within ∙ ap (λ p. p ∷ drop (suc i) payloads) (sym is) ∙ ap (λ (n : ℕ). payload ∷ drop n payloads) (sym one) in
    let front : take (i + 1) payloads ≡ take i payloads ++ payload ∷ [] = ap (λ (n : ℕ). take n payloads) one ∙ take-suc payloads i payload within ∙ ap (λ p. take i payloads ++ p ∷ []) (sym is) in
    let place : first + records_size (take i payloads) + 5 + length payload ≡ first + records_size (take (i + 1) payloads) =
    omega (arith, ap records_size front, sum_by_push (λ p. 5 + length p) (take i payloads) payload) in
    so_far ∙ ap (state_after receiving.step mid (first + records_size (take i payloads))) here
    ∙ taken_up receiving.step mid next (first + records_size (take i payloads)) payload (drop (i + 1) payloads) takes
    ∙ ap (λ (n : ℕ). state_after receiving.step next n (drop (i + 1) payloads)) place

pub texts_on : (entries new : List (List ℕ)) (payloads : List (List ℕ)) (payload : List ℕ) (i : ℕ) → i < length payloads → payload ≡ get_or payloads i payload
    → entries ≡ texts_of (take i payloads) → new ≡ entries ++ texts_of (payload ∷ []) → new ≡ texts_of (take (i + 1) payloads)
texts_on entries new payloads payload i within is so_far grew =
    let one : i + 1 ≡ suc i = omega arith in
    let front : take (i + 1) payloads ≡ take i payloads ++ payload ∷ [] = ap (λ (n : ℕ). take n payloads) one ∙ take-suc payloads i payload within ∙ ap (λ p. take i payloads ++ p ∷ []) (sym is) in
    grew ∙ ap (λ l. l ++ texts_of (payload ∷ [])) so_far
    ∙ sym (map-append (λ p. text_or_none (decoded_token p)) (take i payloads) (payload ∷ []))
    ∙ ap texts_of (sym front)

-- the first that is refused
pub stops_at : (state mid : Received) (first : ℕ) (payloads : List (List ℕ)) (payload : List ℕ) (places : List ℕ) (i : ℕ) → i < length payloads → payload ≡ get_or payloads i payload
    → receiving.step mid payload ≡ None → places ≡ places_of first payloads
    → state_after receiving.step state first payloads ≡ state_after receiving.step mid (first + records_size (take i payloads)) (drop i payloads)
    → state_after receiving.step state first payloads ≡ Err (get_or places i 0)
stops_at state mid first payloads payload places i within is refused placed so_far =
    let one : i + 1 ≡ suc i = omega arith in
    let here : drop i payloads ≡ payload ∷ drop (i + 1) payloads = drop-cons payloads i payload within ∙ ap (λ p. p ∷ drop (suc i) payloads) (sym is) ∙ ap (λ (n : ℕ). payload ∷ drop n payloads) (sym one) in
    let make : ℕ → Result Received ℕ = λ n. Err n in
    so_far ∙ ap (state_after receiving.step mid (first + records_size (take i payloads))) here
    ∙ not_taken receiving.step mid (first + records_size (take i payloads)) payload (drop (i + 1) payloads) refused
    ∙ ap make (sym (place_at first payloads i within) ∙ ap (λ l. get_or l i 0) (sym placed))

-- all were taken
pub ends_at : (state mid : Received) (first : ℕ) (payloads : List (List ℕ)) (i : ℕ) → i ≡ length payloads
    → state_after receiving.step state first payloads ≡ state_after receiving.step mid (first + records_size (take i payloads)) (drop i payloads)
    → state_after receiving.step state first payloads ≡ Ok mid
ends_at state mid first payloads i all so_far =
    so_far ∙ ap (state_after receiving.step mid (first + records_size (take i payloads))) (ap (λ (n : ℕ). drop n payloads) all ∙ drop_whole payloads)
  where
    drop_whole : (xs : List (List ℕ)) → drop (length xs) xs ≡ []
    drop_whole [] = refl
    drop_whole (x ∷ xs) = drop_whole xs

-- there are as many places as records
pub places_count : (place : ℕ) (payloads : List (List ℕ)) → length (places_of place payloads) ≡ length payloads
places_count place [] = refl
places_count place (payload ∷ payloads) = omega (arith, places_count (place + 5 + length payload) payloads)
