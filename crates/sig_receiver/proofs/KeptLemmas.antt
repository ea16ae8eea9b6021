-- What a receiver keeps after a text, and what it answers to one.
use Rattle.std.proofs.Common.{◌≡◌, ◌∙◌, ap, sym, subst, ℕ, List, [], ◌∷◌, ◌++◌, Bool, true, false, Option, Some, None, if◌then◌else◌, refl, inl, inr, append-nil}
use Rattle.std.specs.Prelude.{◌⊎◌, IfOk, Result, Ok, Err}
use Rattle.sig_event.specs.declared.claims.Claims.{Claims}
use Rattle.sig_set.specs.declared.refusal.Code.{Code}
use Rattle.sig_set.specs.declared.refusal.Spot.{Spot}
use Rattle.sig_set.specs.declared.refusal.Refusal.TheVariants.{Coded, Memory}
use Rattle.sig_set.specs.declared.trust.Trust.{Trust}
use Rattle.sig_set.specs.Checks.{Fault}
use Rattle.sig_set.specs.Judgement.{Judgement, Valid, Refused, claims_of, judged, judged_by, result_of}
use Rattle.sig_set.specs.Reading.{read_by}
use Rattle.sig_inbox.specs.declared.pair.Pair.{Pair}
use Rattle.sig_inbox.specs.Pairs.{has_pair}
use Rattle.sig_receiver.specs.declared.heard.Heard.{Heard}
use Rattle.sig_receiver.specs.declared.heard.Heard.TheVariants.{Accepted, Seen, NotTaken}
use Rattle.sig_receiver.specs.Journal.{answer_by, answer_to, journal_by, pair_of, pairs_of}
use Rattle.sig_receiver.specs.Laws.{AnswersByWhatIsKept}
use Rattle.sig_receiver.specs.Receiver.{Held, Received, StandsOver, heard_at, heard_by, received, received_of, taken}
use Rattle.sig_receiver.specs.Rows.{fold_rows}
use Rattle.sig_receiver.proofs.JournalLemmas.{joins, known_by_distinct}

-- what follows of a value, where there is one
pub where_ok : {T E : Type 0} (P R : T → Type 0) (r : Result T E) → ((x : T) → P x → R x) → IfOk r P → IfOk r R
where_ok P R (Ok x) f p = f x p
where_ok P R (Err e) f p = tt

-- ---- what is kept

pub none_more : (state : Received) → received_of state [] ≡ state
none_more state = let make : List Pair → Received = λ pairs. record { pairs = pairs; rows = state.rows } in ap make (append-nil state.pairs)

with_distinct : Received → List (List ℕ) → Received
with_distinct state texts = record { pairs = state.pairs ++ pairs_of texts; rows = fold_rows state.rows texts }

-- a text whose pair is known changes nothing
pub known_text : (state : Received) (text : List ℕ) → has_pair (pair_of (claims_of text)) state.pairs ≡ true → received_of state (text ∷ []) ≡ state
unfolding with_distinct
known_text state text known = ap (λ b. with_distinct state (if b then [] else text ∷ [])) known ∙ none_more state

-- one whose pair is new is taken
pub new_text : (state : Received) (text : List ℕ) → has_pair (pair_of (claims_of text)) state.pairs ≡ false → received_of state (text ∷ []) ≡ taken state (claims_of text)
unfolding with_distinct
new_text state text new = ap (λ b. with_distinct state (if b then [] else text ∷ [])) new

pub text_taken : (state : Received) (text : List ℕ) (claims : Claims) → claims_of text ≡ claims
    → (if has_pair (pair_of claims) state.pairs then state else taken state claims) ≡ received_of state (text ∷ [])
text_taken state text claims same = subst (λ (c : Claims). (if has_pair (pair_of c) state.pairs then state else taken state c) ≡ received_of state (text ∷ [])) same
    (by (has_pair (pair_of (claims_of text)) state.pairs) refl)
  where
    by : (b : Bool) → has_pair (pair_of (claims_of text)) state.pairs ≡ b → (if b then state else taken state (claims_of text)) ≡ received_of state (text ∷ [])
    by true known = sym (known_text state text known)
    by false new = sym (new_text state text new)

-- and so it is by the answer
pub hearing_makes : (state : Received) (text : List ℕ) (claims : Claims) → claims_of text ≡ claims
    → (if has_pair (pair_of claims) state.pairs then state else taken state claims)
    ≡ received_of state (journal_by (if has_pair (pair_of claims) state.pairs then Seen else Accepted) [] text)
hearing_makes state text claims same = by (has_pair (pair_of claims) state.pairs) refl
  where
    by : (b : Bool) → has_pair (pair_of claims) state.pairs ≡ b
        → (if b then state else taken state claims) ≡ received_of state (journal_by (if b then Seen else Accepted) [] text)
    by true known = sym (none_more state)
    by false new = ap (taken state) (sym same) ∙ sym (new_text state text (ap (λ (c : Claims). has_pair (pair_of c) state.pairs) same ∙ new))

-- ---- what is answered

-- a coded refusal is the judgement's
pub of_refusal : (j : Judgement) (code : Code) (spot : Spot) (pairs : List Pair)
    → (Coded code spot ≡ Memory) ⊎ (result_of j ≡ Err (Coded code spot)) → NotTaken code spot ≡ heard_by pairs j
of_refusal (Valid claims) code spot pairs h = elim h [ inl e ↦ cc | inr e ↦ cc ]
of_refusal (Refused code' spot') code spot pairs h = elim h [ inl e ↦ cc | inr e ↦ cc ]

-- the claims that are answered are those of the text
pub of_claims : (fault : Option Fault) (claims found : Claims) → result_of (judged_by fault claims) ≡ Ok found → claims ≡ found
of_claims None claims found h = cc
of_claims (Some fault) claims found h = cc

pub of_read : (fault : Option Fault) (claims found : Claims) → read_by fault claims ≡ Ok found → claims ≡ found
of_read None claims found h = cc
of_read (Some fault) claims found h = cc

-- a valid text is answered by the pairs that are known
pub of_heard : (fault : Option Fault) (claims found : Claims) (pairs : List Pair) → result_of (judged_by fault claims) ≡ Ok found
    → (if has_pair (pair_of found) pairs then Seen else Accepted) ≡ heard_by pairs (judged_by fault claims)
of_heard None claims found pairs h = ap (λ (c : Claims). if has_pair (pair_of c) pairs then Seen else Accepted) (sym (of_claims None claims found h))
of_heard (Some fault) claims found pairs h = cc

pub answers : AnswersByWhatIsKept
answers trust base principal named journal text = by (judged trust principal named text)
  where
    by : (j : Judgement) → answer_by base.pairs j journal ≡ heard_by (received_of base journal).pairs j
    by (Valid claims) = ap (λ b. if b then Seen else Accepted) (known_by_distinct (pair_of claims) base.pairs journal)
    by (Refused code spot) = refl

-- ---- over a journal

grown_by : (heard : Heard) (journal : List (List ℕ)) (text : List ℕ) → journal ++ journal_by heard [] text ≡ journal_by heard journal text
grown_by Accepted journal text = refl
grown_by Seen journal text = append-nil journal
grown_by (NotTaken code spot) journal text = append-nil journal

pub answer_over : (trust : Trust) (base : Received) (principal named : Option (List ℕ)) (held : Held) (journal : List (List ℕ)) (text : List ℕ) (heard : Heard)
    → heard ≡ heard_at trust principal named (received held) text
    → StandsOver base held journal → heard ≡ answer_to trust base.pairs principal named journal text
answer_over trust base principal named held journal text heard is stands =
    is ∙ ap (λ (s : Received). heard_at trust principal named s text) stands ∙ sym (answers trust base principal named journal text)

pub stands_after : (base : Received) (held held' : Held) (journal : List (List ℕ)) (text : List ℕ) (heard : Heard) → received held' ≡ received_of (received held) (journal_by heard [] text)
    → StandsOver base held journal → StandsOver base held' (journal_by heard journal text)
stands_after base held held' journal text heard kept stands =
    kept ∙ ap (λ (s : Received). received_of s (journal_by heard [] text)) stands
    ∙ sym (joins base journal (journal_by heard [] text)) ∙ ap (received_of base) (grown_by heard journal text)
