-- A call adds one text or none, and a page has so many rows at most.
use Rattle.std.proofs.Common.{◌≡◌, ◌∙◌, ap, sym, refl, inl, inr, ⊎_elim, ℕ, suc, ◌<◌, ◌≤◌, subst, List, [], ◌∷◌, Bool, true, false, nat_lt, Result, Ok, Err, if◌then◌else◌}
use Rattle.std.specs.Prelude.{◌⊎◌, IfOk, drop, length}
use Rattle.std.proofs.Math.Nat.{min-le_left}
use Rattle.std.proofs.lemmas.Bool.{le-leb, ltb-true}
use Rattle.std.proofs.lemmas.List.{length-take}
use Rattle.sig_json.specs.declared.limits.TheConstants.{LAST_NUMBER, ROWS_PER_PAGE}
use Rattle.sig_receiver.specs.declared.heard.Heard.{Heard}
use Rattle.sig_receiver.specs.declared.heard.Heard.TheVariants.{Accepted, Seen, NotTaken}
use Rattle.sig_receiver.specs.Journal.{journal_by}
use Rattle.sig_receiver.specs.Receiver.{Received, heard_at}
use Rattle.sig_set.specs.declared.trust.Trust.{Trust}
use Rattle.sig_journal.specs.declared.node_fault.NodeFault.{NodeFault}
use Rattle.sig_journal.specs.declared.node_fault.NodeFault.TheVariants.{Full}
use Rattle.sig_rxnode.specs.declared.answer.RxAnswer.{RxAnswer}
use Rattle.sig_rxnode.specs.declared.call.RxCall.{RxCall}
use Rattle.sig_rxnode.specs.declared.call.RxCall.TheVariants as call
use Rattle.sig_rxnode.specs.Answers.{FitsPage, IsAnswerTo, answer_of, change_of, heard_answer}
use Rattle.sig_rxnode.specs.Turns.{end_after, where_room}

one_heard : (heard : Heard) (text : List ℕ) → (journal_by heard [] text ≡ []) ⊎ (journal_by heard [] text ≡ text ∷ [])
one_heard Accepted text = inr refl
one_heard Seen text = inl refl
one_heard (NotTaken code spot) text = inl refl

abbrev pub AddsOne : List (List ℕ) → Type 0
AddsOne texts = (texts ≡ []) ⊎ ((text : List ℕ) × (texts ≡ text ∷ []))

pub adds_one : (trust : Trust) (state : Received) (c : RxCall) → AddsOne (change_of trust state c)
adds_one trust state (call.Token principal named bytes) = ⊎_elim (λ none. inl none) (λ one. inr (bytes, one)) (one_heard (heard_at trust principal named state bytes) bytes)
adds_one trust state (call.Verdict subject) = inl refl
adds_one trust state (call.Rows from) = inl refl
adds_one trust state call.Figures = inl refl

-- ---- whether there is room for it

abbrev by_room : Bool → ℕ → RxAnswer → Result RxAnswer NodeFault
by_room past n answer = if past then Err (Full n) else Ok answer

-- a call that was answered, where a text without room would have been refused
pub room_ok : (end : ℕ) (answer : RxAnswer) (texts : List (List ℕ)) → AddsOne texts
    → ((text : List ℕ) → texts ≡ text ∷ [] → LAST_NUMBER < end_after end text → ⊥) → where_room end answer texts ≡ Ok answer
room_ok end answer texts (inl none) room = ap (where_room end answer) none
room_ok end answer texts (inr one) room = ap (where_room end answer) one.1 ∙ by (nat_lt LAST_NUMBER (end_after end one.0)) refl
  where
    by : (past : Bool) → nat_lt LAST_NUMBER (end_after end one.0) ≡ past → by_room past (end_after end one.0) answer ≡ Ok answer
    by false is = refl
    by true is = absurd (room one.0 one.1 (ltb-true LAST_NUMBER (end_after end one.0) is))

-- one whose text has no room
pub room_full : (end : ℕ) (answer : RxAnswer) (texts : List (List ℕ)) (text : List ℕ) (n : ℕ) → texts ≡ text ∷ [] → n ≡ end_after end text → LAST_NUMBER < n
    → where_room end answer texts ≡ Err (Full n)
room_full end answer texts text n one is past =
    ap (where_room end answer) one ∙ ap (λ (m : ℕ). by_room (nat_lt LAST_NUMBER m) m answer) (sym is) ∙ ap (λ (b : Bool). by_room b n answer) (le-leb (suc LAST_NUMBER) n past)

-- ---- pages

heard_fits : (heard : Heard) → FitsPage (heard_answer heard)
heard_fits Accepted = tt
heard_fits Seen = tt
heard_fits (NotTaken code spot) = tt

fits_page : (trust : Trust) (state : Received) (c : RxCall) → FitsPage (answer_of trust state c)
fits_page trust state (call.Token principal named bytes) = heard_fits (heard_at trust principal named state bytes)
fits_page trust state (call.Verdict subject) = tt
fits_page trust state call.Figures = tt
fits_page trust state (call.Rows from) =
    subst (λ (n : ℕ). n ≤ ROWS_PER_PAGE) (sym (length-take ROWS_PER_PAGE (drop from state.rows))) (min-le_left ROWS_PER_PAGE (length (drop from state.rows)))

-- so an answer by the table fits
pub answer_fits : (trust : Trust) (state : Received) (c : RxCall) (result : Result RxAnswer NodeFault) → IfOk result (λ told. told ≡ answer_of trust state c) → IfOk result FitsPage
answer_fits trust state c (Ok told) is = subst FitsPage (sym is) (fits_page trust state c)
answer_fits trust state c (Err fault) is = tt

-- and is what the table gives to the call
pub answer_row : (trust : Trust) (state : Received) (c : RxCall) (result : Result RxAnswer NodeFault) → IfOk result (λ told. told ≡ answer_of trust state c)
    → IfOk result (λ (told : RxAnswer). IsAnswerTo c told)
answer_row trust state c (Ok told) is = (trust, state, is)
answer_row trust state c (Err fault) is = tt
