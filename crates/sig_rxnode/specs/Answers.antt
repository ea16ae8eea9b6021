-- What the receiver answers to a call over what is kept, and which token text it journals.
use Rattle.std.specs.Prelude.{◌≡◌, ℕ, ◌≤◌, List, [], Option, take, drop, length}
use Rattle.sig_json.specs.declared.limits.TheConstants.{ROWS_PER_PAGE}
use Rattle.sig_sessions.specs.Verdicts.{verdict_of}
use Rattle.sig_set.specs.declared.trust.Trust.{Trust}
use Rattle.sig_receiver.specs.declared.heard.Heard.{Heard}
use Rattle.sig_receiver.specs.declared.heard.Heard.TheVariants as heard
use Rattle.sig_receiver.specs.Journal.{journal_by}
use Rattle.sig_receiver.specs.Receiver.{Received, heard_at}
use Rattle.sig_rxnode.specs.declared.answer.RxAnswer.{RxAnswer}
use Rattle.sig_rxnode.specs.declared.answer.RxAnswer.TheVariants as answer
use Rattle.sig_rxnode.specs.declared.call.RxCall.{RxCall}
use Rattle.sig_rxnode.specs.declared.call.RxCall.TheVariants as call

-- the answer to a token, as the receiver heard it
abbrev pub heard_answer : Heard → RxAnswer
heard_answer heard.Accepted = answer.Accepted
heard_answer heard.Seen = answer.Seen
heard_answer (heard.NotTaken code spot) = answer.Refused code spot

-- the answer to a call: a token by its judgement and the pairs that are known, a verdict and a page of rows by the session table,
-- and figures by how many pairs and rows there are
abbrev pub answer_of : Trust → Received → RxCall → RxAnswer
answer_of trust state (call.Token principal named bytes) = heard_answer (heard_at trust principal named state bytes)
answer_of trust state (call.Verdict subject) = answer.Verdict (verdict_of state.rows subject)
answer_of trust state (call.Rows from) = answer.Rows (take ROWS_PER_PAGE (drop from state.rows))
answer_of trust state call.Figures = answer.Figures (length state.pairs) (length state.rows)

-- an answer that the table gives to this call, by some settings and over something that is kept
abbrev pub IsAnswerTo : RxCall → RxAnswer → Type 0
IsAnswerTo call answer = (trust : Trust) × (state : Received) × (answer ≡ answer_of trust state call)

-- a page has at most so many rows
abbrev pub FitsPage : RxAnswer → Type 0
FitsPage answer.Accepted = Unit {0}
FitsPage answer.Seen = Unit {0}
FitsPage (answer.Refused code spot) = Unit {0}
FitsPage (answer.Verdict verdict) = Unit {0}
FitsPage (answer.Rows rows) = length rows ≤ ROWS_PER_PAGE
FitsPage (answer.Figures tokens rows) = Unit {0}

-- the token text that is added to the journal where a token is valid and new, by trust, principal, name and what is kept, or none
abbrev pub heard_texts : Trust → Option (List ℕ) → Option (List ℕ) → Received → List ℕ → List (List ℕ)
heard_texts trust principal named state text = journal_by (heard_at trust principal named state text) [] text

-- the token texts that a call adds to the journal: that of a token which is valid and new, or none
abbrev pub change_of : Trust → Received → RxCall → List (List ℕ)
change_of trust state (call.Token principal named bytes) = heard_texts trust principal named state bytes
change_of trust state (call.Verdict subject) = []
change_of trust state (call.Rows from) = []
change_of trust state call.Figures = []
