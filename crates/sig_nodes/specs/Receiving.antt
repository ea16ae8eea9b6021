-- A receiver's node over a store in memory: what it holds, and what becomes of a call while its disk stands still.
use Rattle.std.specs.Prelude.{◌≡◌, ℕ, List, [], ◌∷◌, ◌++◌, ◌≤◌, ◌<◌, ◌+◌, length, Bool, false, Option, Some, None, Result, Ok, Err}
use Rattle.sig_json.specs.declared.limits.TheConstants.{LAST_NUMBER}
use Rattle.sig_entry.specs.Tokens.{token_spelling}
use Rattle.sig_receiver.specs.Receiver.{Received, nothing, received_of}
use Rattle.sig_journal.specs.declared.kind.Kind.TheVariants.{Rx}
use Rattle.sig_journal.specs.Store.{pick, tells}
use Rattle.sig_outside.specs.KeptDisk.{Kept}
use Rattle.sig_journal.specs.Taking.{loaded}
use Rattle.sig_still.specs.Still.{is_short, rest}
use Rattle.sig_still.specs.Stores.{HoldsStore, end_at, store_of, with_kept}
use Rattle.sig_rxnode.specs.declared.answer.RxAnswer.{RxAnswer}
use Rattle.sig_rxnode.specs.declared.call.RxCall.{RxCall}
use Rattle.sig_rxnode.specs.declared.rules.RxRules.{RxRules}
use Rattle.sig_rxnode.specs.Answers.{answer_of, change_of}
use Rattle.sig_rxnode.specs.Node.{NodeView}
use Rattle.sig_rxnode.specs.Records.{receiving}
use Rattle.sig_nodes.specs.Records.{token_records}
use Rattle.sig_nodes.specs.declared.halted.Halted.{Halted}
use Rattle.sig_nodes.specs.declared.halted.Halted.TheVariants.{Answered, Crashed}

-- what is kept of these texts
abbrev pub kept_of : List (List ℕ) → Received
kept_of texts = received_of nothing texts

-- it holds these texts, and stands for what is kept of them
pub record RxAt (rules : RxRules) (name : List ℕ) (node : NodeView Kept) (texts : List (List ℕ)) : Type 0 where
  pub rules_are : node.rules ≡ rules
  pub state : node.kept.state ≡ kept_of texts
  pub count : length node.kept.entries ≡ length texts
  pub kind : node.kept.store.journal.kind ≡ Rx
  pub holds : HoldsStore name (token_records texts) node.kept.store
  pub loads : loaded receiving (Ok (store_of name (token_records texts))) ≡ Ok (kept_of texts)

-- what a crash leaves of it holds these texts, and stands for what is kept of them
pub record RxRests (name : List ℕ) (node : NodeView Kept) (texts : List (List ℕ)) : Type 0 where
  pub told : tells Rx (rest (pick node.kept.store.journal.in_b node.kept.store.journal.written node.kept.store.journal.other)) (rest (pick node.kept.store.journal.in_b node.kept.store.journal.other node.kept.store.journal.written)) ≡ Ok (store_of name (token_records texts))
  pub loads : loaded receiving (Ok (store_of name (token_records texts))) ≡ Ok (kept_of texts)

-- how a call is answered over these texts, and which texts it adds: one or none
abbrev pub rx_told : RxRules → List (List ℕ) → RxCall → RxAnswer
rx_told rules texts c = answer_of rules.trust (kept_of texts) c

abbrev pub rx_change : RxRules → List (List ℕ) → RxCall → List (List ℕ)
rx_change rules texts c = change_of rules.trust (kept_of texts) c

-- where the journal ends with the text too
abbrev pub rx_end : List ℕ → List (List ℕ) → List ℕ → ℕ
rx_end name texts text = end_at name (token_records texts) + 5 + length (token_spelling text)

-- a call adds this text, and the journal would end past the last number, at this place
pub record RxPasses (rules : RxRules) (name : List ℕ) (texts : List (List ℕ)) (c : RxCall) (n : ℕ) : Type 0 where
  pub text : List ℕ
  pub change : rx_change rules texts c ≡ text ∷ []
  pub place : n ≡ rx_end name texts text
  pub past : LAST_NUMBER < n

-- where a call adds a text, there is room for it
abbrev pub RxRoom : RxRules → List ℕ → List (List ℕ) → RxCall → Type 0
RxRoom rules name texts c = (text : List ℕ) → rx_change rules texts c ≡ text ∷ [] → rx_end name texts text ≤ LAST_NUMBER

-- a call adds a text, for which there is room
pub record MakesText (rules : RxRules) (name : List ℕ) (texts : List (List ℕ)) (c : RxCall) : Type 0 where
  pub text : List ℕ
  pub change : rx_change rules texts c ≡ text ∷ []
  pub room : rx_end name texts text ≤ LAST_NUMBER

-- what became of it: it adds no text, and is answered; or the node was loaded from what its disk rested with, with the text or without it
abbrev pub RxHalted : RxRules → List ℕ → List (List ℕ) → RxCall → Bool → NodeView Kept → Halted RxAnswer → Type 0
RxHalted rules name texts c keeps node (Answered answer) =
    (rx_change rules texts c ≡ []) × (rx_told rules texts c ≡ answer) × RxAt rules name node texts
RxHalted rules name texts c keeps node (Crashed kept) =
    (makes : MakesText rules name texts c) × (kept ≡ keeps) × RxAt rules name node (with_kept keeps texts makes.text)

-- a call was made while the disk stood still: it adds no text, and is answered; or what a crash now leaves has the text or doesn't, unless the disk got short of memory
abbrev pub RxTaken : RxRules → List ℕ → List (List ℕ) → RxCall → Bool → NodeView Kept → Option RxAnswer → Type 0
RxTaken rules name texts c keeps node (Some answer) =
    (rx_change rules texts c ≡ []) × (rx_told rules texts c ≡ answer) × RxAt rules name node texts
RxTaken rules name texts c keeps node None =
    (makes : MakesText rules name texts c) × (is_short node.kept.store.journal.written ≡ false → RxRests name node (with_kept keeps texts makes.text))
