-- The nodes of a replay, and what becomes of calls at them.
use Rattle.std.specs.Prelude.{◌≡◌, ℕ, List, [], Bool, Option, None, IfSome, IsSomeAnd, Ok, Err}
use Rattle.sig_subject.specs.declared.subject.Subject.{Subject}
use Rattle.sig_set.specs.Written.{token_text}
use Rattle.sig_terms.specs.declared.answer.Answer.{Answer}
use Rattle.sig_terms.specs.declared.call.Call.{Call}
use Rattle.sig_terms.specs.declared.fact.Fact.{Fact}
use Rattle.sig_terms.specs.declared.token.Token.{Token}
use Rattle.sig_command.specs.declared.stop.Stop.TheVariants as stop
use Rattle.sig_command.specs.declared.stop.TellFault.{TellFault}
use Rattle.sig_command.specs.declared.stop.TellFault.TheVariants as tell
use Rattle.sig_outside.specs.KeptDisk.{Kept}
use Rattle.sig_journal.specs.declared.node_fault.NodeFault.{NodeFault}
use Rattle.sig_journal.specs.declared.node_fault.NodeFault.TheVariants as node
use Rattle.sig_txnode.specs.Node as sends
use Rattle.sig_rxnode.specs.Node as hears
use Rattle.sig_rxnode.specs.declared.answer.RxAnswer.{RxAnswer}
use Rattle.sig_rxnode.specs.declared.call.RxCall.{RxCall}
use Rattle.sig_rxnode.specs.declared.rules.RxRules.{RxRules}
use Rattle.sig_nodes.specs.Receiving.{RxAt, RxHalted, RxPasses}
use Rattle.sig_nodes.specs.Sending.{TxAt, TxHalted, tx_told}
use Rattle.sig_nodes.specs.declared.halted.Halted.{Halted}
use Rattle.sig_schedules.specs.Replay.{receiver_store, replay_rules, replay_store, replay_trust}

-- what a fault of a node ends a replay with
abbrev pub fault_told : NodeFault → TellFault
fault_told node.Store = tell.Memory
fault_told (node.Full n) = tell.Stopped (stop.Full n)
fault_told node.Memory = tell.Memory

-- ---- the transmitter

-- where it is there, it holds these facts
abbrev pub TxIn : Option (sends.NodeView Kept) → List Fact → Type 0
TxIn tx facts = IfSome tx (λ n. TxAt replay_rules replay_store n facts)

-- a call stops a replay, by the number that it would need
abbrev pub IsFullTx : List Fact → Call → ℕ → TellFault → Type 0
IsFullTx facts c now (tell.Stopped (stop.Full n)) = tx_told replay_rules replay_store facts c now ≡ Err (node.Full n)
IsFullTx facts c now (tell.Stopped (stop.Line n)) = ⊥
IsFullTx facts c now tell.Memory = Unit {0}

-- what became of a call while its disk stood still
abbrev pub TxHaltedIn : List Fact → Call → ℕ → Bool → Option (sends.NodeView Kept) → Halted Answer → Type 0
TxHaltedIn facts c now keeps tx halted = IsSomeAnd tx (λ n. TxHalted replay_rules replay_store facts c now keeps n halted)

-- ---- the receiver

-- its settings: nobody pushes to it, and nobody is polled
abbrev pub receiver_rules : RxRules
receiver_rules = record { trust = replay_trust; principals = []; reader = []; peer = None }

-- where it is there, it holds these texts
abbrev pub RxIn : Option (hears.NodeView Kept) → List (List ℕ) → Type 0
RxIn rx texts = IfSome rx (λ n. RxAt receiver_rules receiver_store n texts)

-- a call stops a replay, by the place where its journal would end
abbrev pub IsFullRx : List (List ℕ) → RxCall → TellFault → Type 0
IsFullRx texts c (tell.Stopped (stop.Full n)) = RxPasses receiver_rules receiver_store texts c n
IsFullRx texts c (tell.Stopped (stop.Line n)) = ⊥
IsFullRx texts c tell.Memory = Unit {0}

-- what became of a call while its disk stood still
abbrev pub RxHaltedIn : List (List ℕ) → RxCall → Bool → Option (hears.NodeView Kept) → Halted RxAnswer → Type 0
RxHaltedIn texts c keeps rx halted = IsSomeAnd rx (λ n. RxHalted receiver_rules receiver_store texts c keeps n halted)
