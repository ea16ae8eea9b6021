-- Which streams a tick goes by: the push streams of its clients, as the transmitter lists them (RFC 8935, section 2).
use Rattle.std.specs.Prelude.{◌≡◌, ℕ, List, [], ◌∷◌, Option, Result, Ok, Err, IsOk, ⊤, flat_map, filter, map}
use Rattle.std.specs.Cmp.Lexicographic.{slice_cmp}
use Rattle.std.specs.List.Sorted.{IsPermutation, IsSorted}
use Rattle.std.specs.Ordering.{nat_cmp}
use Rattle.sig_journal.specs.declared.node_fault.NodeFault.{NodeFault}
use Rattle.sig_journal.specs.declared.node_fault.NodeFault.TheVariants.{Memory}
use Rattle.sig_terms.specs.Deliveries.{is_push}
use Rattle.sig_terms.specs.declared.answer.Answer.{Answer}
use Rattle.sig_terms.specs.declared.answer.Answer.TheVariants.{Confs}
use Rattle.sig_terms.specs.declared.call.Call.TheVariants.{ReadAll}
use Rattle.sig_terms.specs.declared.configuration.StreamConf.{StreamConf}
use Rattle.sig_terms.specs.declared.rules.Client.{Client}
use Rattle.sig_txnode.specs.Told.{TakerTold}
use Rattle.sig_txnode.specs.declared.turn.Turn.{Turn}
use Rattle.sig_round.specs.Turns.{Adds, Asker, IsTurnOf}

-- the names of these clients
abbrev pub names_of : List Client → List (List ℕ)
names_of clients = map (λ (c : Client). c.name) clients

-- and in order
pub record AreNamesInOrder (clients : List Client) (names : List (List ℕ)) : Type 0 where
  pub all : IsPermutation (names_of clients) names
  pub sorted : IsSorted (slice_cmp nat_cmp) names

-- how a turn ends: well where it was answered, and else with its fault
abbrev pub ended : Result Answer NodeFault → Result ⊤ NodeFault
ended (Ok answer) = Ok tt
ended (Err fault) = Err fault

-- what follows a part that ended so: the next one, or nothing after a fault
abbrev pub After : Result ⊤ NodeFault → Type 0 → Type 0 → Type 0
After (Ok done) next stopped = next
After (Err fault) next stopped = stopped

-- each of these clients was asked for its streams, in a turn of its own, in order; a turn without an answer is the last
abbrev pub AreAsked : Asker → List (List ℕ) → List Turn → Result ⊤ NodeFault → Type 0
AreAsked by [] turns end = (turns ≡ []) × IsOk end
AreAsked by (c ∷ clients) [] end = end ≡ Err Memory
AreAsked by (c ∷ clients) (t ∷ turns) end =
    IsTurnOf by (ReadAll c) t × After (ended t.result) (AreAsked by clients turns end) ((turns ≡ []) × (end ≡ ended t.result))

-- and these turns stand in the log and are told by the taker
pub record Asked (by : Asker) (clients : List (List ℕ)) (turns turns' : List Turn) (told told' : Option TakerTold) (end : Result ⊤ NodeFault) : Type 0 where
  pub more : List Turn
  pub adds : Adds more turns turns' told told'
  pub asks : AreAsked by clients more end

-- the names of the push streams among these
abbrev pub pushes_of : List StreamConf → List (List ℕ)
pushes_of confs = map (λ (c : StreamConf). c.stream) (filter (λ (c : StreamConf). is_push c.delivery) confs)

-- those that an answer lists
abbrev pub pushes_in : Result Answer NodeFault → List (List ℕ)
pushes_in (Ok (Confs confs)) = pushes_of confs
pushes_in _ = []

-- those that turns list, in order
abbrev pub pushes_listed : List Turn → List (List ℕ)
pushes_listed turns = flat_map (λ (t : Turn). pushes_in t.result) turns
