-- Which streams may owe tokens still after rounds of pushes (RFC 8935, section 2).
use Rattle.std.specs.Prelude.{◌&&◌, ℕ, nat_lt, List, [], ◌∷◌, ◌++◌, length, take, Bool, false, Result, Ok, if◌then◌else◌}
use Rattle.sig_journal.specs.declared.node_fault.NodeFault.{NodeFault}
use Rattle.sig_json.specs.declared.limits.TheConstants.{TOKENS_PER_PAGE}
use Rattle.sig_terms.specs.declared.answer.Answer.{Answer}
use Rattle.sig_terms.specs.declared.answer.Answer.TheVariants.{Handed}
use Rattle.sig_terms.specs.declared.call.Call.{Call}
use Rattle.sig_terms.specs.declared.call.Call.TheVariants.{Hand}
use Rattle.sig_txnode.specs.declared.turn.Turn.{Turn}
use Rattle.sig_tick.specs.Bringing.{are_settled}

-- a Hand turn that was answered so handed fewer tokens than a page, and the turns that came after it settled each of them
abbrev pub is_done : Result Answer NodeFault → List Turn → Bool
is_done (Ok (Handed tokens)) later = nat_lt (length tokens) TOKENS_PER_PAGE && are_settled (length tokens) (take (length tokens) later)
is_done result later = false

-- the streams of a turn, where it is a Hand turn, unless it is done
abbrev pub owing_in : Call → Result Answer NodeFault → List Turn → List (List ℕ)
owing_in (Hand streams) result later = if is_done result later then [] else streams
owing_in call result later = []

abbrev pub owing_after : List Turn → List (List ℕ)
owing_after [] = []
owing_after (turn ∷ later) = owing_in turn.call turn.result later ++ owing_after later
