-- A reader goes by the rules of its table one after the other.
use Rattle.std.proofs.Common.{◌≡◌, List, ◌∷◌}
use Rattle.std.specs.Prelude.{Result, Ok, Err}
use Rattle.serde_json.specs.Data.{Data}
use Rattle.sig_json.specs.Answers.{Answers}
use Rattle.sig_json.specs.Checks.{first_failing, decided}
use Rattle.sig_json.specs.Members.{Rule, member_checks, payload_checks}
use Rattle.sig_json.specs.declared.members.PayloadFault.{PayloadFault}
use Rattle.sig_json.specs.declared.members.PayloadFault.TheVariants as fault
use Rattle.sig_json.proofs.Decided.{first_fault, behind, rest}

-- the first member has a fault
pub stops_at : {T U : Type 0} (r : Rule) (rs : List Rule) (v : Data) (x : T) (y : U) (result : Result U PayloadFault) (e : PayloadFault) → result ≡ Err e → Answers {T = T} fault.Memory (Err e) (decided (first_failing (member_checks v r)) x) → Answers fault.Memory result (decided (first_failing (payload_checks (r ∷ rs) v)) y)
stops_at r rs v x y result e is told = first_fault fault.Memory (member_checks v r) (payload_checks rs v) x y result e is told

-- the first member was read, and the rest decides
pub goes_on : {T U : Type 0} (r : Rule) (rs : List Rule) (v : Data) (x a : T) (y : U) (result : Result U PayloadFault) → decided (first_failing (member_checks v r)) x ≡ Ok a → Answers fault.Memory result (decided (first_failing (payload_checks rs v)) y) → Answers fault.Memory result (decided (first_failing (payload_checks (r ∷ rs) v)) y)
goes_on r rs v x a y result h told = behind fault.Memory (member_checks v r) (payload_checks rs v) x a y result h told

-- likewise, where a value is answered
pub ends_with : {T U : Type 0} (r : Rule) (rs : List Rule) (v : Data) (x a : T) (y : U) → decided (first_failing (member_checks v r)) x ≡ Ok a → decided (first_failing (payload_checks (r ∷ rs) v)) y ≡ decided (first_failing (payload_checks rs v)) y
ends_with r rs v x a y h = rest (member_checks v r) (payload_checks rs v) x a y h
