-- How a watch ends, and what it gives back.
use Rattle.std.specs.Prelude.{◌≡◌, ◌⊎◌, ℕ, List, Bool, true, false, All, Contains, Option, Some, None, length}
use Rattle.sig_desk.specs.Keeping.{Differed}
use Rattle.sig_desk.specs.Settling.{IsLeft}
use Rattle.sig_desk.specs.Views.{DeskView}
use Rattle.sig_logs.specs.Logs.{HasTurns}
use Rattle.sig_logs.specs.declared.difference.Differ.{Differ}
use Rattle.sig_logs.specs.declared.difference.Differ.TheVariants.{Turn}
use Rattle.sig_links.specs.Views.{DoorView}
use Rattle.sig_serving.specs.Stops.{is_shut}
use Rattle.sig_serving.specs.declared.stop.Stop.{Stop}
use Rattle.sig_serving.specs.declared.stop.Stop.TheVariants as stops
use Rattle.sig_watch.specs.Attending.{Attends}
use Rattle.sig_watch.specs.Sights.{Sight}
use Rattle.sig_watch.specs.declared.report.Report.{Report}
use Rattle.sig_watch.specs.declared.report.WatchEnd.{WatchEnd}
use Rattle.sig_watch.specs.declared.report.WatchEnd.TheVariants.{Done, DoorFault, Broken, Halted, Disagree, Memory}

-- this holds of the node that is handed back and of the report, where there is one
abbrev pub IfReport : {N : Type 0} → WatchEnd N → (N → Report → Type 0) → Type 0
IfReport (Done node report) holds = holds node report
IfReport (DoorFault node report) holds = holds node report
IfReport (Broken node report) holds = holds node report
IfReport (Halted node report) holds = holds node report
IfReport (Disagree node differ report) holds = holds node report
IfReport (Memory node) holds = Unit {0}

-- the end by why no further link was accepted, by what differs, if anything, and by whether the node is broken
abbrev pub EndsBy : {N : Type 0} → (N → Bool) → Stop → Option Differ → WatchEnd N → Type 0
EndsBy broken stop differs (Done node report) = (differs ≡ None) × (broken node ≡ false) × ((stop ≡ stops.Spent) ⊎ (stop ≡ stops.Shut))
EndsBy broken stop differs (DoorFault node report) = (differs ≡ None) × (broken node ≡ false) × (stop ≡ stops.Failed)
EndsBy broken stop differs (Broken node report) = (differs ≡ None) × (broken node ≡ true)
EndsBy broken stop differs (Halted node report) = (differs ≡ None) × (broken node ≡ false) × (stop ≡ stops.Halted)
EndsBy broken stop differs (Disagree node differ report) = differs ≡ Some differ
EndsBy broken stop differs (Memory node) = ⊥

-- a desk whose history has these logs tells that this differs from the turns of the node, or it has a turn left
pub record DeskTells {G T : Type 0} (link_of : T → ℕ) (number_of : G → ℕ) (turns_of : G → List T) (logs : List G) (turns : List T) (link place : ℕ) : Type 0 where
  pub desk : DeskView G T
  pub has : All (λ (log : G). Contains desk.logs log) logs
  pub differs : ∥ Differed link_of number_of turns_of desk turns (Turn link place) ∥₁ ⊎ IsLeft link_of desk link place

-- the logs and the turns differ here; at the place 0 they could not be compared
abbrev pub Differs : {G T : Type 0} → (T → ℕ) → (G → ℕ) → (G → List T) → List G → List T → Differ → Type 0
Differs link_of number_of turns_of logs turns (Turn link place) = (place ≡ 0) ⊎ DeskTells link_of number_of turns_of logs turns link place

-- the logs have the node's turns where nothing differs, and what is told differs
abbrev pub Compares : {G T : Type 0} → (T → ℕ) → (G → ℕ) → (G → List T) → List G → List T → Option Differ → Type 0
Compares link_of number_of turns_of logs turns None = HasTurns link_of number_of turns_of logs turns
Compares link_of number_of turns_of logs turns (Some differ) = Differs link_of number_of turns_of logs turns differ

-- the links of these logs came to the door, were served so and went back; and why there are no more, and the comparison of the logs
-- with the node's turns, decide the end
pub record WhyEnded {N G T : Type 0} (link_of : T → ℕ) (number_of : G → ℕ) (turns_of : G → List T) (kept : N → List T) (broken : N → Bool)
    (serves : ℕ → G → Sight → Sight → Type 0) (node : N) (report : Report) (end : WatchEnd N) (old new : DoorView) : Type 0 where
  pub logs : List G
  pub stop : Stop
  pub attends : Attends serves stop logs old new
  pub links : report.links ≡ length logs
  pub shut : report.shut ≡ is_shut stop
  pub differs : Option Differ
  pub compares : Compares link_of number_of turns_of logs (kept node) differs
  pub ends : EndsBy broken stop differs end

-- out of memory: the node and the door are as they were
abbrev pub HandsBack : {N A : Type 0} → N → A → A → WatchEnd N → Type 0
HandsBack old door door' (Done node report) = Unit {0}
HandsBack old door door' (DoorFault node report) = Unit {0}
HandsBack old door door' (Broken node report) = Unit {0}
HandsBack old door door' (Halted node report) = Unit {0}
HandsBack old door door' (Disagree node differ report) = Unit {0}
HandsBack old door door' (Memory node) = (node ≡ old) × (door' ≡ door)

-- there is a report
abbrev pub IsReported : {N : Type 0} → WatchEnd N → Type 0
IsReported (Done node report) = Unit {0}
IsReported (DoorFault node report) = Unit {0}
IsReported (Broken node report) = Unit {0}
IsReported (Halted node report) = Unit {0}
IsReported (Disagree node differ report) = Unit {0}
IsReported (Memory node) = ⊥
