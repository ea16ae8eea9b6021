-- What happens in a watch, one event after the other: links come and errands are begun, and each goes back once it was served, in
-- whatever order they end. An errand is counted and open as a link is, and has nothing of the door.
use Rattle.std.specs.Prelude.{◌≡◌, ℕ, ◌+◌, ◌≤◌, List, [], ◌∷◌, ◌++◌, length}
use Rattle.sig_json.specs.declared.limits.TheConstants.{LINKS_AT_ONCE}
use Rattle.sig_links.specs.Views.{DoorView}
use Rattle.sig_watch.specs.Accepting.{Gives}
use Rattle.sig_watch.specs.Returning.{IsBack}
use Rattle.sig_watch.specs.Sights.{IfErrand, Sight, with_link}

-- a link or an errand that is open: its number, and what was seen of it as it came
pub record OpenLink : Type 0 where
  pub number : ℕ
  pub came : Sight

abbrev pub open_link : ℕ → Sight → OpenLink
open_link number came = record { number = number; came = came }

-- a watch at one moment: its door, how many links came so far, and those that are open, in the order in which they came
pub record Moment : Type 0 where
  pub door : DoorView
  pub count : ℕ
  pub live : List OpenLink

abbrev pub moment : DoorView → ℕ → List OpenLink → Moment
moment door count live = record { door = door; count = count; live = live }

-- this is one of the first list, and the second is the others, in order
abbrev pub IsWithout : List OpenLink → OpenLink → List OpenLink → Type 0
IsWithout all one others = (first : List OpenLink) × (last : List OpenLink) × (all ≡ first ++ one ∷ last) × (others ≡ first ++ last)

-- the door gave this link; or this is an errand, and the door is as it was
abbrev pub Comes : DoorView → DoorView → Sight → Type 0
Comes old new came = IfErrand came.is_errand (new ≡ old) (Gives old new came)

-- it is what came, a link or an errand; and the door took the link back, or is as it was
abbrev pub Leaves : Sight → Sight → DoorView → DoorView → Type 0
Leaves came left old new = (left.is_errand ≡ came.is_errand) × IfErrand left.is_errand (new ≡ old) (IsBack left old new)

-- a link or an errand came; or one that was open went back, with this log, and with this seen of it
pub data Event (G : Type 0) : Type 0 where
  Came : Sight → Event G
  Went : OpenLink → G → Sight → Event G

-- what came is open under the next number, and no more are open than may be at once; one that went back was served under its
-- number and is open no more
abbrev pub Happens : {G : Type 0} → (ℕ → G → Sight → Sight → Type 0) → Event G → Moment → Moment → Type 0
Happens serves (Came sight) old new =
    Comes old.door new.door sight × (new.count ≡ old.count + 1) × (new.live ≡ old.live ++ open_link new.count sight ∷ []) × (length new.live ≤ LINKS_AT_ONCE)
Happens serves (Went one log left) old new =
    Leaves one.came left old.door new.door × serves one.number log one.came left × (new.count ≡ old.count) × IsWithout old.live one new.live

-- these, in order
abbrev pub Runs : {G : Type 0} → (ℕ → G → Sight → Sight → Type 0) → List (Event G) → Moment → Moment → Type 0
Runs serves [] old new = new ≡ old
Runs serves (event ∷ later) old new = (between : Moment) × Happens serves event old between × Runs serves later between new

-- the logs of all that went back, and what was seen of each link among them, in the order in which they went
abbrev pub logs_of : {G : Type 0} → List (Event G) → List G
logs_of [] = []
logs_of (Came sight ∷ later) = logs_of later
logs_of (Went one log left ∷ later) = log ∷ logs_of later

abbrev pub left_of : {G : Type 0} → List (Event G) → List Sight
left_of [] = []
left_of (Came sight ∷ later) = left_of later
left_of (Went one log left ∷ later) = with_link left.is_errand left (left_of later)
