-- What links, sides, doors and the outside tell of what they will give, of what they were given back, and of their counts.
use Rattle.std.specs.Prelude.{◌≡◌, ℕ, zero, suc, ◌+◌, ◌-◌, ◌^◌, ◌≤◌, min, List, [], ◌∷◌, ◌++◌, Bool, true, false, Option, Some, None, IfSome}
use Rattle.sig_links.specs.declared.accepted.Accepted.{Accepted}
use Rattle.sig_links.specs.declared.accepted.Accepted.TheVariants.{Link, Shut, Waited}

-- a link that will be given: the bytes that it gives, and whether one of its calls is to fail
pub record LinkPlan : Type 0 where
  pub bytes : List ℕ
  pub fails : Bool

-- a link that was given back to its side: the host and port that were dialled, and the bytes written to it
pub record Sent : Type 0 where
  pub place : Option (List ℕ × ℕ)
  pub bytes : List ℕ

-- a link that will come to a door, with what the side beside it tells
pub record Coming : Type 0 where
  pub link : LinkPlan
  pub ahead : Option (List LinkPlan)
  pub times : Option (List ℕ)

-- a link that was given back to its door: the bytes written to it, and what was sent by its side
pub record Served : Type 0 where
  pub bytes : List ℕ
  pub sent : List Sent

-- a side that will be handed out: the links of its dials, and its times
pub record SidePlan : Type 0 where
  pub ahead : List LinkPlan
  pub times : List ℕ

-- a side that was given back: the links and times that were left, and what was sent
pub record SideEnd : Type 0 where
  pub ahead : List LinkPlan
  pub times : List ℕ
  pub sent : List Sent

-- a door that was given back: where it listened, the links that were left, and those that were served
pub record DoorEnd : Type 0 where
  pub place : Option (List ℕ × ℕ)
  pub coming : List Coming
  pub served : List Served

-- these, where the parts of each are told
abbrev pub sent_of : Option (List ℕ × ℕ) → Option (List ℕ) → Option Sent
sent_of place None = None
sent_of place (Some bytes) = Some (record { place = place; bytes = bytes })

abbrev pub served_of : Option (List ℕ) → Option (List Sent) → Option Served
served_of None sent = None
served_of (Some bytes) None = None
served_of (Some bytes) (Some sent) = Some (record { bytes = bytes; sent = sent })

abbrev pub side_end : Option (List LinkPlan) → Option (List ℕ) → Option (List Sent) → Option SideEnd
side_end None times sent = None
side_end (Some ahead) None sent = None
side_end (Some ahead) (Some times) None = None
side_end (Some ahead) (Some times) (Some sent) = Some (record { ahead = ahead; times = times; sent = sent })

abbrev pub door_end : Option (List ℕ × ℕ) → Option (List Coming) → Option (List Served) → Option DoorEnd
door_end place None served = None
door_end place (Some coming) None = None
door_end place (Some coming) (Some served) = Some (record { place = place; coming = coming; served = served })

-- the bytes of a store that tells them
abbrev pub stored : Bool → List ℕ → Option (List ℕ)
stored true seen = Some seen
stored false seen = None

-- a told list with this last; it is told no longer where this isn't told
abbrev pub with_last : {T : Type 0} → Option (List T) → Option T → Option (List T)
with_last None last = None
with_last (Some list) None = None
with_last (Some list) (Some last) = Some (list ++ (last ∷ []))

-- where it is told what comes back, one more is out
abbrev pub Lends : {T : Type 0} → Option (List T) → ℕ → ℕ → Type 0
Lends None before now = Unit {0}
Lends (Some back) before now = now ≡ before + 1

-- where it is told what comes back, this came back last; with none out it isn't kept
abbrev pub TakesBack : {T : Type 0} → Option (List T) → Option (List T) → ℕ → ℕ → Option T → Type 0
TakesBack None new before now last = new ≡ None
TakesBack (Some back) new zero now last = (new ≡ Some back) × (now ≡ 0)
TakesBack (Some back) new (suc before) now last = (new ≡ with_last (Some back) last) × (now ≡ before)

-- where it is told what comes back, what is handed out begins with nothing; else it does where it tells so much
abbrev pub Begins : {T U : Type 0} → Option (List T) → Option (List U) → Type 0
Begins None written = IfSome written (λ list. list ≡ [])
Begins (Some back) written = written ≡ Some []

-- a dial gave the next of the links that are told
abbrev pub DialsNext : Option (List LinkPlan) → Option (List LinkPlan) → LinkPlan → Option (List ℕ) → Type 0
DialsNext None new plan left = new ≡ None
DialsNext (Some []) new plan left = ⊥
DialsNext (Some (next ∷ later)) new plan left = (new ≡ Some later) × (plan ≡ next) × (left ≡ Some next.bytes)

-- the first of the times, 0 where there is none
abbrev pub first_time : List ℕ → ℕ
first_time [] = 0
first_time (time ∷ later) = time

-- the times after it: the last one stays
abbrev pub later_times : List ℕ → List ℕ
later_times [] = []
later_times (time ∷ []) = time ∷ []
later_times (time ∷ next ∷ later) = next ∷ later

-- the times after so many, and the time after so many
abbrev pub times_after : ℕ → List ℕ → List ℕ
times_after zero times = times
times_after (suc n) times = times_after n (later_times times)

abbrev pub time_after : ℕ → List ℕ → ℕ
time_after n times = first_time (times_after n times)

-- this is the next of the times that are told
abbrev pub GivesTime : Option (List ℕ) → Option (List ℕ) → ℕ → Type 0
GivesTime None new time = new ≡ None
GivesTime (Some times) new time = (new ≡ Some (later_times times)) × (time ≡ first_time times)

-- a door gave the next of the links that are told, with its side
abbrev pub AcceptsNext : Option (List Coming) → Option (List Coming) → LinkPlan → Option (List ℕ) → Option (List LinkPlan) → Option (List ℕ) → Type 0
AcceptsNext None new plan left ahead times = new ≡ None
AcceptsNext (Some []) new plan left ahead times = ⊥
AcceptsNext (Some (next ∷ later)) new plan left ahead times =
    (new ≡ Some later) × (plan ≡ next.link) × (left ≡ Some next.link.bytes) × (ahead ≡ next.ahead) × (times ≡ next.times)

-- where the links are told, none will come
abbrev pub IsShut : {T : Type 0} → Option (List T) → Type 0
IsShut coming = IfSome coming (λ list. list ≡ [])

-- this holds of the link and its side, where an accept gave them
abbrev pub IfLink : {L S : Type 0} → Accepted L S → (L → S → Type 0) → Type 0
IfLink (Link link side) holds = holds link side
IfLink Shut holds = Unit {0}
IfLink (Waited lacking) holds = Unit {0}

-- this holds where an accept said that none will come
abbrev pub IfShut : {L S : Type 0} → Accepted L S → Type 0 → Type 0
IfShut (Link link side) holds = Unit {0}
IfShut Shut holds = holds
IfShut (Waited lacking) holds = Unit {0}

-- this holds where no link came in the time that an accept waits
abbrev pub IfWaited : {L S : Type 0} → Accepted L S → Type 0 → Type 0
IfWaited (Link link side) holds = Unit {0}
IfWaited Shut holds = Unit {0}
IfWaited (Waited lacking) holds = holds

-- the next of the doors that are told was handed out
abbrev pub OpensNext : Option (List (List Coming)) → Option (List (List Coming)) → Option (List Coming) → Type 0
OpensNext None new coming = new ≡ None
OpensNext (Some []) new coming = ⊥
OpensNext (Some (next ∷ later)) new coming = (new ≡ Some later) × (coming ≡ Some next)

-- the next of the sides that are told was handed out; after the last one has no links and no times
abbrev pub HandsNext : Option (List SidePlan) → Option (List SidePlan) → Option (List LinkPlan) → Option (List ℕ) → Type 0
HandsNext None new ahead times = new ≡ None
HandsNext (Some []) new ahead times = (new ≡ Some []) × (ahead ≡ Some []) × (times ≡ Some [])
HandsNext (Some (next ∷ later)) new ahead times = (new ≡ Some later) × (ahead ≡ Some next.ahead) × (times ≡ Some next.times)

-- where it is told what comes back, one more side is out; one after the last that is told isn't kept
abbrev pub LendsSide : Option (List SidePlan) → Option (List SideEnd) → ℕ → ℕ → Type 0
LendsSide (Some []) back before now = now ≡ before
LendsSide (Some (next ∷ later)) back before now = Lends back before now
LendsSide None back before now = Lends back before now

-- what was told by name is told as before, but of this name
abbrev pub KeepsOthers : {T : Type 0} → List ℕ → (List ℕ → T) → (List ℕ → T) → Type 0
KeepsOthers name before now = (other : List ℕ) → (other ≡ name → ⊥) → now other ≡ before other

-- what was told by name is told as before
abbrev pub KeepsTold : (List ℕ → Option (List ℕ)) → (List ℕ → Option (List ℕ)) → Type 0
KeepsTold before now = (name : List ℕ) → IfSome (before name) (λ bytes. now name ≡ Some bytes)

-- the faults that something met were added to a count; it stands at its type's end
abbrev pub Gathers : ℕ → ℕ → ℕ → Type 0
Gathers before now met = (before ≤ now) × (now ≡ min (before + met) (2 ^ 64 - 1))
