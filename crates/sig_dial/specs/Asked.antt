-- A request over a link that is dialled for it, as the side counts and tells it.
use Rattle.std.specs.Prelude.{◌≡◌, ℕ, List, ◌++◌, Option, Some, None, Result, Ok, Err}
use Rattle.std.specs.Option.{option_to_list}
use Rattle.sig_outside.specs.Causes.{Raised}
use Rattle.sig_outside.specs.declared.place.Place.{Place}
use Rattle.sig_links.specs.Told.{LinkPlan, Sent}
use Rattle.sig_http.specs.declared.message.Response.{Response}
use Rattle.sig_dial.specs.Exchanged.{Decides}
use Rattle.sig_dial.specs.declared.fault.AskFault.{AskFault}
use Rattle.sig_dial.specs.declared.fault.AskFault.TheVariants.{Dial, Link, NoResponse, Memory}

-- these bytes begin the text
abbrev pub IsPrefix : List ℕ → List ℕ → Type 0
IsPrefix bytes text = (rest : List ℕ) × (text ≡ bytes ++ rest)

-- what was written to the link of a request that ended so
abbrev pub IsWritten : List ℕ → Result Response AskFault → List ℕ → Type 0
IsWritten text (Ok response) bytes = bytes ≡ text
IsWritten text (Err NoResponse) bytes = bytes ≡ text
IsWritten text (Err Link) bytes = IsPrefix bytes text
IsWritten text (Err Memory) bytes = IsPrefix bytes text
IsWritten text (Err Dial) bytes = ⊥

-- the link of a request to this place, once it was given back; there is none exactly where the dial failed
abbrev pub IsSent : Place → List ℕ → Result Response AskFault → Option Sent → Type 0
IsSent place text result None = result ≡ Err Dial
IsSent place text result (Some sent) = (sent.place ≡ Some (place.host, place.port)) × IsWritten text result sent.bytes

-- where a side tells which links were given back to it: they are more by the link of this request
abbrev pub Sends : Place → List ℕ → Option (List Sent) → Option (List Sent) → Result Response AskFault → Type 0
Sends place text None new result = new ≡ None
Sends place text (Some old) new result = (link : Option Sent) × (new ≡ Some (old ++ option_to_list link)) × IsSent place text result link

-- the link that a request took, and what its bytes decide; there is none exactly where the dial failed
abbrev pub IsHeard : Result Response AskFault → Option LinkPlan → Type 0
IsHeard result None = result ≡ Err Dial
IsHeard result (Some plan) = Decides plan.bytes result

-- where a side tells which links its dials will give: the first of them was taken for this request
abbrev pub Hears : Option (List LinkPlan) → Option (List LinkPlan) → Result Response AskFault → Type 0
Hears None new result = new ≡ None
Hears (Some old) new result =
    (link : Option LinkPlan) × (rest : List LinkPlan) × (old ≡ option_to_list link ++ rest) × (new ≡ Some rest) × IsHeard result link

-- the side's count is raised by one where the dial or the link failed, and any other answer leaves it
abbrev pub Counts : ℕ → ℕ → Result Response AskFault → Type 0
Counts before now (Ok response) = now ≡ before
Counts before now (Err Dial) = Raised before now
Counts before now (Err Link) = Raised before now
Counts before now (Err NoResponse) = now ≡ before
Counts before now (Err Memory) = now ≡ before
