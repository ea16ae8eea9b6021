-- The requests that are asked one after another, and how they are answered.
use Rattle.std.specs.Prelude.{◌≡◌, ◌⊎◌, List, [], ◌∷◌, ◌++◌, filter_map, Option, Some, None, IsOk, IsSomeAnd, Result, Ok, Err, codes, ⊤}
use Rattle.std.specs.Option.{option_to_list}
use Rattle.sig_json.specs.Answers.{Answers}
use Rattle.sig_links.specs.Told.{LinkPlan, Sent}
use Rattle.sig_http.specs.declared.message.Request.{Request}
use Rattle.sig_http.specs.declared.message.Response.{Response}
use Rattle.sig_dial.specs.Asked.{IsHeard, IsSent}
use Rattle.sig_dial.specs.declared.fault.AskFault.{AskFault}
use Rattle.sig_dial.specs.declared.fault.AskFault.TheVariants as asked
use Rattle.sig_declared.specs.declared.provider.Provider.{Provider}
use Rattle.sig_manager.specs.Exchange.{Managed, heard, next_of, step_of}
use Rattle.sig_manager.specs.declared.fault.ManageFault.{ManageFault}
use Rattle.sig_manager.specs.declared.fault.ManageFault.TheVariants as manage
use Rattle.sig_manager.specs.declared.step.Step.{Step}
use Rattle.sig_managing.specs.Asks.{place_of, request_text}
use Rattle.sig_managing.specs.declared.fault.DriveFault.{DriveFault}
use Rattle.sig_managing.specs.declared.fault.DriveFault.TheVariants.{Dial, Link, Peer, Output, Memory}

-- what was asked, how it was answered, what that came to, and the step that was done by it: none where no step was asked, or its
-- response wasn't taken
pub record Exchange : Type 0 where
  pub request : Request
  pub answer : Result Response AskFault
  pub taken : Result Managed DriveFault
  pub done : Option Step

-- the steps that were done, in order
abbrev pub done_in : List Exchange → List Step
done_in exchanges = filter_map (λ (e : Exchange). e.done) exchanges

-- ---- what an answer comes to

abbrev pub taken_by : Result Managed ManageFault → Result Managed DriveFault
taken_by (Ok after) = Ok after
taken_by (Err (manage.Peer place)) = Err (Peer place)
taken_by (Err manage.Memory) = Err Memory

-- it is what is left to ask after a response, or why that can't be used, or that there is none; memory may run out while a
-- response is taken
abbrev pub IsTaken : Managed → Result Response AskFault → Result Managed DriveFault → Type 0
IsTaken m (Ok response) result = Answers Memory result (taken_by (heard m response))
IsTaken m (Err asked.NoResponse) result = Answers Memory result (Err (Peer (codes "http")))
IsTaken m (Err asked.Dial) result = result ≡ Err Dial
IsTaken m (Err asked.Link) result = result ≡ Err Link
IsTaken m (Err asked.Memory) result = result ≡ Err Memory

-- what is left to ask then: as before where the answer wasn't taken
abbrev pub left_after : Managed → Result Managed DriveFault → Managed
left_after m (Ok later) = later
left_after m (Err fault) = m

-- ---- one after another

-- it ended there
pub record EndsThere (exchanges : List Exchange) (after last : Managed) (fault : DriveFault) (end : Result ⊤ DriveFault) : Type 0 where
  pub none : exchanges ≡ []
  pub same : last ≡ after
  pub halts : end ≡ Err fault

-- after an answer that is taken the step is done, and the rest goes on, or the output stopped at its line. A fault ends it, and
-- nothing is done
abbrev pub GoesOn : Result Managed DriveFault → Managed → Option Step → List Exchange → Managed → Result ⊤ DriveFault → Type 0 → Type 0
GoesOn (Ok later) m done es last end go_on = (done ≡ step_of m) × (EndsThere es later last Output end ⊎ go_on)
GoesOn (Err fault) m done es last end go_on = (done ≡ None) × EndsThere es m last fault end

-- these requests are asked from this manager on, which is so at last, and it ended so: well exactly where nothing is left to ask;
-- memory may end it before any request
abbrev pub Follows : Managed → List Exchange → Managed → Result ⊤ DriveFault → Type 0
Follows m [] last end = (last ≡ m) × (((next_of m ≡ None) × IsOk end) ⊎ (end ≡ Err Memory))
Follows m (e ∷ es) last end =
    (next_of m ≡ Some e.request) × IsTaken m e.answer e.taken × GoesOn e.taken m e.done es last end (Follows (left_after m e.taken) es last end)

-- ---- their links

-- the link of a request once it was given back: it led to the transmitter or its gateway, and was written the request
abbrev pub IsAsked : Provider → Exchange → Option Sent → Type 0
IsAsked provider e link = IsSomeAnd (place_of provider) (λ place. IsSent place (request_text provider e.request) e.answer link)

-- the links of these requests once they were given back, in order: at most one each
abbrev pub AreSent : Provider → List Exchange → List Sent → Type 0
AreSent provider [] links = links ≡ []
AreSent provider (e ∷ es) links =
    (link : Option Sent) × (others : List Sent) × (links ≡ option_to_list link ++ others) × IsAsked provider e link × AreSent provider es others

-- where a side tells which links were given back to it: they are more by those
abbrev pub SendsAll : Provider → List Exchange → Option (List Sent) → Option (List Sent) → Type 0
SendsAll provider es None new = new ≡ None
SendsAll provider es (Some old) new = (links : List Sent) × (new ≡ Some (old ++ links)) × AreSent provider es links

-- the links that were taken for these requests, in order: each was answered as its own link's bytes decide
abbrev pub AreHeard : List Exchange → List LinkPlan → Type 0
AreHeard [] links = links ≡ []
AreHeard (e ∷ es) links =
    (link : Option LinkPlan) × (others : List LinkPlan) × (links ≡ option_to_list link ++ others) × IsHeard e.answer link × AreHeard es others

-- where a side tells which links its dials will give: the first of them were taken for these requests
abbrev pub HearsAll : List Exchange → Option (List LinkPlan) → Option (List LinkPlan) → Type 0
HearsAll es None new = new ≡ None
HearsAll es (Some old) new = (links : List LinkPlan) × (rest : List LinkPlan) × (old ≡ links ++ rest) × (new ≡ Some rest) × AreHeard es links
