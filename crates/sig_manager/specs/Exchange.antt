-- The exchange with a transmitter: the list first, and then one step after another.
use Rattle.std.specs.Prelude.{ℕ, List, [], ◌∷◌, ◌++◌, Option, Some, None, option_to_list, Result, Ok, Err}
use Rattle.sig_http.specs.declared.message.Request.{Request}
use Rattle.sig_http.specs.declared.message.Response.{Response}
use Rattle.sig_stream.specs.Steps.{◌>>=◌}
use Rattle.sig_declared.specs.declared.declared.Declared.{Declared}
use Rattle.sig_manager.specs.Asking.{list_request, request_of}
use Rattle.sig_manager.specs.Hearing.{further_of}
use Rattle.sig_manager.specs.Listing.{listed_in}
use Rattle.sig_manager.specs.Planning.{steps_of}
use Rattle.sig_manager.specs.declared.fault.ManageFault.{ManageFault}
use Rattle.sig_manager.specs.declared.step.Step.{Step}

-- what is declared, and what is left to ask, which is known once the streams are listed
pub record Managed : Type 0 where
  pub declared : List Declared
  pub steps : Option (List Step)

-- before the first request
abbrev pub begun : List Declared → Managed
begun declared = record { declared = declared; steps = None }

-- the first of these steps
abbrev pub first_of : List Step → Option Step
first_of [] = None
first_of (s ∷ ss) = Some s

-- the step that is asked next; none before the list, and when all is done
abbrev pub step_by : Option (List Step) → Option Step
step_by None = None
step_by (Some steps) = first_of steps

abbrev pub step_of : Managed → Option Step
step_of m = step_by m.steps

-- the request that is made next; none exactly where nothing is left to ask
abbrev pub next_by : Option (List Step) → Option Request
next_by None = Some list_request
next_by (Some []) = None
next_by (Some (s ∷ ss)) = Some (request_of s)

abbrev pub next_of : Managed → Option Request
next_of m = next_by m.steps

-- the list is heard
abbrev pub after_list : List Declared → Response → Result (List Step) ManageFault
after_list declared response = do
  listed ← listed_in response
  Ok (steps_of declared listed)

-- the answer to a step is heard: that step is done, and one that it has shown to be necessary comes last
abbrev pub after_step : Step → List Step → Response → Result (List Step) ManageFault
after_step s ss response = do
  further ← further_of s response
  Ok (ss ++ option_to_list further)

-- what is left of these steps once a response is heard; where nothing was asked, nothing is heard
abbrev pub answered : List Step → Response → Result (List Step) ManageFault
answered [] response = Ok []
answered (s ∷ ss) response = after_step s ss response

-- what is left to ask once a response is heard
abbrev pub steps_after : List Declared → Option (List Step) → Response → Result (List Step) ManageFault
steps_after declared None response = after_list declared response
steps_after declared (Some steps) response = answered steps response

abbrev pub heard : Managed → Response → Result Managed ManageFault
heard m response = do
  steps ← steps_after m.declared m.steps response
  Ok (record { declared = m.declared; steps = Some steps })
