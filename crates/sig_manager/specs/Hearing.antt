-- What the response to a step comes to: the fault, or the step that it shows to be necessary (OpenID Shared Signals
-- Framework 1.0, sections 8.1.1 and 8.1.2).
use Rattle.std.specs.Prelude.{ℕ, List, ◌==◌, ◌||◌, Bool, true, false, Option, Some, None, Result, Ok, Err, if◌then◌else◌}
use Rattle.sig_http.specs.declared.message.Response.{Response}
use Rattle.sig_event.specs.declared.status.Status.{Status}
use Rattle.sig_event.specs.declared.status.Status.TheVariants.{Enabled, Paused, Disabled}
use Rattle.sig_stream.specs.Steps.{◌>>=◌}
use Rattle.sig_manager.specs.Members.{object_in, status_in, stream_in, where_met}
use Rattle.sig_manager.specs.declared.fault.ManageFault.{ManageFault}
use Rattle.sig_manager.specs.declared.step.Step.{Step}
use Rattle.sig_manager.specs.declared.step.Step.TheVariants as step

abbrev pub same_status : Status → Status → Bool
same_status Enabled Enabled = true
same_status Enabled Paused = false
same_status Enabled Disabled = false
same_status Paused Enabled = false
same_status Paused Paused = true
same_status Paused Disabled = false
same_status Disabled Enabled = false
same_status Disabled Paused = false
same_status Disabled Disabled = true

-- the status of a stream is set where it is another than the wanted one
abbrev pub status_step : List ℕ → Status → Status → Option Step
status_step stream wanted status = if same_status status wanted then None else Some (step.SetStatus stream wanted)

-- a status is told: the further step where it differs
abbrev pub after_status : List ℕ → Status → Response → Result (Option Step) ManageFault
after_status stream wanted response = do
  body ← where_met (response.status == 200) (object_in response)
  status ← status_in body
  Ok (status_step stream wanted status)

-- a stream is gone: nothing is read of the body
abbrev pub after_delete : Response → Result (Option Step) ManageFault
after_delete response = where_met (response.status == 204) (Ok None)

-- a stream is replaced
abbrev pub after_replace : Response → Result (Option Step) ManageFault
after_replace response = do
  body ← where_met (response.status == 200) (object_in response)
  Ok None

-- a stream is created, which is enabled: the further step where it is to have another status
abbrev pub after_create : Status → Response → Result (Option Step) ManageFault
after_create wanted response = do
  body ← where_met (response.status == 201 || response.status == 200) (object_in response)
  stream ← stream_in body
  Ok (status_step stream wanted Enabled)

-- a status is set
abbrev pub after_set : Response → Result (Option Step) ManageFault
after_set response = do
  body ← where_met (response.status == 200) (object_in response)
  status ← status_in body
  Ok None

abbrev pub further_of : Step → Response → Result (Option Step) ManageFault
further_of (step.Status stream wanted) response = after_status stream wanted response
further_of (step.Delete stream) response = after_delete response
further_of (step.Replace stream w) response = after_replace response
further_of (step.Create w wanted) response = after_create wanted response
further_of (step.SetStatus stream status) response = after_set response
