-- What the body of a transmitter's response says. A transmitter may say more than is read.
use Rattle.std.specs.Prelude.{ℕ, List, Option, Result, Ok, Err, ok_or, option_and_then, codes, Bool, if◌then◌else◌}
use Rattle.serde_json.specs.Data.{Data, Items}
use Rattle.serde_json.specs.Find.{as_array}
use Rattle.sig_json.specs.Json.{json_of, object_itself, text_member}
use Rattle.sig_json.specs.Listed.{listed}
use Rattle.sig_http.specs.declared.message.Response.{Response}
use Rattle.sig_event.specs.Status.{status_text, statuses}
use Rattle.sig_event.specs.declared.status.Status.{Status}
use Rattle.sig_manager.specs.declared.fault.ManageFault.{ManageFault}
use Rattle.sig_manager.specs.declared.fault.ManageFault.TheVariants.{Peer}

-- ---- whole bodies

-- the object that it spells
abbrev pub object_in : Response → Result Data ManageFault
object_in response = ok_or (option_and_then object_itself (json_of response.body)) (Peer (codes "body"))

-- the items of the array that it spells
abbrev pub items_in : Response → Result Items ManageFault
items_in response = ok_or (option_and_then as_array (json_of response.body)) (Peer (codes "body"))

-- it is read where the status is one that the request has to be answered with
abbrev pub where_met : {T : Type 0} → Bool → Result T ManageFault → Result T ManageFault
where_met met read = if met then read else Err (Peer (codes "status"))

-- ---- members

-- the name of a stream (OpenID Shared Signals Framework 1.0, section 8.1.1)
abbrev pub stream_in : Data → Result (List ℕ) ManageFault
stream_in d = ok_or (text_member (codes "stream_id") d) (Peer (codes "stream_id"))

-- the status of a stream (section 8.1.2)
abbrev pub status_in : Data → Result Status ManageFault
status_in d = ok_or (option_and_then (listed status_text statuses) (text_member (codes "status") d)) (Peer (codes "status"))
