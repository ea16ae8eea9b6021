-- The streams that settings declare: a list of objects, each of which says what is wanted of a stream (OpenID Shared Signals
-- Framework 1.0, section 8.1.1) and which status it is to have (section 8.1.2).
use Rattle.std.specs.Prelude.{ℕ, ◌&&◌, List, [], ◌∷◌, length, Bool, true, nat_le, bytes_eq, Option, unwrap_or, option_and_then, Result, Ok, Err, codes, if◌then◌else◌}
use Rattle.serde_json.specs.Data.{Data}
use Rattle.serde_json.specs.Find.{as_str}
use Rattle.sig_json.specs.Answers.{result_map}
use Rattle.sig_json.specs.Listed.{listed}
use Rattle.sig_event.specs.declared.status.Status.{Status}
use Rattle.sig_event.specs.declared.status.Status.TheVariants.{Enabled}
use Rattle.sig_event.specs.Status.{status_text, statuses}
use Rattle.sig_terms.specs.declared.want.Want.{Want}
use Rattle.sig_stream.specs.declared.want_fault.WantFault.{WantFault}
use Rattle.sig_stream.specs.declared.want_fault.WantFault.TheVariants as want
use Rattle.sig_stream.specs.Steps.{◌>>=◌}
use Rattle.sig_stream.specs.Wants.{want_of}
use Rattle.sig_settings.specs.declared.fault.ValueFault.{ValueFault}
use Rattle.sig_settings.specs.declared.fault.ValueFault.TheVariants.{Memory, Wrong}
use Rattle.sig_settings.specs.declared.path.Step.TheVariants.{Member}
use Rattle.sig_settings.specs.Lists.{each_once, list_at}
use Rattle.sig_settings.specs.Members.{found, itself, optional_at}
use Rattle.sig_settings.specs.Paths.{Path}
use Rattle.sig_settings.specs.Texts.{is_filled}
use Rattle.sig_declared.specs.declared.declared.Declared.{Declared}
use Rattle.sig_declared.specs.declared.limits.TheConstants.{STREAMS_DECLARED}
use Rattle.sig_declared.specs.Declarations.{description_of}

-- ---- what is wanted

-- where a member of the delivery stands in its stream
abbrev pub delivery_path : List ℕ → Path
delivery_path name = Member (codes "delivery") ∷ Member name ∷ []

-- where the member stands that a fault of a want names: the whole is the stream itself, and the authorization is the delivery's
abbrev pub member_path : List ℕ → Path
member_path name =
    if bytes_eq name (codes "body") then []
    else if bytes_eq name (codes "authorization_header") then delivery_path name
    else Member name ∷ []

-- a fault of a want, seen from its stream
abbrev pub fault_of : WantFault → ValueFault
fault_of (want.Member name) = Wrong (member_path name)
fault_of want.Method = Wrong (delivery_path (codes "method"))
fault_of want.Endpoint = Wrong (delivery_path (codes "endpoint_url"))
fault_of want.Memory = Memory

abbrev pub seen : Result Want WantFault → Result Want ValueFault
seen (Ok w) = Ok w
seen (Err fault) = Err (fault_of fault)

-- what an object wants; the gateway of a push is its transmitter's own, so an endpoint of `https` may be wanted of any
abbrev pub want_at : Data → Result Want ValueFault
want_at d = seen (want_of true d)

-- the description is given, and isn't empty
abbrev pub is_described : Want → Result (Unit {0}) ValueFault
is_described w = if is_filled (unwrap_or w.description []) then Ok tt else Err (Wrong (Member (codes "description") ∷ []))

-- ---- a stream

-- the status that a text names
abbrev pub status_named : List ℕ → Option Status
status_named text = listed status_text statuses text

abbrev pub status_at : Data → Result Status ValueFault
status_at d = found (option_and_then status_named (as_str d))

-- the status that is given, and else that a stream is enabled
abbrev pub status_in : Data → Result Status ValueFault
status_in d = result_map (λ status. unwrap_or status Enabled) (optional_at status_at (codes "status") d)

-- what an object declares
abbrev pub stream_at : Data → Result Declared ValueFault
stream_at d = do
  want ← want_at d
  described ← is_described want
  status ← status_in d
  Ok (record { want = want; status = status })

-- ---- streams

-- at most 16 streams with descriptions of their own
abbrev pub are_apart : List Declared → Bool
are_apart streams = nat_le (length streams) STREAMS_DECLARED && each_once description_of streams

abbrev pub where_apart : List Declared → Result (List Declared) ValueFault
where_apart streams = if are_apart streams then Ok streams else Err itself

abbrev pub streams_at : Data → Result (List Declared) ValueFault
streams_at d = list_at stream_at d >>= where_apart
