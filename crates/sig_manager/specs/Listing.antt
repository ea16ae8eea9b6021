-- What a transmitter lists of a client's streams (OpenID Shared Signals Framework 1.0, section 8.1.1.2).
use Rattle.std.specs.Prelude.{ℕ, List, [], ◌∷◌, ◌==◌, true, Result, Ok, Err, codes, if◌then◌else◌}
use Rattle.std.specs.Result.{result_ok}
use Rattle.serde_json.specs.Data.{Data, Items, no_items, item}
use Rattle.sig_json.specs.Json.{text_member}
use Rattle.sig_json.specs.Members.{is_object}
use Rattle.sig_http.specs.declared.message.Response.{Response}
use Rattle.sig_stream.specs.Steps.{◌>>=◌}
use Rattle.sig_stream.specs.Wants.{want_of}
use Rattle.sig_manager.specs.Members.{items_in, stream_in, where_met}
use Rattle.sig_manager.specs.declared.fault.ManageFault.{ManageFault}
use Rattle.sig_manager.specs.declared.fault.ManageFault.TheVariants.{Peer}
use Rattle.sig_manager.specs.declared.listed.Listed.{Listed}

-- a stream under its name: its description where that is a text, and its want where it can be read. The gateway of a push
-- is the transmitter's, so that an `https` endpoint needs none here
abbrev pub listed_as : Data → List ℕ → Listed
listed_as d id = record { id = id; description = text_member (codes "description") d; want = result_ok (want_of true d) }

-- a stream of the list: an object with the stream's name
abbrev pub listed_at : Data → Result Listed ManageFault
listed_at d = do
  id ← if is_object d then stream_in d else Err (Peer (codes "body"))
  Ok (listed_as d id)

-- a stream before others
abbrev pub listed_before : Result Listed ManageFault → Result (List Listed) ManageFault → Result (List Listed) ManageFault
listed_before (Err e) others = Err e
listed_before (Ok l) (Err e) = Err e
listed_before (Ok l) (Ok ls) = Ok (l ∷ ls)

-- the streams of a list, in its order; the first that is wrong decides
abbrev pub listed_of : Items → Result (List Listed) ManageFault
listed_of no_items = Ok []
listed_of (item d ds) = listed_before (listed_at d) (listed_of ds)

-- the streams that a response lists
abbrev pub listed_in : Response → Result (List Listed) ManageFault
listed_in response = do
  items ← where_met (response.status == 200) (items_in response)
  listed_of items
