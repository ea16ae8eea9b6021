-- The request of each step (OpenID Shared Signals Framework 1.0, sections 8.1.1 and 8.1.2).
use Rattle.std.specs.Prelude.{ℕ, List, [], true, Option, None, option_map, codes}
use Rattle.serde_json.specs.Data.{Data, string, object, Members, no_members, member, put}
use Rattle.serde_json.specs.Written.{compact_text}
use Rattle.form_urlencoded.specs.Form.{append_pair}
use Rattle.sig_http.specs.declared.message.Request.{Request}
use Rattle.sig_event.specs.Status.{status_text}
use Rattle.sig_event.specs.declared.status.Status.{Status}
use Rattle.sig_terms.specs.declared.want.Delivery.{Delivery}
use Rattle.sig_terms.specs.declared.want.Delivery.TheVariants.{Poll, Push}
use Rattle.sig_terms.specs.declared.want.Want.{Want}
use Rattle.sig_stream.specs.Configurations.{push_data, put_given, texts_data}
use Rattle.sig_stream.specs.Wants.{poll_method}
use Rattle.sig_manager.specs.declared.step.Step.{Step}
use Rattle.sig_manager.specs.declared.step.Step.TheVariants as step

-- ---- what is written of a want

-- how tokens are to reach the receiver (section 6.1)
abbrev pub delivery_data : Delivery → Data
delivery_data Poll = object (member (codes "method") (string poll_method) no_members)
delivery_data (Push endpoint url authorization) = push_data url authorization

-- its members, each where it is given
abbrev pub want_members : Want → Members
want_members w =
    put_given (codes "events_requested") (option_map texts_data w.requested)
    (put_given (codes "description") (option_map (λ t. string t) w.description)
    (put_given (codes "delivery") (option_map delivery_data w.delivery) no_members))

-- the object of a want, and that of one for a stream that is there
abbrev pub want_data : Want → Data
want_data w = object (want_members w)

abbrev pub replaced_data : List ℕ → Want → Data
replaced_data stream w = object (put (codes "stream_id") (string stream) (want_members w))

-- the status that a stream is to have (section 8.1.2.2)
abbrev pub status_data : List ℕ → Status → Data
status_data stream status = object
    (member (codes "status") (string (status_text status))
    (member (codes "stream_id") (string stream) no_members))

-- ---- the requests

-- the bearer is put in where the request is sent
abbrev pub request : List ℕ → List ℕ → List ℕ → List ℕ → Request
request method path query body = record {
  method = method;
  path = path;
  query = query;
  bearer = None;
  close = true;
  body = body;
}

-- the address of streams, and that of statuses
abbrev pub stream_path : List ℕ
stream_path = codes "/ssf/stream"

abbrev pub status_path : List ℕ
status_path = codes "/ssf/status"

-- a stream that a query names (URL Standard, section 5.2)
abbrev pub query_of : List ℕ → List ℕ
query_of stream = append_pair [] (codes "stream_id") stream

-- asks for the streams of the client
abbrev pub list_request : Request
list_request = request (codes "GET") stream_path [] []

abbrev pub request_of : Step → Request
request_of (step.Status stream wanted) = request (codes "GET") status_path (query_of stream) []
request_of (step.Delete stream) = request (codes "DELETE") stream_path (query_of stream) []
request_of (step.Replace stream w) = request (codes "PUT") stream_path [] (compact_text (replaced_data stream w))
request_of (step.Create w status) = request (codes "POST") stream_path [] (compact_text (want_data w))
request_of (step.SetStatus stream status) = request (codes "POST") status_path [] (compact_text (status_data stream status))
