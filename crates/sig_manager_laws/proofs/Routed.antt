-- The requests of a manager are routed to their calls.
use Rattle.std.proofs.Common.{◌≡◌, List, ℕ, Some, None, IsUtf8, Ok, refl, arith, codes}
use Rattle.std.specs.Prelude.{is_some}
use Rattle.serde_json.specs.Data.{string}
use Rattle.serde_json.specs.Written.{compact_text}
use Rattle.form_urlencoded.proofs.FormLemmas.{raw_pairs-nil}
use Rattle.serde_json.proofs.Views.{get_member-put}
use Rattle.sig_json.specs.Json.{json_of}
use Rattle.sig_json.specs.Listed.{listed}
use Rattle.sig_json.proofs.CanonicalPayloads.{put_canonical}
use Rattle.sig_json.proofs.ReadBack.{canon_reads}
use Rattle.sig_http.specs.declared.message.Request.{Request}
use Rattle.sig_event.specs.Status.{status_text, statuses}
use Rattle.sig_event.specs.declared.status.Status.{Status}
use Rattle.sig_event.specs.declared.status.Status.TheVariants.{Enabled, Paused, Disabled}
use Rattle.sig_terms.specs.declared.call.Call.{Call}
use Rattle.sig_terms.specs.declared.call.Call.TheVariants as call
use Rattle.sig_terms.specs.declared.rules.Rules.{Rules}
use Rattle.sig_terms.specs.declared.want.Want.{Want}
use Rattle.sig_txroutes.specs.Bodies.{status_said, stream_in}
use Rattle.sig_txroutes.specs.Calls.{call_of}
use Rattle.sig_txroutes.specs.Laws.{IsFor}
use Rattle.sig_txroutes.specs.Routes.{row_of}
use Rattle.sig_txroutes.specs.declared.route.Route.TheVariants as route
use Rattle.sig_txroutes.specs.declared.route.QueryCall.TheVariants as query
use Rattle.sig_txroutes.specs.declared.route.BodyCall.TheVariants as body
use Rattle.sig_txroutes.proofs.AskLemmas.{routes_exactly}
use Rattle.sig_manager.specs.Asking.{list_request, replaced_data, request_of, status_data, want_data, want_members}
use Rattle.sig_manager.specs.declared.step.Step.TheVariants as step
use Rattle.sig_manager_laws.specs.Asked.{Fits, IsAcceptable, IsClient, ListsAreRouted, StepsAreRouted, with_bearer}
use Rattle.sig_manager_laws.specs.Written.{IsWritten}
use Rattle.sig_manager_laws.proofs.Canonical.{ascii, put_shallow}
use Rattle.sig_manager_laws.proofs.Queries.{named_in}
use Rattle.sig_manager_laws.proofs.WantsBack.{members_canonical, members_shallow, replaced_back, want_back}

-- ---- what bodies spell

want_spelled : (w : Want) → IsWritten w → json_of (compact_text (want_data w)) ≡ Some (want_data w)
want_spelled w h = canon_reads (want_data w) (members_canonical w h) (omega (arith, members_shallow w))

replaced_spelled : (stream : List ℕ) (w : Want) → IsUtf8 stream → IsWritten w
    → json_of (compact_text (replaced_data stream w)) ≡ Some (replaced_data stream w)
replaced_spelled stream w name h =
    canon_reads (replaced_data stream w)
    (put_canonical (codes "stream_id") (string stream) (want_members w) (ascii _ refl) name (members_canonical w h))
    (omega (arith, put_shallow 2 (codes "stream_id") (string stream) (want_members w) (omega arith) (members_shallow w)))

status_utf8 : (status : Status) → IsUtf8 (status_text status)
unfolding status_text
status_utf8 Enabled = ascii _ refl
status_utf8 Paused = ascii _ refl
status_utf8 Disabled = ascii _ refl

status_spelled : (stream : List ℕ) (status : Status) → IsUtf8 stream → json_of (compact_text (status_data stream status)) ≡ Some (status_data stream status)
status_spelled stream status name =
    canon_reads (status_data stream status) (ascii _ refl, status_utf8 status, (refl, tt), (ascii _ refl, name, tt, tt)) (omega arith)

status_back : (stream : List ℕ) (status : Status) → status_said (status_data stream status) ≡ Ok (record { stream = stream; status = status; reason = None })
unfolding listed status_text statuses
status_back stream Enabled = refl
status_back stream Paused = refl
status_back stream Disabled = refl

stream_back : (stream : List ℕ) (w : Want) → stream_in (replaced_data stream w) ≡ Ok stream
stream_back stream w = rw (get_member-put (codes "stream_id") (string stream) (want_members w)) refl

-- ---- the routes

routed : (request : Request) (rules : Rules) (asked : Call) → IsFor request rules asked → call_of request rules ≡ Ok asked
routed request rules asked for = (routes_exactly request rules asked).1 for

pub lists_routed : ListsAreRouted
unfolding row_of
lists_routed rules bearer client is =
    routed (with_bearer bearer list_request) rules (call.ReadAll client)
    (record { route = route.Query query.Read; method = refl; path = refl; asks = rw (is, raw_pairs-nil) refl; fits = omega arith })

status_routed : (rules : Rules) (bearer client stream : List ℕ) (wanted : Status) → IsClient rules bearer client → IsUtf8 stream
    → call_of (with_bearer bearer (request_of (step.Status stream wanted))) rules ≡ Ok (call.GetStatus client stream)
unfolding row_of
status_routed rules bearer client stream wanted is name =
    routed (with_bearer bearer (request_of (step.Status stream wanted))) rules (call.GetStatus client stream)
    (record { route = route.Query query.GetStatus; method = refl; path = refl; asks = rw (is, named_in stream name) refl; fits = omega arith })

delete_routed : (rules : Rules) (bearer client stream : List ℕ) → IsClient rules bearer client → IsUtf8 stream
    → call_of (with_bearer bearer (request_of (step.Delete stream))) rules ≡ Ok (call.Delete client stream)
unfolding row_of
delete_routed rules bearer client stream is name =
    routed (with_bearer bearer (request_of (step.Delete stream))) rules (call.Delete client stream)
    (record { route = route.Query query.Delete; method = refl; path = refl; asks = rw (is, named_in stream name) refl; fits = omega arith })

replace_routed : (rules : Rules) (bearer client stream : List ℕ) (w : Want) → IsClient rules bearer client → IsUtf8 stream
    → IsAcceptable (is_some rules.gateway) w → Fits (step.Replace stream w)
    → call_of (with_bearer bearer (request_of (step.Replace stream w))) rules ≡ Ok (call.Put client stream w)
unfolding row_of
replace_routed rules bearer client stream w is name taken fits =
    routed (with_bearer bearer (request_of (step.Replace stream w))) rules (call.Put client stream w)
    (record {
      route = route.Body body.Put;
      method = refl;
      path = refl;
      asks = rw (is, replaced_spelled stream w name taken.written, replaced_back (is_some rules.gateway) stream w taken.delivery, stream_back stream w) refl;
      fits = fits;
    })

create_routed : (rules : Rules) (bearer client : List ℕ) (w : Want) (status : Status) → IsClient rules bearer client
    → IsAcceptable (is_some rules.gateway) w → Fits (step.Create w status)
    → call_of (with_bearer bearer (request_of (step.Create w status))) rules ≡ Ok (call.Create client w)
unfolding row_of
create_routed rules bearer client w status is taken fits =
    routed (with_bearer bearer (request_of (step.Create w status))) rules (call.Create client w)
    (record {
      route = route.Body body.Create;
      method = refl;
      path = refl;
      asks = rw (is, want_spelled w taken.written, want_back (is_some rules.gateway) w taken.delivery) refl;
      fits = fits;
    })

set_routed : (rules : Rules) (bearer client stream : List ℕ) (status : Status) → IsClient rules bearer client → IsUtf8 stream
    → Fits (step.SetStatus stream status)
    → call_of (with_bearer bearer (request_of (step.SetStatus stream status))) rules ≡ Ok (call.SetStatus client stream status None)
unfolding row_of
set_routed rules bearer client stream status is name fits =
    routed (with_bearer bearer (request_of (step.SetStatus stream status))) rules (call.SetStatus client stream status None)
    (record {
      route = route.Body body.SetStatus;
      method = refl;
      path = refl;
      asks = rw (is, status_spelled stream status name, status_back stream status) refl;
      fits = fits;
    })

pub steps_routed : StepsAreRouted
steps_routed rules bearer client (step.Status stream wanted) is askable fits = status_routed rules bearer client stream wanted is askable
steps_routed rules bearer client (step.Delete stream) is askable fits = delete_routed rules bearer client stream is askable
steps_routed rules bearer client (step.Replace stream w) is askable fits = replace_routed rules bearer client stream w is askable.0 askable.1 fits
steps_routed rules bearer client (step.Create w status) is askable fits = create_routed rules bearer client w status is askable fits
steps_routed rules bearer client (step.SetStatus stream status) is askable fits = set_routed rules bearer client stream status is askable fits
