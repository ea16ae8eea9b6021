-- What a server counted, and the metrics that tell it.
use Rattle.std.specs.Prelude.{ℕ, ◌==◌, ◌-◌, List, ◌++◌, codes, decimal, flat_map, if◌then◌else◌}
use Rattle.sig_counts.specs.Tallies.{Counted, line_of, value}

-- since when it serves and what time it is, in seconds since 1970, or 0 where no time was told; how many links are open; how often an
-- accept found that the system lacks something; and what came since
pub record Figures : Type 0 where
  pub started : ℕ
  pub time : ℕ
  pub links_open : ℕ
  pub door_faults : ℕ
  pub requests : Counted
  pub links : Counted
  pub pushes : Counted
  pub reported : Counted

-- the time of the start, once a time is told
abbrev pub start_by : ℕ → ℕ → ℕ
start_by started now = if started == 0 then now else started

-- the label of a request: its method, its route and the status of its response
unfoldable pub request_label : List ℕ → List ℕ → ℕ → List ℕ
request_label method route status = method ++ codes "\",route=\"" ++ route ++ codes "\",status=\"" ++ decimal status

-- a metric with labels: what it is and its kind, and a line for each label
abbrev pub family : List ℕ → List ℕ → Counted → List ℕ
family head front counts = head ++ flat_map (line_of front) counts

unfoldable pub uptime_front : List ℕ
uptime_front = codes "# HELP signals_uptime_seconds Seconds since the start.\n# TYPE signals_uptime_seconds gauge\nsignals_uptime_seconds "

unfoldable pub open_front : List ℕ
open_front = codes "# HELP signals_links_open Links that are open.\n# TYPE signals_links_open gauge\nsignals_links_open "

unfoldable pub door_front : List ℕ
door_front = codes "# HELP signals_door_faults_total Accepts that found no descriptor or memory free.\n# TYPE signals_door_faults_total counter\nsignals_door_faults_total "

unfoldable pub requests_head : List ℕ
requests_head = codes "# HELP signals_requests_total Requests, by method, route and status.\n# TYPE signals_requests_total counter\n"

unfoldable pub requests_front : List ℕ
requests_front = codes "signals_requests_total{method=\""

unfoldable pub links_head : List ℕ
links_head = codes "# HELP signals_links_ended_total Links that ended, by cause.\n# TYPE signals_links_ended_total counter\n"

unfoldable pub links_front : List ℕ
links_front = codes "signals_links_ended_total{cause=\""

unfoldable pub pushes_head : List ℕ
pushes_head = codes "# HELP signals_pushes_total Pushes, by outcome.\n# TYPE signals_pushes_total counter\n"

unfoldable pub pushes_front : List ℕ
pushes_front = codes "signals_pushes_total{outcome=\""

unfoldable pub reported_head : List ℕ
reported_head = codes "# HELP signals_reported_total Tokens that were reported as faulty, by code.\n# TYPE signals_reported_total counter\n"

unfoldable pub reported_front : List ℕ
reported_front = codes "signals_reported_total{code=\""

-- all of them
abbrev pub told : Figures → List ℕ
told f =
    value uptime_front (f.time - f.started) ++ value open_front f.links_open ++ value door_front f.door_faults
    ++ family requests_head requests_front f.requests ++ family links_head links_front f.links
    ++ family pushes_head pushes_front f.pushes ++ family reported_head reported_front f.reported
