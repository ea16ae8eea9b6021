-- What metrics tell of a transmitter's state, in Prometheus' text format 0.0.4: of each metric a line that says what it is, one that
-- says its kind, and a line for each value.
use Rattle.std.specs.Prelude.{ℕ, List, [], ◌++◌, Option, None, Some, codes, filter, flat_map, length}
use Rattle.sig_counts.specs.Tallies.{line, value}
use Rattle.sig_counts.specs.Responses.{telling}
use Rattle.sig_http.specs.declared.message.Response.{Response}
use Rattle.sig_event.specs.Status.{status_text}
use Rattle.sig_event.specs.declared.status.Status.{Status}
use Rattle.sig_event.specs.declared.status.Status.TheVariants as status
use Rattle.sig_terms.specs.declared.standing.Standing.{Standing}
use Rattle.sig_calls.specs.Equality.{status_eq}

-- ---- streams by their status

unfoldable pub streams_head : List ℕ
streams_head = codes "# HELP signals_streams Streams that stand, by status.\n# TYPE signals_streams gauge\n"

-- what opens the label of a line
unfoldable pub streams_front : List ℕ
streams_front = codes "signals_streams{status=\""

abbrev pub count_of : Status → List Standing → ℕ
count_of state standings = length (filter (λ (s : Standing). status_eq s.status state) standings)

abbrev pub status_line : Status → List Standing → List ℕ
status_line state standings = line streams_front (status_text state) (count_of state standings)

abbrev pub streams_part : List Standing → List ℕ
streams_part standings =
    streams_head ++ status_line status.Enabled standings ++ status_line status.Paused standings ++ status_line status.Disabled standings

-- ---- publications

unfoldable pub publications_head : List ℕ
publications_head = codes "# HELP signals_publications_total Publications that stand.\n# TYPE signals_publications_total counter\nsignals_publications_total "

abbrev pub publications_part : ℕ → List ℕ
publications_part publications = value publications_head publications

-- ---- what each stream owes

unfoldable pub owed_head : List ℕ
owed_head = codes "# HELP signals_owed_tokens Tokens that a stream owes.\n# TYPE signals_owed_tokens gauge\n"

unfoldable pub owed_front : List ℕ
owed_front = codes "signals_owed_tokens{stream=\""

abbrev pub owed_line : Standing → List ℕ
owed_line s = line owed_front s.stream s.owed

abbrev pub owed_part : List Standing → List ℕ
owed_part standings = owed_head ++ flat_map owed_line standings

-- ---- since when, where it owes something

unfoldable pub oldest_head : List ℕ
oldest_head = codes "# HELP signals_oldest_owed_timestamp_seconds When the first token that a stream owes was made, in seconds since 1970.\n# TYPE signals_oldest_owed_timestamp_seconds gauge\n"

unfoldable pub oldest_front : List ℕ
oldest_front = codes "signals_oldest_owed_timestamp_seconds{stream=\""

abbrev pub oldest_at : List ℕ → Option ℕ → List ℕ
oldest_at name None = []
oldest_at name (Some time) = line oldest_front name time

abbrev pub oldest_line : Standing → List ℕ
oldest_line s = oldest_at s.stream s.oldest

abbrev pub oldest_part : List Standing → List ℕ
oldest_part standings = oldest_head ++ flat_map oldest_line standings

-- ---- what was made for each

unfoldable pub made_head : List ℕ
made_head = codes "# HELP signals_made_tokens_total Tokens that were made for a stream.\n# TYPE signals_made_tokens_total counter\n"

unfoldable pub made_front : List ℕ
made_front = codes "signals_made_tokens_total{stream=\""

abbrev pub made_line : Standing → List ℕ
made_line s = line made_front s.stream s.made

abbrev pub made_part : List Standing → List ℕ
made_part standings = made_head ++ flat_map made_line standings

-- ---- all of them

unfoldable pub metrics_text : ℕ → List Standing → List ℕ
metrics_text publications standings =
    streams_part standings ++ publications_part publications ++ owed_part standings ++ oldest_part standings ++ made_part standings

-- the response that tells them
abbrev pub figured : ℕ → List Standing → Response
figured publications standings = telling (metrics_text publications standings)

-- with what was counted behind them
abbrev pub figured_with : ℕ → List Standing → List ℕ → Response
figured_with publications standings counted = telling (metrics_text publications standings ++ counted)
