-- What metrics tell of a receiver's state, in Prometheus' text format 0.0.4.
use Rattle.std.specs.Prelude.{ℕ, List, ◌++◌, codes}
use Rattle.sig_counts.specs.Tallies.{value}
use Rattle.sig_counts.specs.Responses.{telling}
use Rattle.sig_http.specs.declared.message.Response.{Response}

unfoldable pub tokens_front : List ℕ
tokens_front = codes "# HELP signals_tokens_total Tokens that were taken, each once.\n# TYPE signals_tokens_total counter\nsignals_tokens_total "

unfoldable pub rows_front : List ℕ
rows_front = codes "# HELP signals_session_rows Rows of the session table.\n# TYPE signals_session_rows gauge\nsignals_session_rows "

abbrev pub metrics_text : ℕ → ℕ → List ℕ
metrics_text tokens rows = value tokens_front tokens ++ value rows_front rows

-- the response that tells them
abbrev pub figured : ℕ → ℕ → Response
figured tokens rows = telling (metrics_text tokens rows)

-- with what was counted behind them
abbrev pub figured_with : ℕ → ℕ → List ℕ → Response
figured_with tokens rows counted = telling (metrics_text tokens rows ++ counted)
