-- The response that tells metrics.
use Rattle.std.specs.Prelude.{ℕ, List, [], ◌∷◌, false, codes}
use Rattle.sig_http.specs.Answering.{no_store}
use Rattle.sig_http.specs.declared.message.Header.{Header}
use Rattle.sig_http.specs.declared.message.Response.{Response}

abbrev pub is_metrics : Header
is_metrics = record { name = codes "content-type"; value = codes "text/plain; version=0.0.4" }

-- no cache may keep it
abbrev pub telling : List ℕ → Response
telling text = record { status = 200; headers = is_metrics ∷ no_store ∷ []; close = false; body = text }
