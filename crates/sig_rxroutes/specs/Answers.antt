-- The responses to the answers of a receiver, each of one status (RFC 8935, sections 2.2 and 2.3; RFC 9110, section 15). No
-- cache may keep one (RFC 9111, section 5.2.2.5).
use Rattle.serde_json.specs.Data.{Data}
use Rattle.serde_json.specs.Written.{compact_text}
use Rattle.sig_http.specs.Answering.{empty, json}
use Rattle.sig_http.specs.declared.message.Response.{Response}
use Rattle.sig_delivery.specs.Pushes.{coded_of}
use Rattle.sig_rxnode.specs.declared.answer.RxAnswer.{RxAnswer}
use Rattle.sig_rxnode.specs.declared.answer.RxAnswer.TheVariants as answer
use Rattle.sig_rxroutes.specs.Documents.{rows_data, verdict_data}
use Rattle.sig_rxroutes.specs.Metrics.{figured}

-- the response to a token that is valid (RFC 8935, section 2.2): it has no body
abbrev pub acknowledging : Response
acknowledging = empty 202

-- the response that tells a value
abbrev pub telling : Data → Response
telling d = json 200 (compact_text d)

-- the table; a token that was taken before is acknowledged again
abbrev pub reply : RxAnswer → Response
reply answer.Accepted = acknowledging
reply answer.Seen = acknowledging
reply (answer.Refused code spot) = coded_of code spot
reply (answer.Verdict verdict) = telling (verdict_data verdict)
reply (answer.Rows rows) = telling (rows_data rows)
reply (answer.Figures tokens rows) = figured tokens rows
