-- How what came of a request is told (RFC 9110, section 15): a refusal of the routes, or its turn.
use Rattle.std.specs.Prelude.{◌≡◌, ◌⊎◌, ℕ, Bool, List, unwrap_or, Result, Ok, Err, ⊤}
use Rattle.sig_http.specs.Answering.{closing as closing_with, empty, refused_with}
use Rattle.sig_http.specs.Spelling.{response_spelling}
use Rattle.sig_http.specs.declared.message.Response.{Response}
use Rattle.sig_journal.specs.declared.node_fault.NodeFault.{NodeFault}
use Rattle.sig_journal.specs.declared.node_fault.NodeFault.TheVariants.{Store, Full, Memory}
use Rattle.sig_serving.specs.Line.{Line, Sends}
use Rattle.sig_serving.specs.Sending.{Responds}
use Rattle.sig_serving.specs.Texts.{memory_text}
use Rattle.sig_serving.specs.declared.link_end.LinkEnd.{LinkEnd}
use Rattle.sig_serving.specs.declared.link_end.LinkEnd.TheVariants as ends
use Rattle.sig_link.specs.Meaning.{Meaning}
use Rattle.sig_link.specs.declared.course.Course.{Course}
use Rattle.sig_link.specs.declared.course.Course.TheVariants.{Refused, Turned}

-- the response where memory runs out (RFC 4918, section 11.5), after which the link closes
abbrev pub starved : Response
starved = closing_with 507

-- the response to why a turn has no answer: 503 where the store failed, and 500 where a number would pass its limit
abbrev pub faulted : NodeFault → Response
faulted Store = empty 503
faulted (Full n) = empty 500
faulted Memory = starved

-- the response to the result of a turn, by that to its answer
abbrev pub response_in : {Answer : Type 0} → (Answer → Response) → Result Answer NodeFault → Response
response_in reply (Ok answer) = reply answer
response_in reply (Err fault) = faulted fault

-- a response that says whether the link closes after it (RFC 9112, section 9.6)
abbrev pub closing : Bool → Response → Response
closing close response = record response { close = close }

-- the text of a response
unfoldable pub text_of : Bool → Response → List ℕ
text_of close response = response_spelling (closing close response)

module _ {Rules Call Turn Told : Type 0} (m : Meaning Rules Call Turn Told) (rules : Rules) where
  -- a response to what came of a request
  abbrev pub IsResponse : Course Turn → Response → Type 0
  IsResponse (Refused refusal) response = response ≡ unwrap_or (refused_with refusal) starved
  IsResponse (Turned turn) response = m.Responds rules turn response

  -- one was written, whole or not; or memory ran out before there was one, and that was written
  pub record IsAnswered (close : Bool) (course : Course Turn) (result : Result ⊤ LinkEnd) (old new : Line) : Type 0 where
    pub comes : ((response : Response) × IsResponse course response × Responds (text_of close response) result old new)
        ⊎ ((result ≡ Err ends.Memory) × Sends memory_text old new)
