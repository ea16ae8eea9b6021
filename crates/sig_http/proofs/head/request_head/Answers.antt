use Rattle.std.proofs.Common.{take, ◌∙◌, ap}
use Rattle.sig_http.specs.Fields.{fields_at}
use Rattle.sig_http.specs.Framing.{request_fault}
use Rattle.sig_http.proofs.HeadLemmas.{request_refused}
use Rattle.sig_http.proofs.head.request_head.Goals as goal

pub returns-in-Some-request_fault-clause-refused : goal.returns-in-Some-request_fault-clause-refused
returns-in-Some-request_fault-clause-refused c =
    request_refused c.args.section.now _ _ c.in-Some.spans c.in-Some-request_fault.fault c.in-Some.ensures.found
    (c.split_at.ensures.front ∙ ap (take c.in-Some.spans.headers) c.as_slice.ensures)
    (c.in-Some-request_fault.ensures ∙ ap (λ t. request_fault c.in-Some.spans.version t (fields_at c.args.section.now c.split_at.result.0.now)) c.part-target.ensures)
