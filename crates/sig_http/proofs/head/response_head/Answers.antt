use Rattle.std.proofs.Common.{take, ◌∙◌, ap}
use Rattle.sig_http.proofs.HeadLemmas.{response_refused}
use Rattle.sig_http.proofs.head.response_head.Goals as goal

pub returns-in-Some-response_fault-clause-refused : goal.returns-in-Some-response_fault-clause-refused
returns-in-Some-response_fault-clause-refused c =
    response_refused c.args.section.now _ _ c.in-Some.spans c.in-Some-response_fault.fault c.in-Some.ensures.found
    (c.split_at.ensures.front ∙ ap (take c.in-Some.spans.headers) c.as_slice.ensures) c.in-Some-response_fault.ensures
