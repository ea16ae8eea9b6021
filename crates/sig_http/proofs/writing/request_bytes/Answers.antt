use Rattle.std.proofs.Common.{ap}
use Rattle.sig_http.specs.Spelling.{length_and_body, request_spelling}
use Rattle.sig_http.proofs.AppendLemmas.{added, added_as}
use Rattle.sig_http.proofs.writing.request_bytes.Goals as goal

pub returns : goal.returns
unfolding request_spelling
returns c =
    added _ _ _ _ (added_as _ _ _ _ c.in_ok-add_body.ensures (ap length_and_body c.as_slice.ensures)) (added _ _ _ _ c.in_ok-add_field-3.ensures (added _ _ _ _ c.in_ok-add_field-2.ensures
    (added _ _ _ _ c.in_ok-add_line_if.ensures (added _ _ _ _ c.in_ok-add_field.ensures (added _ _ _ _ c.in_ok-add_authorization.ensures
    (added _ _ _ _ c.in_ok-add_host.ensures (added _ _ _ _ c.in_ok-add_request_line.ensures c.new-text.ensures)))))))
