use Rattle.std.proofs.Common.{ap}
use Rattle.sig_http.specs.Spelling.{field_lines, rest_of, response_spelling}
use Rattle.sig_http.proofs.AppendLemmas.{added, added_as}
use Rattle.sig_http.proofs.writing.response_bytes.Goals as goal

pub returns : goal.returns
unfolding response_spelling
returns c =
    added _ _ _ _ (added_as _ _ _ _ c.in_ok-add_rest.ensures (ap (rest_of c.args.response.now.status) c.as_slice-2.ensures)) (added _ _ _ _ c.in_ok-add_line_if.ensures
    (added _ _ _ _ (added_as _ _ _ _ c.in_ok-add_fields.ensures (ap field_lines c.as_slice.ensures)) (added _ _ _ _ c.in_ok-add_status_line.ensures c.new-text.ensures)))
