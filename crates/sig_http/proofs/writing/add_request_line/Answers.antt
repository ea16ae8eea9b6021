use Rattle.std.proofs.Common.{ap, ◌∙◌}
use Rattle.sig_http.specs.Spelling.{query_part, request_line}
use Rattle.sig_http.proofs.AppendLemmas.{added, added_as, five}
use Rattle.sig_http.proofs.writing.add_request_line.Goals as goal

pub returns : goal.returns
unfolding request_line
returns c =
    added _ _ _ _ c.in_ok-add-4.ensures.ok (added _ _ _ _ (added_as _ _ _ _ c.in_ok-add_query.ensures (ap query_part c.as_str-3.ensures.same))
    (added _ _ _ _ (added_as _ _ _ _ c.in_ok-add-3.ensures.ok (c.as_bytes-2.ensures.value ∙ c.as_str-2.ensures.same))
    (added _ _ _ _ c.in_ok-add-2.ensures.ok
    (added_as _ _ _ _ c.in_ok-add.ensures.ok (c.as_bytes.ensures.value ∙ c.as_str.ensures.same)))))
    ∙ five c.args.text.now _ _ _ _ _
