use Rattle.std.proofs.Common.{◌≡◌, ◌++◌, ap, ◌∙◌, length, rules}
use Rattle.std.specs.Prelude.{codes, decimal}
use Rattle.std.proofs.lemmas.Result.{IfOk-equal}
use Rattle.sig_http.specs.Spelling.{field_line}
use Rattle.sig_http.proofs.AppendLemmas.{added, added_as, three}
use Rattle.sig_http.proofs.writing.add_body.Goals as goal

pub returns : goal.returns
returns c =
    let number : c.as_str.result.now ≡ decimal (length c.args.body.now) = search rules in
    IfOk-equal c.add-2.result c.add-2.new.self _ _ c.add-2.ensures.ok
    (ap (λ l. l ++ c.args.body.now) (added _ _ _ _ c.in_ok-add.ensures.ok (added_as _ _ _ _ c.in_ok-add_field.ensures (ap (field_line (codes "content-length")) number))) ∙ three c.args.text.now _ _ _)
