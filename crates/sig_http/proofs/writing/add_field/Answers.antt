use Rattle.std.proofs.Common.{ap, ◌++◌, ◌∙◌}
use Rattle.std.specs.Prelude.{codes}
use Rattle.std.proofs.lemmas.Result.{IfOk-equal, IfOk-from_err}
use Rattle.sig_http.proofs.AppendLemmas.{added, added_as, four}
use Rattle.sig_http.proofs.writing.add_field.Goals as goal

pub returns-in_err-add : goal.returns-in_err-add
returns-in_err-add c = IfOk-from_err c.from_residual.result _ c.from_residual.ensures.0

pub returns-in_err-add-2 : goal.returns-in_err-add-2
returns-in_err-add-2 c = IfOk-from_err c.from_residual-in_err-add-2.result _ c.from_residual-in_err-add-2.ensures.0

pub returns-in_err-add-3 : goal.returns-in_err-add-3
returns-in_err-add-3 c = IfOk-from_err c.from_residual-in_err-add-3.result _ c.from_residual-in_err-add-3.ensures.0

pub returns : goal.returns
returns c =
    IfOk-equal c.add-4.result c.add-4.new.self _ _ c.add-4.ensures.ok
    (ap (λ l. l ++ codes "\r\n") (added _ _ _ _ (added_as _ _ _ _ c.in_ok-add-3.ensures.ok c.as_bytes-2.ensures.value)
    (added _ _ _ _ c.in_ok-add-2.ensures.ok (added_as _ _ _ _ c.in_ok-add.ensures.ok c.as_bytes.ensures.value))) ∙ four c.args.text.now _ _ _ _)
