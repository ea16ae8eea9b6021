use Rattle.std.proofs.Common.{◌≡◌, ◌∙◌, ap, drop, length}
use Rattle.std.specs.Fmt.{decimal}
use Rattle.std.specs.Result.{result_ok}
use Rattle.std.proofs.Math.Seq.{drop-append_seam}
use Rattle.std.proofs.lemmas.Fmt.{parse-decimal}
use Rattle.sig_token_calls.proofs.verdicts.number_after.Goals as goal

pub returns-in-Some : goal.returns-in-Some
returns-in-Some c n small is =
    let cut = c.in-Some.ensures.cases in
    let digits : c.in-Some.digits.now ≡ decimal n =
    cut.2 ∙ ap (λ k. drop k c.args.text.now) cut.1.0 ∙ ap (drop (length c.args.prefix.now)) is ∙ drop-append_seam c.args.prefix.now (decimal n) in
    c.ok.ensures.value ∙ ap result_ok (parse-decimal 64 n c.in-Some.digits.now c.parse.result small small digits c.parse.ensures.value.0)
