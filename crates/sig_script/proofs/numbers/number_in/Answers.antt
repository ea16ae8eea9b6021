use Rattle.std.proofs.Common.{◌≡◌, ◌∙◌, ap, sym, subst, true}
use Rattle.std.specs.Prelude.{option_and_then}
use Rattle.sig_script.specs.Numbers.{is_decimal, within}
use Rattle.sig_script.proofs.NumberLemmas.{parsed_number}
use Rattle.sig_script.proofs.numbers.number_in.Goals as goal

pub returns : goal.returns
returns c =
    let is : is_decimal c.args.word.now ≡ true = subst (λ bs. is_decimal bs ≡ true) c.as_bytes.ensures.value (sym c.is_decimal.ensures ∙ c.if-not-is_decimal.false) in
    c.up_to_last.ensures ∙ ap (option_and_then within) c.ok.ensures.value ∙ parsed_number c.args.word.now c.parse.result is c.parse.ensures.value.0
