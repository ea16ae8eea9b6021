use Rattle.std.proofs.Common.{◌∙◌, ap, inr}
use Rattle.std.specs.Prelude.{ok_or}
use Rattle.sig_json.proofs.JsonLemmas.{json_of-utf8, json_of-none}
use Rattle.sig_json.specs.declared.reading.JsonFault.TheVariants.{NotJson}
use Rattle.sig_json.proofs.reading.read.Goals as goal

pub returns-in-Ok-clause-value : goal.returns-in-Ok-clause-value
returns-in-Ok-clause-value c =
    ap (λ o. ok_or o NotJson) (json_of-utf8 c.args.bytes.now c.in-Ok.ensures.ok.0 ∙ c.in-Ok.ensures.ok.1)

pub returns-in_default-clause-value : goal.returns-in_default-clause-value
returns-in_default-clause-value c =
    inr (ap (λ o. ok_or o NotJson) (json_of-none c.args.bytes.now (c.in-Err.ensures.err (λ m. c.in_default.not-Memory (c.classify.ensures.memory.1 m)))))
