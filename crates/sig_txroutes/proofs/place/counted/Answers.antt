use Rattle.std.proofs.Common.{◌<◌, ◌∙◌, ap, rules}
use Rattle.std.specs.Prelude.{option_and_then, slice_index}
use Rattle.sig_txroutes.specs.Places.{within}
use Rattle.sig_txroutes.proofs.NumberLemmas.{parsed_number}
use Rattle.sig_txroutes.proofs.place.counted.Goals as goal

pub returns-in-len1-up : goal.returns-in-len1-up
returns-in-len1-up c =
    let begins : 48 < slice_index c.args.text.now 0 = search (rules, c.if-first-gt48.true) in
    c.up_to_last.ensures ∙ ap (option_and_then within) c.ok.ensures.value ∙ parsed_number c.args.text.now c.parse.result begins c.parse.ensures.value.0
