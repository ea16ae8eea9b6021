use Rattle.std.proofs.Common.{◌<◌, ◌∙◌, rules}
use Rattle.std.specs.Prelude.{slice_index}
use Rattle.sig_stream.proofs.Ports.{parsed_port}
use Rattle.sig_stream.proofs.endpoint.number_in.Goals as goal

pub returns-in-len1-up : goal.returns-in-len1-up
returns-in-len1-up c =
    let first : 48 < slice_index c.args.text.now 0 = search (rules, c.if-first-gt48.true) in
    c.ok.ensures.value ∙ parsed_port c.args.text.now c.parse.result first c.parse.ensures.value.0
