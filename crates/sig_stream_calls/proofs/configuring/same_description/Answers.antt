use Rattle.std.specs.Bool.{one_answer}
use Rattle.std.proofs.lemmas.Slice.Eq.{bytes_eq-Decides}
use Rattle.sig_stream_calls.proofs.SettingsLemmas.{options_decide}
use Rattle.sig_stream_calls.proofs.configuring.same_description.Goals as goal

pub returns : goal.returns
returns c = one_answer c.same.result _ (c.same.ensures.0, c.same.ensures.1) (options_decide bytes_eq-Decides c.args.one.now.description c.args.two.now.description)
