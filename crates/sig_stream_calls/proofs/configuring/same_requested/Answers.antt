use Rattle.std.specs.Bool.{one_answer}
use Rattle.std.proofs.lemmas.Slice.Eq.{bytes_eq-Decides}
use Rattle.sig_stream_calls.proofs.SettingsLemmas.{options_decide, texts_decide}
use Rattle.sig_stream_calls.proofs.configuring.same_requested.Goals as goal

pub returns : goal.returns
returns c = one_answer c.same.result _ (c.same.ensures.0, c.same.ensures.1) (options_decide texts_decide c.args.one.now.requested c.args.two.now.requested)
