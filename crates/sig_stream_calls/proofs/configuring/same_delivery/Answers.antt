use Rattle.std.specs.Bool.{one_answer}
use Rattle.std.proofs.lemmas.Slice.Eq.{bytes_eq-Decides}
use Rattle.sig_stream_calls.proofs.SettingsLemmas.{deliveries_decide}
use Rattle.sig_stream_calls.proofs.configuring.same_delivery.Goals as goal

pub returns : goal.returns
returns c = one_answer c.same.result _ (c.same.ensures.0, c.same.ensures.1) (deliveries_decide c.args.one.now.delivery c.args.two.now.delivery)
