use Rattle.sig_service.proofs.CourierAskingLemmas.{courier_others}
use Rattle.sig_service.proofs.asking.courier_words.Goals as goal

pub returns-then-words-ne2 : goal.returns-then-words-ne2
returns-then-words-ne2 c = courier_others c.args.words.now c.if-words-ne2.true
