use Rattle.sig_service.proofs.StoreAskingLemmas.{store_others}
use Rattle.sig_service.proofs.asking.store_words.Goals as goal

pub returns-then-words-ne3 : goal.returns-then-words-ne3
returns-then-words-ne3 c = store_others c.args.words.now c.if-words-ne3.true
