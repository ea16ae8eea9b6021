use Rattle.sig_service.proofs.AskingLemmas.{of_others}
use Rattle.sig_service.proofs.asking.init_words.Goals as goal

pub returns-then-words-ne3 : goal.returns-then-words-ne3
returns-then-words-ne3 c = of_others c.args.words.now c.if-words-ne3.true
