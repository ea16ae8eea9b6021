use Rattle.sig_service.proofs.ManageAskingLemmas.{manage_others}
use Rattle.sig_service.proofs.asking.manage_words.Goals as goal

pub returns-then-words-ne1 : goal.returns-then-words-ne1
returns-then-words-ne1 c = manage_others c.args.words.now c.if-words-ne1.true
