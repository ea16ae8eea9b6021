use Rattle.sig_rxnode.proofs.AddsOne.{answer_fits, answer_row}
use Rattle.sig_rxnode.proofs.taker.RxNodeRxTaker.turn.Goals as goal

pub returns-clause-page : goal.returns-clause-page
returns-clause-page g c = answer_fits c.args.self.now.rules.trust c.args.self.now.kept.state c.args.call.now c.take.result c.take.ensures.answered.answer

pub returns-clause-row : goal.returns-clause-row
returns-clause-row g c = answer_row c.args.self.now.rules.trust c.args.self.now.kept.state c.args.call.now c.take.result c.take.ensures.answered.answer
