use Rattle.sig_serving.proofs.WritingLemmas.{puts_text}
use Rattle.sig_serving.proofs.sending.run_out.Goals as goal

pub returns-clause-sends : goal.returns-clause-sends
returns-clause-sends g c =
    puts_text _ _ _ _ _ _ c.put_all.result c.memory_response-text.ensures (g.met.L.Link.moves _) (g.met.L.Link.moves _) c.put_all.ensures.all c.put_all.ensures.prefix
    c.put_all.ensures.failed c.put_all.ensures.steady c.put_all.ensures.stuck
