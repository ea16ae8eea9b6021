use Rattle.sig_serving.proofs.WritingLemmas.{refusal_out, refusal_with}
use Rattle.sig_serving.proofs.sending.refuse.Goals as goal

pub returns-in-Memory-clause-refusal : goal.returns-in-Memory-clause-refusal
returns-in-Memory-clause-refusal g c = refusal_out _ _ _ _ c.run_out.ensures.end c.run_out.ensures.sends

pub returns-in-Ok-clause-refusal : goal.returns-in-Ok-clause-refusal
returns-in-Ok-clause-refusal g c = refusal_with _ _ _ _ _ c.in-Ok.ensures c.in_default.not-Memory c.close_with.ensures.closes

pub returns-in-Err-clause-refusal : goal.returns-in-Err-clause-refusal
returns-in-Err-clause-refusal g c = refusal_out _ _ _ _ c.run_out-in-Err.ensures.end c.run_out-in-Err.ensures.sends
