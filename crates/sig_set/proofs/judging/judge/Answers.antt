use Rattle.std.proofs.Common.{subst}
use Rattle.std.specs.Prelude.{option_copied}
use Rattle.sig_json.specs.Answers.{Answers}
use Rattle.sig_set.specs.Judgement.{judged, result_of}
use Rattle.sig_set.specs.declared.refusal.Refusal.TheVariants.{Memory}
use Rattle.sig_set.specs.declared.trust.Trust.{Trust}
use Rattle.sig_set.proofs.judging.judge.Goals as goal

pub returns : goal.returns
returns c =
    subst (λ (trust : Trust). Answers Memory c.judge_prepared.result (result_of (judged trust (option_copied c.args.principal) (option_copied c.args.named) c.args.bytes.now)))
    c.in_ok-prepared.ensures c.judge_prepared.ensures
