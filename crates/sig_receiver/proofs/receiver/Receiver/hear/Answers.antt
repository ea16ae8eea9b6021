use Rattle.std.proofs.Common.{◌∙◌, ap, option_copied}
use Rattle.sig_receiver.specs.Receiver.{committed_if, nothing}
use Rattle.sig_receiver.proofs.KeptLemmas.{answer_over, stands_after}
use Rattle.sig_receiver.proofs.receiver.Receiver.hear.Goals as goal

pub returns-clause-answer_over : goal.returns-clause-answer_over
returns-clause-answer_over c = λ base journal stands.
    answer_over c.args.trust.now base (option_copied c.args.principal) (option_copied c.args.named) c.args.self.now journal c.args.text.now
    c.in_ok-heard.field-0.heard c.in_ok-heard.ensures.heard stands

pub returns-clause-kept_over : goal.returns-clause-kept_over
returns-clause-kept_over c = λ base journal stands.
    stands_after base c.args.self.now c.commit_some.new.self journal c.args.text.now c.in_ok-heard.field-0.heard
    (c.commit_some.ensures ∙ ap (committed_if c.in_ok-heard.field-0.change) c.in_ok-heard.ensures.same ∙ c.in_ok-heard.ensures.makes) stands

pub returns-clause-answer : goal.returns-clause-answer
returns-clause-answer c = λ journal stands.
    answer_over c.args.trust.now nothing (option_copied c.args.principal) (option_copied c.args.named) c.args.self.now journal c.args.text.now
    c.in_ok-heard.field-0.heard c.in_ok-heard.ensures.heard stands

pub returns-clause-kept : goal.returns-clause-kept
returns-clause-kept c = λ journal stands.
    stands_after nothing c.args.self.now c.commit_some.new.self journal c.args.text.now c.in_ok-heard.field-0.heard
    (c.commit_some.ensures ∙ ap (committed_if c.in_ok-heard.field-0.change) c.in_ok-heard.ensures.same ∙ c.in_ok-heard.ensures.makes) stands
