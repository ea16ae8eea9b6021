use Rattle.std.proofs.Common.{IfOk, subst, ℕ, ◌≡◌}
use Rattle.sig_token_calls.proofs.SizeLemmas.{audience_list}
use Rattle.sig_token_calls.proofs.sizes.audience_size.Goals as goal

pub returns-in_default : goal.returns-in_default
returns-in_default c =
    subst (λ (k : ℕ). IfOk c.texts_size.result (λ n. n ≡ k)) (audience_list c.args.audience.now c.in_default.len_at_least) c.texts_size.ensures
