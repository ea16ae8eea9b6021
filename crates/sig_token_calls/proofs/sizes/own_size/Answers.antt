use Rattle.std.proofs.Common.{◌≡◌, ◌≤◌, ◌∙◌, ap, sym, subst, ℕ, ◌+◌, ◌-◌, length, arith}
use Rattle.std.specs.Fmt.{decimal}
use Rattle.sig_token_calls.specs.Sizes.{audience_bytes, escaped_bytes}
use Rattle.sig_token_calls.proofs.SizeLemmas.{own_least}
use Rattle.sig_token_calls.proofs.sizes.own_size.Goals as goal

all_bytes : (a i n t j d all aud iss name number : ℕ) → a ≡ aud → i ≡ iss → n ≡ name → d ≡ number → j ≡ i + n → t ≡ a + j → all ≡ t + d → aud + (iss + name) + number ≡ all
all_bytes a i n t j d all aud iss name number one two three four five six seven = omega arith

total : (c : goal.In_ok-all) → audience_bytes c.args.conf.now.aud + (escaped_bytes c.args.conf.now.iss + escaped_bytes c.args.conf.now.stream) + length (decimal c.args.number) ≡ c.in_ok-all.all
total c = all_bytes _ _ _ _ _ _ _ _ _ _ _ (c.in_ok-audience.ensures ∙ ap audience_bytes c.as_slice.ensures) (c.in_ok-issuer.ensures) (c.in_ok-name.ensures) c.digits_size.ensures (c.in_ok-joined.ensures) (c.in_ok-texts.ensures) (c.in_ok-all.ensures)

pub overflow_sub-result : goal.overflow_sub-result
overflow_sub-result c =
    subst (λ (n : ℕ). 3 ≤ n) (total c)
    (own_least c.args.conf.now.aud (escaped_bytes c.args.conf.now.iss + escaped_bytes c.args.conf.now.stream) c.args.number c.ranges.number.fits)

pub returns : goal.returns
returns c = ap (λ (n : ℕ). n - 3) (sym (total c))
