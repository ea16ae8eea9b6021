-- How a call is told whose fact makes tokens.
use Rattle.std.proofs.Common.{◌≡◌, ◌∙◌, ap, sym, ℕ, ◌+◌, List, true, false, nat_lt, None, Some, Ok, Err, if◌then◌else◌}
use Rattle.std.specs.List.{list_any}
use Rattle.std.specs.Prelude.{option_map}
use Rattle.sig_json.specs.declared.limits.TheConstants.{LAST_NUMBER, PAYLOAD_BYTES}
use Rattle.sig_terms.specs.declared.answer.Answer.{Answer}
use Rattle.sig_terms.specs.declared.answer.Answer.TheVariants.{Long}
use Rattle.sig_terms.specs.declared.fact.Fact.{Fact}
use Rattle.sig_terms.specs.declared.fault.PrepareFault.TheVariants.{Number}
use Rattle.sig_history.specs.Streams.{Made}
use Rattle.sig_history.specs.Sound.{is_past, largest}
use Rattle.sig_calls.specs.Told.{making_tokens, only, outcome}
use Rattle.sig_ledger.specs.Room.{Ready}
use Rattle.sig_ledger.specs.Steps.{reply_in}
use Rattle.sig_ledger.specs.declared.step.Step.{Step}

pub told_long : (tokens : List Made) (a : Answer) (f : Fact) (size : ℕ) → size ≡ largest tokens → nat_lt PAYLOAD_BYTES size ≡ true
    → outcome (making_tokens tokens a f) ≡ Ok (record { answer = Long size; change = None })
told_long tokens a f size is above =
    ap (λ b. outcome (if b then only (Long (largest tokens)) else record { answer = a; change = Some f; over = list_any is_past tokens }))
    (ap (nat_lt PAYLOAD_BYTES) (sym is) ∙ above)
    ∙ ap (λ k. Ok (record { answer = Long k; change = None })) (sym is)

short_told : (tokens : List Made) (a : Answer) (f : Fact) (size : ℕ) → size ≡ largest tokens → nat_lt PAYLOAD_BYTES size ≡ false
    → outcome (making_tokens tokens a f) ≡ outcome (record { answer = a; change = Some f; over = list_any is_past tokens })
short_told tokens a f size is within =
    ap (λ b. outcome (if b then only (Long (largest tokens)) else record { answer = a; change = Some f; over = list_any is_past tokens }))
    (ap (nat_lt PAYLOAD_BYTES) (sym is) ∙ within)

pub told_past : (tokens : List Made) (a : Answer) (f : Fact) (size : ℕ) → size ≡ largest tokens → nat_lt PAYLOAD_BYTES size ≡ false
    → list_any is_past tokens ≡ true → outcome (making_tokens tokens a f) ≡ Err (Number (LAST_NUMBER + 1))
told_past tokens a f size is within past =
    short_told tokens a f size is within ∙ ap (λ b. outcome (record { answer = a; change = Some f; over = b })) past

pub told_made : (tokens : List Made) (a : Answer) (f : Fact) (size : ℕ) → size ≡ largest tokens → nat_lt PAYLOAD_BYTES size ≡ false
    → list_any is_past tokens ≡ false → outcome (making_tokens tokens a f) ≡ Ok (record { answer = a; change = Some f })
told_made tokens a f size is within low =
    short_told tokens a f size is within ∙ ap (λ b. outcome (record { answer = a; change = Some f; over = b })) low

-- an answer without a fact
pub only_reply : (step : Step) (a : Answer) → step.answer ≡ a → step.change ≡ None → reply_in step ≡ record { answer = a; change = None }
only_reply step a answer change =
    ap (λ x. record { answer = x; change = option_map (λ (r : Ready). r.fact) step.change }) answer
    ∙ ap (λ r. record { answer = a; change = option_map (λ (k : Ready). k.fact) r }) change
