-- A token that is accepted is short, and its record is taken up again.
use Rattle.std.proofs.Common.{◌≡◌, ◌∙◌, ap, ℕ, ◌<◌, ◌≤◌, ◌^◌, List, [], ◌∷◌, length, Option, Some, None, Ok, refl, arith}
use Rattle.std.proofs.lemmas.Bool.{leb-true}
use Rattle.sig_json.specs.declared.limits.TheConstants.{TOKEN_BYTES}
use Rattle.sig_json.specs.Checks.{first_failing}
use Rattle.sig_inbox.specs.declared.pair.Pair.{Pair}
use Rattle.sig_event.specs.declared.claims.Claims.{Claims}
use Rattle.sig_set.specs.declared.trust.Trust.{Trust}
use Rattle.sig_set.specs.Checks.{Fault}
use Rattle.sig_set.specs.Judgement.{checks, claims_of, judged_by}
use Rattle.sig_set.proofs.ReadsClaims.{all_hold}
use Rattle.sig_set.proofs.ValidRead.{valid_read}
use Rattle.sig_entry.specs.Tokens.{decoded_token, token_spelling}
use Rattle.sig_entry.specs.Tokens as tokens
use Rattle.sig_entry.proofs.TokenLemmas.{tokens_agree}
use Rattle.sig_fields.proofs.Exact.{agrees_exact}
use Rattle.sig_receiver.specs.declared.heard.Heard.TheVariants.{Accepted}
use Rattle.sig_receiver.specs.Receiver.{Received, heard_at, heard_by, received_of}
use Rattle.sig_receiver.specs.Taking.{taken_by, text_taken}
use Rattle.sig_rxnode.specs.Records.{after_record, after_text, receiving}

-- no check failed where a judgement is answered so
passed : (o : Option Fault) (claims : Claims) (pairs : List Pair) → heard_by pairs (judged_by o claims) ≡ Accepted → o ≡ None
passed None claims pairs h = refl
passed (Some fault) claims pairs h = absurd cc

module _ (trust : Trust) (principal named : Option (List ℕ)) (state : Received) (text : List ℕ) (accepted : heard_at trust principal named state text ≡ Accepted) where
  all_pass : first_failing (checks trust principal named text) ≡ None
  all_pass = passed (first_failing (checks trust principal named text)) (claims_of text) state.pairs accepted

  pub accepted_short : length text ≤ TOKEN_BYTES
  accepted_short = leb-true (length text) TOKEN_BYTES (all_hold (checks trust principal named text) all_pass).1.0

  pub accepted_small : length text < 2 ^ 31
  accepted_small = omega (arith, accepted_short)

  says : text_taken text ≡ Ok tt
  says = ap taken_by (valid_read trust principal named text (claims_of text) (ap (λ o. judged_by o (claims_of text)) all_pass))

  spelled : decoded_token (token_spelling text) ≡ Ok text
  spelled = (agrees_exact (λ (t : List ℕ). length t < 2 ^ 32) tokens.token_spelling tokens.read_token tokens_agree).reads text (omega (arith, accepted_short))

  pub accepted_step : receiving.step state (token_spelling text) ≡ Some (received_of state (text ∷ []))
  accepted_step = ap (after_record state) spelled ∙ ap (after_text state text) says
