-- Tokens are read as they are spelled.
use Rattle.std.proofs.Common.{◌≡◌, ◌<◌, ◌^◌, ◌==◌, ap, ◌∙◌, refl, ℕ, List, ◌++◌, length, Bool, true, false, Some, arith}
use Rattle.std.specs.Prelude.{Result, Ok, ⊤}
use Rattle.std.proofs.lemmas.Bool.Decides.{nat_tests}
use Rattle.sig_fields.specs.Agreeing.{Agrees, AreBytes}
use Rattle.sig_fields.specs.Kinds as kinds
use Rattle.sig_fields.specs.Reading.{ruled}
use Rattle.sig_fields.proofs.Agreeing.{HasRule, bytes_agree, joined_spelling, ruled_agrees, sized_agrees, then_reads, then_spells}
use Rattle.sig_entry.specs.Tokens as tokens

abbrev IsKind : Bool → Type 0
IsKind b = b ≡ true

token_rule : HasRule (λ (b : ℕ). ⊤) IsKind tokens.kind_in (λ (b : Bool). 1)
token_rule = record { sound = sound; complete = complete }
  where
    sound : (y : Bool) → IsKind y → ⊤ × (tokens.kind_in 1 ≡ Some y)
    sound true _ = (tt, refl)
    sound false h = cc

    complete : (x : ℕ) (y : Bool) → ⊤ → tokens.kind_in x ≡ Some y → IsKind y × (x ≡ 1)
    complete x true _ h = (refl, grind (arith, nat_tests))
    complete x false _ h = grind (arith, nat_tests)

kind_agrees : Agrees IsKind (λ (b : Bool). kinds.byte_bytes 1) (ruled tokens.kind_in kinds.byte)
kind_agrees = ruled_agrees (λ b. ⊤) IsKind kinds.byte_bytes kinds.byte tokens.kind_in (λ b. 1) bytes_agree token_rule

pub tokens_agree : Agrees (λ (t : List ℕ). length t < 2 ^ 32) tokens.token_spelling tokens.read_token
tokens_agree = record { reads = reads; spells = spells }
  where
    reads : (t rest : List ℕ) → length t < 2 ^ 32 → tokens.read_token (tokens.token_spelling t ++ rest) ≡ Ok (t, rest)
    reads t rest short = sized_agrees.reads t rest short

    spells : (bytes t rest : List ℕ) → AreBytes bytes → tokens.read_token bytes ≡ Ok (t, rest) → (length t < 2 ^ 32) × (bytes ≡ tokens.token_spelling t ++ rest)
    spells bytes t rest are h =
        let k = then_spells IsKind (λ (b : Bool). kinds.byte_bytes 1) (ruled tokens.kind_in kinds.byte) kind_agrees (λ b. kinds.sized) bytes t rest are h in
        let s = sized_agrees.spells k.mid t rest k.are k.then in
        (s.0, joined_spelling bytes (kinds.byte_bytes 1) k.mid (kinds.text_bytes t) rest k.spelt s.1)
