use Rattle.std.proofs.Common.{◌≡◌, ℕ, List, Option, Some, None, refl, sym, option_and_then, true≢false}
use Rattle.uuid.specs.Text.{parsed}
use Rattle.sig_accounts.specs.PublishIds.{written_as}
use Rattle.sig_accounts.proofs.publish_id.uuid_of.Goals as goal

none_parsed : (text : List ℕ) (o : Option (List ℕ)) → ((u : List ℕ) → o ≡ Some u → ⊥) → None ≡ option_and_then (written_as text) o
none_parsed text None h = refl
none_parsed text (Some u) h = absurd (h u refl)

pub returns-in-Err : goal.returns-in-Err
returns-in-Err c = none_parsed c.args.text.now (parsed c.args.text.now) (λ u e. true≢false (sym (c.in-Err.ensures.ok.1 (u, e))))
