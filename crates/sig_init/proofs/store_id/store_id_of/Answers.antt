use Rattle.std.proofs.Common.{◌≡◌, ℕ, List, Option, Some, None, refl, sym, true≢false}
use Rattle.uuid.specs.Text.{parsed}
use Rattle.sig_init.proofs.store_id.store_id_of.Goals as goal

none_parsed : (o : Option (List ℕ)) → ((u : List ℕ) → o ≡ Some u → ⊥) → None ≡ o
none_parsed None h = refl
none_parsed (Some u) h = absurd (h u refl)

pub returns-in-Err : goal.returns-in-Err
returns-in-Err c = none_parsed (parsed c.args.word.now) (λ u e. true≢false (sym (c.in-Err.ensures.ok.1 (u, e))))
