-- Looks of an errand, one more behind others.
use Rattle.std.proofs.Common.{◌≡◌, ◌∙◌, ℕ, List, [], ◌∷◌, ◌++◌, refl, sym, ap, subst, append-nil, append_assoc}
use Rattle.sig_links.specs.Views.{SideView}
use Rattle.sig_terms.specs.declared.rules.Rules.{Rules}
use Rattle.sig_txnode.specs.declared.turn.Turn.{Turn}
use Rattle.sig_txend.specs.Errands.{AreDone, Looked, Looks, Step}

pub looked_none : (rules : Rules) (number : ℕ) (side : SideView) (turns : List Turn) → turns ≡ [] → Looked rules number side side turns
looked_none rules number side turns none = record { steps = []; done = (refl, none) }

done_more : (rules : Rules) (number : ℕ) (steps : List Step) (before mid after : SideView) (turns turns' : List Turn) → AreDone rules number steps before mid turns → Looks rules number mid after turns turns'
    → Looked rules number before after turns'
done_more rules number [] before mid after turns turns' h one =
    let at : Looks rules number before after turns turns' = subst (λ (v : SideView). Looks rules number v after turns turns') h.0 one in
    record {
      steps = record { turns = at.more; after = after } ∷ [];
      done = (at.now, at.began, [], at.time, at.does, at.log ∙ ap (λ (l : List Turn). l ++ at.more) h.1 ∙ sym (append-nil at.more), (refl, refl));
    }
done_more rules number (step ∷ steps) before mid after turns turns' (now, began, rest, time, does, parts, later) one =
    let next : Looked rules number step.after after (rest ++ one.more) =
    done_more rules number steps step.after mid after rest (rest ++ one.more) later (record { now = one.now; began = one.began; more = one.more; time = one.time; does = one.does; log = refl }) in
    record {
      steps = step ∷ next.steps;
      done = (now, began, rest ++ one.more, time, does, one.log ∙ ap (λ (l : List Turn). l ++ one.more) parts ∙ append_assoc step.turns rest one.more, next.done);
    }

pub looked_more : (rules : Rules) (number : ℕ) (before mid after : SideView) (turns turns' : List Turn) → Looked rules number before mid turns → Looks rules number mid after turns turns'
    → Looked rules number before after turns'
looked_more rules number before mid after turns turns' h one = done_more rules number h.steps before mid after turns turns' h.done one
