use Rattle.std.proofs.Common.{◌∙◌, ap}
use Rattle.sig_outside.specs.Held.{Holding}
use Rattle.sig_outside.proofs.HeldLemmas.{filled}
use Rattle.sig_outside.proofs.held.Held.fill.Goals as goal

pub returns-clause-piece : goal.returns-clause-piece
returns-clause-piece g c =
    filled _ _ c.args.self.now _ _ _ _ _ c.in_ok-count.ensures.piece (c.drop_front.ensures ∙ ap (λ (h : Holding). h.kept) c.self.view_is) (ap (λ (h : Holding). h.taken) c.self.view_is)
