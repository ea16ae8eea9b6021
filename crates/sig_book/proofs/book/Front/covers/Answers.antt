use Rattle.std.proofs.Common.{ap, refl, subst}
use mathlib.Core.List.{IsPrefix}
use Rattle.sig_book.proofs.Fronts.{covered}
use Rattle.sig_book.proofs.book.Front.covers.Goals as goal

pub returns : goal.returns
returns g c =
    let both = c.learn.new.self.log in
    let this : IsPrefix c.self.inside.seen.log both = subst (λ l. IsPrefix l both) (ap (λ s. s.log) c.again-both.ensures) c.learn.ensures.2 in
    rw (← c.self.view_is, ← c.other.view_is)
    (covered c.self.inside.seen.log c.other.inside.seen.log both _ _ c.self.invariant.0 c.other.invariant.0 this c.learn.ensures.3 _ refl)
