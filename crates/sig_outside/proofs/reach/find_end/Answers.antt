use Rattle.std.proofs.Common.{◌≡◌, ◌∙◌, true, false, sym, subst}
use Rattle.sig_outside.specs.Lines.{HasNoLf, has_lf}
use Rattle.sig_outside.proofs.HeldLemmas.{grows_none}
use Rattle.sig_outside.proofs.LineLemmas.{has_lf_none}
use Rattle.sig_outside.proofs.reach.find_end.Goals as goal

pub returns-in-Some-clause-grows : goal.returns-in-Some-clause-grows
returns-in-Some-clause-grows g c = grows_none _ _

pub returns-in-None-clause-asks : goal.returns-in-None-clause-asks
returns-in-None-clause-asks g c = λ h.
    let none : has_lf c.args.held.now.kept ≡ false = has_lf_none _ (subst HasNoLf c.as_slice.ensures.kept c.in-None.ensures.none) in
    let apart : true ≡ false = sym h ∙ none in
    cc
