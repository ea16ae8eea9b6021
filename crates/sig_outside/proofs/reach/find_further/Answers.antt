use Rattle.std.proofs.Common.{◌∙◌, refl, subst}
use Rattle.sig_outside.specs.Lines.{HasNoLf}
use Rattle.sig_outside.proofs.HeldLemmas.{grows_none, grows_then}
use Rattle.sig_outside.proofs.ReachLemmas.{halts_grown}
use Rattle.sig_outside.proofs.reach.find_further.Goals as goal

pub pieces-init : goal.pieces-init
pieces-init g c = record { grows = grows_none _ _; within = c.requires; beside = refl; steady = refl }

pub returns-in-Err-clause-within : goal.returns-in-Err-clause-within
returns-in-Err-clause-within g c =
    halts_grown c.in-Err.fault _ _ _ _ _ _ c.pieces.invariant.grows c.pieces.invariant.within c.in-Err.ensures.kept.1 c.in-Err.ensures.kept.2

pub returns-in-Ok-eq0-clause-grows : goal.returns-in-Ok-eq0-clause-grows
returns-in-Ok-eq0-clause-grows g c = grows_then _ _ _ _ _ _ c.pieces.invariant.grows c.in-Ok-eq0.ensures.piece.grows

pub returns-in-Some-clause-grows : goal.returns-in-Some-clause-grows
returns-in-Some-clause-grows g c = grows_then _ _ _ _ _ _ c.pieces.invariant.grows c.in-Ok.ensures.piece.grows

pub pieces-preserved : goal.pieces-preserved
pieces-preserved g c = record {
  grows = grows_then _ _ _ _ _ _ c.pieces.invariant.grows c.in-Ok.ensures.piece.grows;
  within = subst HasNoLf c.as_slice.ensures.kept c.in_default.ensures.none;
  beside = c.in-Ok.ensures.beside ∙ c.pieces.invariant.beside;
  steady = c.in-Ok.ensures.steady ∙ c.pieces.invariant.steady;
}
