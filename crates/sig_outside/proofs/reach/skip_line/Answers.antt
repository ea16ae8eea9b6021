use Rattle.std.proofs.Common.{◌≡◌, ◌+◌, ℕ, List, false, ◌∷◌, ◌++◌, take, drop, ◌∙◌, ap, refl, subst, arith}
use Rattle.std.specs.Prelude.{◌==◌}
use Rattle.std.proofs.lemmas.List.Elements.{All-nil, All-append}
use Rattle.sig_outside.specs.Lines.{HasNoLf}
use Rattle.sig_outside.proofs.HeldLemmas.{draws_none, draws_after, draws_then}
use Rattle.sig_outside.proofs.ReachLemmas.{halts_passed, skips_end, skips_newline}
use Rattle.sig_outside.proofs.reach.skip_line.Goals as goal

pub pieces-init : goal.pieces-init
pieces-init g c = record { passed = (draws_none _ _, All-nil (λ b. (b == 10) ≡ false)); beside = refl; steady = refl }

pub returns-in-Err-clause-within : goal.returns-in-Err-clause-within
returns-in-Err-clause-within g c =
    halts_passed c.in-Err.fault _ c.pieces.held _ _ _ _ c.requires c.pieces.invariant.passed.0 c.pieces.invariant.passed.1 (c.in-Err.ensures.kept.1 ∙ c.clear.ensures.taken) c.in-Err.ensures.kept.2

pub returns-in-Ok-eq0-clause-skips : goal.returns-in-Ok-eq0-clause-skips
returns-in-Ok-eq0-clause-skips g c =
    let piece = c.in-Ok-eq0.ensures.piece in
    let none : c.in-Ok-eq0.field-0 ≡ 0 = omega arith in
    skips_end _ c.pieces.held _ _ _ _ c.pieces.invariant.passed.0 c.pieces.invariant.passed.1 (draws_after c.pieces.held _ _ _ _ piece.grows.draws c.clear.ensures.taken)
    (piece.grows.kept ∙ ap (λ x. x ++ piece.grows.draws.more) c.clear.ensures.kept) (piece.count ∙ none) (piece.ends none)

pub returns-in-Some-clause-skips : goal.returns-in-Some-clause-skips
returns-in-Some-clause-skips g c =
    let piece = c.in-Ok.ensures.piece in
    let at = c.in-Some.end in
    skips_newline _ c.pieces.held c.fill.new.self _ _ _ _ at c.pieces.invariant.passed.0 c.pieces.invariant.passed.1 (draws_after c.pieces.held _ _ _ _ piece.grows.draws c.clear.ensures.taken)
    (piece.grows.kept ∙ ap (λ x. x ++ piece.grows.draws.more) c.clear.ensures.kept)
    (subst (λ s. HasNoLf (take at s)) c.as_slice.ensures.kept c.in-Some.ensures.none)
    (subst (λ (s : List ℕ). s ≡ take at s ++ 10 ∷ drop (at + 1) s) c.as_slice.ensures.kept c.in-Some.ensures.some.1)
    c.advance.ensures.kept c.advance.ensures.taken

pub pieces-preserved : goal.pieces-preserved
pieces-preserved g c =
    let piece = c.in-Ok.ensures.piece in
    let before = c.pieces.invariant in
    let q = draws_after c.pieces.held _ _ _ _ piece.grows.draws c.clear.ensures.taken in
    let same = c.as_slice.ensures.kept ∙ piece.grows.kept ∙ ap (λ x. x ++ piece.grows.draws.more) c.clear.ensures.kept in
    record {
      passed = (draws_then _ c.pieces.held _ _ _ _ before.passed.0 q, All-append (λ b. (b == 10) ≡ false) before.passed.0.more piece.grows.draws.more before.passed.1 (subst HasNoLf same c.in_default.ensures.none));
      beside = c.in-Ok.ensures.beside ∙ before.beside;
      steady = c.in-Ok.ensures.steady ∙ before.steady;
    }
