use Rattle.std.proofs.Common.{take, ◌∙◌, ap, refl, subst}
use Rattle.std.specs.Str.Lines.{strip_carriage_return}
use Rattle.sig_outside.specs.Reached.{IsLineOf, IsLastOf}
use Rattle.sig_outside.proofs.ReachLemmas.{yields_newline, yields_last, yields_over, halts_later}
use Rattle.sig_outside.proofs.reach.read_line.Goals as goal

pub returns-in_ok-line-in-Ok-Newline-clause-line : goal.returns-in_ok-line-in-Ok-Newline-clause-line
returns-in_ok-line-in-Ok-Newline-clause-line g c =
    let at = c.in-Ok-Newline.at in
    let reached = rw c.in-Ok-Newline.field-0-is at c.in-Ok-Newline.ensures.reaches in
    let stripped = c.strip.ensures ∙ ap strip_carriage_return (c.split_at.ensures.front ∙ ap (take at) c.as_slice.ensures.kept) in
    yields_newline _ _ c.in_ok-line-in-Ok-Newline.line _ c.find_end.new.held _ _ _ at c.in-Ok-Newline.ensures.grows reached.1 reached.2 c.advance.ensures.kept c.advance.ensures.taken
    (subst (λ x. IsLineOf c.args.room c.args.before x c.in_ok-line-in-Ok-Newline.line) stripped c.in_ok-line-in-Ok-Newline.ensures)

pub returns-in_ok-line-in-Ok-Last-clause-line : goal.returns-in_ok-line-in-Ok-Last-clause-line
returns-in_ok-line-in-Ok-Last-clause-line g c =
    let reached = rw c.in-Ok-Last.field-0-is at c.in-Ok-Last.ensures.reaches in
    yields_last _ _ c.in_ok-line-in-Ok-Last.line _ c.find_end.new.held _ _ _ c.in-Ok-Last.ensures.grows reached.0 reached.1 c.clear.ensures.kept c.clear.ensures.taken
    (subst (λ x. IsLastOf c.args.room c.args.before x c.in_ok-line-in-Ok-Last.line) c.as_slice-in-Ok-Last.ensures.kept c.in_ok-line-in-Ok-Last.ensures)

pub returns-in-Err-skip_line-clause-within : goal.returns-in-Err-skip_line-clause-within
returns-in-Err-skip_line-clause-within g c =
    halts_later _ _ c.find_end.new.held _ _ _ _ c.in-Ok-Over.ensures.grows c.in-Err-skip_line.ensures.within

pub returns-in-Ok-clause-line : goal.returns-in-Ok-clause-line
returns-in-Ok-clause-line g c =
    let reached = rw c.in-Ok-Over.field-0-is at c.in-Ok-Over.ensures.reaches in
    yields_over _ _ _ _ c.find_end.new.held _ _ _ _ c.in-Ok-Over.ensures.grows reached.0 reached.1 refl c.in-Ok.ensures.skips
