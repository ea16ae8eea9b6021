use Rattle.std.proofs.Common.{rules, ◌∙◌, ap, sym, arith, Err, inl, inr}
use Rattle.sig_settings.specs.Bearers.{unless_at}
use Rattle.sig_settings.proofs.Reading.{told_here, told_later}
use Rattle.sig_settings.proofs.bearer.bearers_differ.Goals as goal

pub returns-then-was_read : goal.returns-then-was_read
returns-then-was_read g c =
    let here = told_here g.K.TextOf.text c.args.first.now _ c.args.name.now c.args.items.now _ c.loop-i.i c.index-items-i.result c.was_read.result
    (omega (arith, c.loop-i-test.true)) c.index-items-i.is c.text_of.ensures (search rules) c.was_read.ensures c.if-was_read.true in
    elim c.repeated_at.ensures [
      | inl h ↦ inl h
      | inr h ↦ inr (ap unless_at (c.loop-i.invariant ∙ here) ∙ ap Err (sym h))
    ]

pub loop-i-preserved : goal.loop-i-preserved
loop-i-preserved g c =
    c.loop-i.invariant
    ∙ told_later g.K.TextOf.text c.args.first.now _ c.args.name.now c.args.items.now _ c.loop-i.i c.index-items-i.result c.was_read.result
    (omega (arith, c.loop-i-test.true)) c.index-items-i.is c.text_of.ensures (search rules) c.was_read.ensures c.if-was_read.false
