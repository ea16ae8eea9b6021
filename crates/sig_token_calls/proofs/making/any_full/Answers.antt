use Rattle.std.proofs.Common.{◌∙◌, sym, arith}
use Rattle.sig_token_calls.proofs.ToldLemmas.{full_below, full_found, full_untold}
use Rattle.sig_token_calls.proofs.making.any_full.Goals as goal
use Rattle.sig_token_calls.proofs.making.any_full.Goals.{else-tells-via-then-tells+else-made-ge-LAST_NUMBER, else-tells-via-else-tells}

pub returns-then-made-ge-LAST_NUMBER : goal.returns-then-made-ge-LAST_NUMBER
returns-then-made-ge-LAST_NUMBER c =
    full_found c.args.addressed.now c.args.accounts.now c.loop-place.place c.index-accounts-place.result _ c.requires (omega arith) c.index-accounts-place.is
    (sym c.tells.ensures ∙ c.if-tells.true) (omega (arith, c.if-made-ge-LAST_NUMBER.true, c.made.ensures)) c.loop-place.invariant

pub loop-place-preserved : goal.loop-place-preserved
loop-place-preserved c =
    elim c.else-tells.branch [
      | else-tells-via-then-tells+else-made-ge-LAST_NUMBER w ↦
          full_below c.args.addressed.now c.args.accounts.now c.loop-place.place c.index-accounts-place.result _ c.requires (omega arith) c.index-accounts-place.is
          (sym c.tells.ensures ∙ w.if-tells.true) (omega (arith, w.if-made-ge-LAST_NUMBER.false, w.made.ensures)) c.loop-place.invariant
      | else-tells-via-else-tells w ↦
          full_untold c.args.addressed.now c.args.accounts.now c.loop-place.place c.index-accounts-place.result _ c.requires (omega arith) c.index-accounts-place.is
          (sym c.tells.ensures ∙ w.if-tells.false) c.loop-place.invariant
    ]
