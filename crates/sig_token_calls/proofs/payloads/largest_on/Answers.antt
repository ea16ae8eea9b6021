use Rattle.std.proofs.Common.{◌∙◌, ap, sym, arith, ℕ, ◌+◌, drop, map, max}
use Rattle.sig_token_calls.specs.Sizes.{most_on}
use Rattle.sig_token_calls.specs.Tokens.{stream_of}
use Rattle.sig_token_calls.proofs.ToldLemmas.{most_told, most_untold}
use Rattle.sig_token_calls.proofs.payloads.largest_on.Goals as goal
use Rattle.sig_token_calls.proofs.payloads.largest_on.Goals.{then-tells+in_ok-size, else-tells}

pub loop-place-preserved : goal.loop-place-preserved
loop-place-preserved c =
    let later : ℕ = most_on c.args.shared c.args.addressed.now.fact (map stream_of (drop (c.loop-place.place + 1) c.args.accounts.now)) in
    elim c.if-tells.branch [
      | then-tells+in_ok-size w ↦ ap (λ (k : ℕ). max k later) (w.most-is ∙ w.larger-most.ensures)
          ∙ most_told c.args.addressed.now c.args.accounts.now c.args.shared c.loop-place.place c.index-accounts-place.result _ c.loop-place.most w.in_ok-size.size c.requires.told
          (omega arith) c.index-accounts-place.is (sym c.tells.ensures ∙ w.if-tells.true) w.in_ok-size.ensures c.loop-place.invariant
      | else-tells w ↦ ap (λ (k : ℕ). max k later) w.most-is
          ∙ most_untold c.args.addressed.now c.args.accounts.now c.args.shared c.loop-place.place c.index-accounts-place.result _ c.loop-place.most c.requires.told
          (omega arith) c.index-accounts-place.is (sym c.tells.ensures ∙ w.if-tells.false) c.loop-place.invariant
    ]
