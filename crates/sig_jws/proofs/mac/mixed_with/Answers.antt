use Rattle.std.proofs.Common.{ℕ, bit_xor, get_or, arith, rules}
use Rattle.std.proofs.lemmas.List.Edits.{map_over_more}
use Rattle.sig_jws.proofs.mac.mixed_with.Goals as goal

pub loop-x-preserved : goal.loop-x-preserved
loop-x-preserved c =
    let f : ℕ → ℕ = λ b. bit_xor b c.args.byte in
    map_over_more f c.args.block.now c.loop-x.x-items c.loop-x.x-index (get_or c.loop-x.x-items c.loop-x.x-index 0)
    (omega arith) c.loop-x.invariant (search rules)
