use Rattle.std.proofs.Common.{◌+◌, ◌^◌, get_or, set, take, arith, ◌∙◌}
use Rattle.std.specs.Int.{from_bool}
use Rattle.std.proofs.lemmas.List.{drop-set-lt}
use Rattle.sig_number.specs.Value.{value_in}
use Rattle.sig_number.proofs.ValueLemmas.{value-set, value_more, double_step, weight_one, same_rest, same_first}
use Rattle.sig_number.proofs.rows.double.Goals as goal

pub loop-i-preserved : goal.loop-i-preserved
loop-i-preserved c =
    let b = 2 ^ 64 in
    let j = c.loop-i.i in
    let x = c.loop-i.limbs in
    let x0 = c.args.limbs.now in
    let r = c.carrying_add-low.result in
    let same = same_first x x0 j c.loop-i.invariant.rest in
    record {
      sum = rw (value_more b x0 j (omega arith), weight_one b j, ← same)
          (double_step b (b ^ j) (get_or x j 0) r.0 (from_bool r.1) (from_bool c.loop-i.carry) (value_in b x) (value_in b (set x j r.0)) (value_in b x0) (value_in b (take j x0))
          c.carrying_add-low.ensures c.loop-i.invariant.sum (value-set b x j r.0 (omega arith)));
      rest = drop-set-lt (j + 1) x j r.0 (omega arith) ∙ same_rest x x0 j c.loop-i.invariant.rest;
    }
