use Rattle.std.proofs.Common.{◌^◌, get_or, take, arith}
use Rattle.sig_number.specs.Value.{value_in}
use Rattle.sig_number.proofs.ValueLemmas.{value_more, value_more_set, borrow_step, weight_one}
use Rattle.sig_number.proofs.ModLemmas.{limb_fits}
use Rattle.sig_number.proofs.rows.subtract.Goals as goal

pub loop-i-preserved : goal.loop-i-preserved
loop-i-preserved c =
    let b = 2 ^ 64 in
    let j = c.loop-i.i in
    let out = c.loop-i.out in
    let x = c.args.left.now in
    let y = c.args.right.now in
    let r = c.borrowing_sub-low.result in
    record {
      fits = rw (value_more_set b out j r.0 (omega arith), weight_one b j)
          (limb_fits b (b ^ j) (value_in b (take j out)) r.0 c.loop-i.invariant.fits (omega arith));
      difference = rw (value_more_set b out j r.0 (omega arith), value_more b x j (omega arith), value_more b y j (omega arith), weight_one b j)
          (borrow_step b (b ^ j) (value_in b (take j out)) 0 (get_or x j 0) r.0 (value_in b (take j y)) (value_in b (take j x)) _ _ (get_or y j 0)
          c.borrowing_sub-low.ensures c.loop-i.invariant.difference);
    }
