use Rattle.std.proofs.Common.{◌≡◌, ◌≤◌, ◌+◌, take, length, ◌∙◌, ap, sym, arith}
use borrow.Rule.Slice.PartMut.{mid_len}
use Rattle.std.specs.Result.{result_unwrap_or}
use Rattle.sig_outside.proofs.HeldLemmas.{cut_back, front_of_longer}
use Rattle.sig_opening.proofs.reading.take_piece.Goals as goal

pub returns-in-Ok-clause-piece : goal.returns-in-Ok-clause-piece
returns-in-Ok-clause-piece g c =
    let old = c.args.bytes.now.items in
    let at = c.len-old.result in
    let n = c.in-Ok.count in
    let piece = c.take-taken.new.buf in
    let counted : c.unwrap_or.result ≡ n = c.unwrap_or.ensures ∙ ap (λ r. result_unwrap_or r 0) c.in-Ok.is in
    let same : length old ≡ at = omega arith in
    let whole : take at c.as_mut_slice.result.now ≡ old = front_of_longer old _ _ at (at + c.args.ask) same (omega arith) (c.as_mut_slice.ensures.value ∙ c.in_ok-resize.ensures.items) in
    let long : length c.as_mut_slice.result.now ≡ at + c.args.ask = c.as_mut_slice.ensures.len ∙ c.in_ok-resize.ensures.len in
    let room : length piece ≡ c.args.ask = c.take-taken.auto.buf ∙ mid_len at (length c.as_mut_slice.result.now) c.as_mut_slice.result.now (omega arith) ∙ omega arith in
    let fits : n ≤ length piece = c.in-Ok.ensures.bound.0 in
    let short : at + n ≤ c.resize.new.self.len = omega (arith, c.in_ok-resize.ensures.len) in
    record {
      more = take n piece;
      gave = c.in-Ok.ensures.bytes.0;
      kept = cut_back old _ piece _ _ _ at _ n _ c.truncate.ensures.items counted same whole fits short;
      count = sym c.in-Ok.ensures.bound.1;
      bound = omega arith;
      ends = λ e. c.in-Ok.ensures.bytes.1 e (omega arith);
    }
