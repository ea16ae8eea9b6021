use Rattle.std.proofs.Common.{◌*◌, ◌^◌, ◌%◌, ap, arith}
use Rattle.std.proofs.Math.Nat.{one-le-pow}
use Rattle.sig_number.specs.Value.{value_in}
use Rattle.sig_number.proofs.ValueLemmas.{fits_below, first_limb, limb_at}
use Rattle.sig_number.proofs.ModLemmas.{low_sum}
use Rattle.sig_number.proofs.montgomery.clearing_multiple.Goals as goal

pub returns : goal.returns
returns c =
    let b = 2 ^ 64 in
    let t = c.args.total.now in
    let y = c.args.factor.now in
    ap (λ z. z * c.args.inverse % 2 ^ 64)
    (low_sum b (b ^ c.args.place) (value_in b t) _ c.args.limb (value_in b y) _ (one-le-pow c.args.place b (omega arith))
    (limb_at b t c.args.place (omega arith) c.requires.place (λ k. fits_below _ (c.type_inv.total k))) (first_limb b y c.requires.some (λ k. fits_below _ (c.type_inv.factor k))))
