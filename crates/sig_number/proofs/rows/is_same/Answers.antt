use Rattle.std.proofs.Common.{◌^◌, ap, sym}
use Rattle.sig_number.specs.Value.{value}
use Rattle.sig_number.proofs.ValueLemmas.{same_limbs, fits_below}
use Rattle.sig_number.proofs.rows.is_same.Goals as goal

pub returns : goal.returns
returns c = (
  λ h. ap value (c.has_same_limbs.ensures.0 h),
  λ e. c.has_same_limbs.ensures.1 (same_limbs (2 ^ 64) c.args.left.now c.args.right.now (λ k. fits_below _ (c.type_inv.left k)) (λ k. fits_below _ (c.type_inv.right k)) (sym c.requires) e),
)
