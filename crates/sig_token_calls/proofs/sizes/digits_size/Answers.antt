use Rattle.std.proofs.Common.{sym}
use Rattle.sig_token_calls.proofs.SizeLemmas.{digits_bytes}
use Rattle.sig_token_calls.proofs.sizes.digits_size.Goals as goal

pub returns : goal.returns
returns c = sym (digits_bytes c.ilog10.result c.args.number c.ilog10.ensures.power_le c.ilog10.ensures.next_power_gt c.ranges.number.fits)
