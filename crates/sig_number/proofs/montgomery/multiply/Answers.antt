use Rattle.std.proofs.Common.{◌^◌, length}
use Rattle.sig_number.specs.Value.{value}
use Rattle.sig_number.proofs.ModLemmas.{lifted}
use Rattle.sig_number.proofs.montgomery.multiply.Goals as goal

pub returns-clause-product : goal.returns-clause-product
returns-clause-product c =
    lifted ((2 ^ 64) ^ length c.args.modulus.now) (value c.args.modulus.now) (value c.add_cleared.new.total) (value c.finish.new.out) _
    c.add_cleared.ensures.cleared c.finish.ensures c.add_cleared.ensures.product
