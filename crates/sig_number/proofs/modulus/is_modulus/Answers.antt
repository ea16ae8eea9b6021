use Rattle.std.proofs.Common.{sym, ◌∙◌, arith}
use Rattle.sig_number.proofs.SizeLemmas.{decides_sized, odd_test, size_test}
use Rattle.sig_number.proofs.modulus.is_modulus.Goals as goal

pub overflow_sub-result : goal.overflow_sub-result
overflow_sub-result c = let s = (decides_sized c.args.bytes.now).0 (sym c.is_sized.ensures ∙ c.if-is_sized.true) in omega arith

pub bounds-bytes-bytes : goal.bounds-bytes-bytes
bounds-bytes-bytes c = let s = (decides_sized c.args.bytes.now).0 (sym c.is_sized.ensures ∙ c.if-is_sized.true) in omega arith

pub returns-then-is_sized : goal.returns-then-is_sized
returns-then-is_sized c = odd_test c.args.bytes.now (sym c.is_sized.ensures ∙ c.if-is_sized.true)

pub returns-else-is_sized : goal.returns-else-is_sized
returns-else-is_sized c = c.if-is_sized.false ∙ size_test c.args.bytes.now (sym c.is_sized.ensures ∙ c.if-is_sized.false)
