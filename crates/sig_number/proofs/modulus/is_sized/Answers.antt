use Rattle.std.proofs.Common.{inl, inr, arith}
use Rattle.sig_number.proofs.ByteLemmas.{all_below}
use Rattle.sig_number.proofs.SizeLemmas.{not_sized, sized_least, sized_more}
use Rattle.sig_number.proofs.modulus.is_sized.Goals as goal
use Rattle.sig_number.proofs.modulus.is_sized.Goals.{then-bytes-lt-MODULUS_BYTES_LEAST-via-then-bytes-lt-MODULUS_BYTES_LEAST, then-bytes-lt-MODULUS_BYTES_LEAST-via-else-bytes-lt-MODULUS_BYTES_LEAST+then-bytes-gt-MODULUS_BYTES_MOST}

pub returns-then-bytes-lt-MODULUS_BYTES_LEAST : goal.returns-then-bytes-lt-MODULUS_BYTES_LEAST
returns-then-bytes-lt-MODULUS_BYTES_LEAST c =
    elim c.then-bytes-lt-MODULUS_BYTES_LEAST.branch [
      | then-bytes-lt-MODULUS_BYTES_LEAST-via-then-bytes-lt-MODULUS_BYTES_LEAST w ↦ not_sized c.args.bytes.now (inl w.if-bytes-lt-MODULUS_BYTES_LEAST.true)
      | then-bytes-lt-MODULUS_BYTES_LEAST-via-else-bytes-lt-MODULUS_BYTES_LEAST+then-bytes-gt-MODULUS_BYTES_MOST w ↦ not_sized c.args.bytes.now (inr w.if-bytes-gt-MODULUS_BYTES_MOST.true)
    ]

pub returns-then-bytes-eq-MODULUS_BYTES_LEAST : goal.returns-then-bytes-eq-MODULUS_BYTES_LEAST
returns-then-bytes-eq-MODULUS_BYTES_LEAST c =
    sized_least c.args.bytes.now (all_below c.args.bytes.now (λ k. omega (arith, c.type_inv.bytes k))) c.if-bytes-eq-MODULUS_BYTES_LEAST.true

pub returns-else-bytes-eq-MODULUS_BYTES_LEAST : goal.returns-else-bytes-eq-MODULUS_BYTES_LEAST
returns-else-bytes-eq-MODULUS_BYTES_LEAST c = sized_more c.args.bytes.now (omega arith) (omega arith)
