use Rattle.std.proofs.Common.{◌≡◌, ◌+◌, ◌*◌, ◌^◌, ◌%◌, refl, arith}
use Rattle.sig_number.proofs.inverse.negative_inverse.Goals as goal

pub returns : goal.returns
returns c =
    let start : (c.args.odd * 1 + 1) % 2 ≡ 0 = omega arith in
    let a = c.closer-bits_2.ensures 2 (2 ^ 62) refl start in
    let b = c.closer-bits_4.ensures (2 ^ 2) (2 ^ 60) refl a in
    let d = c.closer-bits_8.ensures (2 ^ 4) (2 ^ 56) refl b in
    let e = c.closer-bits_16.ensures (2 ^ 8) (2 ^ 48) refl d in
    let f = c.closer-bits_32.ensures (2 ^ 16) (2 ^ 32) refl e in
    c.closer.ensures (2 ^ 32) 1 refl f
