use Rattle.std.proofs.Common.{◌<◌, ◌^◌, length, subst, sym}
use Rattle.std.proofs.Math.Facts.{Fits-lt-pow}
use Rattle.sig_cases.proofs.Short.{decoded_is_short}
use Rattle.sig_cases.proofs.records.token.Goals as goal

pub encode_token-requires : goal.encode_token-requires
encode_token-requires c =
    let short = decoded_is_short c.args.bytes.now c.in-Ok.token (λ i. Fits-lt-pow (c.type_inv.bytes i)) c.in-Ok.ensures in
    subst (λ token. length token < 2 ^ 32) (sym c.as_slice.ensures) short
