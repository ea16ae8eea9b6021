use Rattle.std.proofs.Common.{rules, ap, ◌∙◌}
use Rattle.std.specs.Prelude.{◌≡◌, ◌++◌, nat_lt, false, length}
use Rattle.std.proofs.lemmas.List.{drop-replicate}
use Rattle.sig_jws.proofs.mac.block_from.Goals as goal

pub returns-else-key-gt-BLOCK_BYTES : goal.returns-else-key-gt-BLOCK_BYTES
returns-else-key-gt-BLOCK_BYTES c =
    let short : nat_lt 64 (length c.args.key.now) ≡ false = search (rules, c.if-key-gt-BLOCK_BYTES.false) in
    rw short (c.put_prefix-else-key-gt-BLOCK_BYTES.ensures ∙ ap (λ z. c.args.key.now ++ z) (drop-replicate _ 64 0))
