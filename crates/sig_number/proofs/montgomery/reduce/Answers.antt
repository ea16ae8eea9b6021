use Rattle.std.proofs.Common.{◌≡◌, ◌+◌, ◌*◌, ◌^◌, ◌<◌, length, ap, ◌∙◌, refl, subst, arith}
use Rattle.sig_number.specs.Value.{value_in}
use Rattle.sig_number.proofs.ValueLemmas.{fits_below, value_below}
use Rattle.sig_number.proofs.ModLemmas.{owed, not_owed, kept, restored, carried}
use Rattle.sig_number.proofs.montgomery.reduce.Goals as goal
use Rattle.sig_number.proofs.montgomery.reduce.Goals.{else-borrowed-via-then-borrowed+else-top-eq0, else-borrowed-via-else-borrowed}

pub returns-then-top-eq0 : goal.returns-then-top-eq0
returns-then-top-eq0 c =
    let b = 2 ^ 64 in
    let l = length c.args.modulus.now in
    let n = value_in b c.args.modulus.now in
    let low = c.args.low.now in
    let nw = value_below b c.args.modulus.now (omega arith) (λ k. fits_below _ (c.type_inv.modulus k)) in
    let z = c.args.top * b ^ l + value_in b low in
    let is : z ≡ c.args.top * b ^ l + value_in b low = refl in
    ap (value_in b) c.copy_from_slice.ensures.after ∙ restored (b ^ l) n z (value_in b low) c.args.top (value_in b c.subtract-borrowed.new.out) is nw c.requires.below (subst (λ z. value_in b c.subtract-borrowed.new.out < b ^ z) c.requires.out c.subtract-borrowed.ensures.fits) (owed (value_in b c.subtract-borrowed.new.out) n _ b _ l c.subtract-borrowed.result c.subtract-borrowed.ensures.difference c.if-borrowed.true c.requires.out) c.if-top-eq0.true

pub returns-else-borrowed : goal.returns-else-borrowed
returns-else-borrowed c =
    let b = 2 ^ 64 in
    let l = length c.args.modulus.now in
    let n = value_in b c.args.modulus.now in
    let low = c.args.low.now in
    let nw = value_below b c.args.modulus.now (omega arith) (λ k. fits_below _ (c.type_inv.modulus k)) in
    let z = c.args.top * b ^ l + value_in b low in
    let is : z ≡ c.args.top * b ^ l + value_in b low = refl in
    elim c.else-borrowed.branch [
      | else-borrowed-via-then-borrowed+else-top-eq0 w ↦ carried (b ^ l) n z (value_in b low) c.args.top (value_in b c.subtract-borrowed.new.out) is nw c.requires.below (owed (value_in b c.subtract-borrowed.new.out) n _ b _ l c.subtract-borrowed.result c.subtract-borrowed.ensures.difference w.if-borrowed.true c.requires.out) w.if-top-eq0.false
      | else-borrowed-via-else-borrowed w ↦ kept (b ^ l) n z (value_in b low) c.args.top (value_in b c.subtract-borrowed.new.out) is nw c.requires.below (not_owed (value_in b c.subtract-borrowed.new.out) n _ b _ c.subtract-borrowed.result c.subtract-borrowed.ensures.difference w.if-borrowed.false)
    ]
