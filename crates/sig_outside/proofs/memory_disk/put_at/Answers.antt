use Rattle.std.proofs.Common.{◌≡◌, ◌+◌, ◌-◌, ◌++◌, max, List, ℕ, length, take, drop, replicate, sym, ◌∙◌, ap, arith}
use Rattle.std.proofs.lemmas.List.{take_all, with_items_is}
use Rattle.sig_outside.proofs.DiskCallLemmas.{put_over}
use Rattle.sig_outside.proofs.memory_disk.put_at.Goals as goal

pub returns-clause-ok : goal.returns-clause-ok
returns-clause-ok c =
    let old = c.args.held.now.items in
    let grown = c.resize.new.self.items in
    let size : c.max.result ≡ max (length old) (c.args.at + length c.args.bytes.now) =
    omega (arith, c.max.ensures, c.len.ensures, c.args.held.now.ok, c.in-Some.ensures.1) in
    let more : c.max.result - c.args.held.now.len ≡ max (length old) (c.args.at + length c.args.bytes.now) - length old = omega (arith, size, c.args.held.now.ok) in
    let is : grown ≡ old ++ replicate (max (length old) (c.args.at + length c.args.bytes.now) - length old) 0 =
    c.in_ok-resize.ensures.items
    ∙ ap (λ (l : List ℕ). l ++ replicate (c.max.result - c.args.held.now.len) 0) (take_all c.max.result old (omega (arith, size)))
    ∙ ap (λ (n : ℕ). old ++ replicate n 0) more in
    let put = c.overwrite.ensures ∙ ap (λ (l : List ℕ). take c.args.at l ++ c.args.bytes.now ++ drop (c.args.at + length c.args.bytes.now) l) c.as_mut_slice.ensures.value in
    with_items_is c.resize.new.self c.overwrite.new.held (c.overwrite.auto.held ∙ c.as_mut_slice.ensures.len) ∙ put ∙ put_over c.args.at c.args.bytes.now old grown is
