use Rattle.std.proofs.Common.{ℕ, List, [], ◌∷◌, ◌++◌, ◌∙◌, ap}
use Rattle.sig_outside.specs.declared.disk_call.DiskCall.{DiskCall}
use Rattle.sig_outside.specs.declared.disk_call.DiskCall.TheVariants.{Wrote}
use Rattle.sig_outside.proofs.KeptDiskLemmas.{kept_now, pushed}
use Rattle.sig_outside.proofs.memory_disk.MemDisk.write.Goals as goal

pub invariant_of-self-2 : goal.invariant_of-self-2
invariant_of-self-2 c =
    let first = Wrote c.args.at c.in_ok-of.field-0 in
    let grew = pushed c.push.result c.reserve.new.self.items c.push.new.self.items first c.push.ensures.items c.if-is_err.ensures.value ∙ ap (λ (l : List DiskCall). l ++ first ∷ []) c.in_ok-reserve.ensures.items ∙ ap (λ (b : List ℕ). c.self.inside.calls.items ++ Wrote c.args.at b ∷ []) c.in_ok-of.ensures in
    kept_now c.self.inside.first c.as_slice.result.now c.self.inside.changed c.write_bytes.new.changed c.self.inside.calls.items c.push.new.self.items (Wrote c.args.at c.args.bytes.now) c.as_slice.ensures c.in_ok-write_bytes.ensures.ok c.self.invariant grew
