use Rattle.std.proofs.Common.{List, [], ◌∷◌, ◌++◌, ◌∙◌, ap}
use Rattle.sig_outside.specs.declared.disk_call.DiskCall.{DiskCall}
use Rattle.sig_outside.specs.declared.disk_call.DiskCall.TheVariants.{Cut}
use Rattle.sig_outside.proofs.KeptDiskLemmas.{kept_now, pushed}
use Rattle.sig_outside.proofs.memory_disk.MemDisk.shorten.Goals as goal

pub invariant_of-self-2 : goal.invariant_of-self-2
invariant_of-self-2 c =
    let first = Cut c.args.size in
    let grew = pushed c.push.result c.reserve.new.self.items c.push.new.self.items first c.push.ensures.items c.if-is_err.ensures.value ∙ ap (λ (l : List DiskCall). l ++ first ∷ []) c.in_ok-reserve.ensures.items in
    kept_now c.self.inside.first c.as_slice.result.now c.self.inside.changed c.cut_bytes.new.changed c.self.inside.calls.items c.push.new.self.items (Cut c.args.size) c.as_slice.ensures c.in_ok-cut_bytes.ensures.ok c.self.invariant grew
