use Rattle.std.proofs.Common.{[], ◌∷◌, refl}
use Rattle.sig_outside.specs.declared.disk_call.DiskCall.TheVariants.{Synced}
use Rattle.sig_outside.proofs.KeptDiskLemmas.{kept_now}
use Rattle.sig_outside.proofs.memory_disk.MemDisk.keep.Goals as goal

pub invariant_of-self-2 : goal.invariant_of-self-2
invariant_of-self-2 c =
    kept_now c.self.inside.first _ c.self.inside.changed c.self.inside.changed c.self.inside.calls.items _ Synced refl refl c.self.invariant c.in_ok-push.ensures.items
