use Rattle.std.proofs.Common.{[], ◌∷◌}
use Rattle.sig_outside.specs.declared.disk_call.DiskCall.TheVariants.{Synced}
use Rattle.sig_outside.proofs.KeptDiskLemmas.{makes_cause, makes_stop, makes_time, synced_images, synced_only, synced_seen}
use Rattle.sig_outside.proofs.memory_disk.MemDiskDisk.sync.Goals as goal

pub returns-clause-durable : goal.returns-clause-durable
returns-clause-durable c = synced_only c.args.self.now c.sync_call.new.self c.sync_call.result c.sync_call.ensures.makes

pub returns-clause-seen : goal.returns-clause-seen
returns-clause-seen c = synced_seen c.args.self.now c.sync_call.new.self c.sync_call.result c.sync_call.ensures.makes

pub returns-clause-images : goal.returns-clause-images
returns-clause-images c = synced_images c.args.self.now c.sync_call.new.self c.sync_call.result c.sync_call.ensures.makes

pub returns-clause-time : goal.returns-clause-time
returns-clause-time c = makes_time Synced c.args.self.now c.sync_call.new.self c.sync_call.result c.sync_call.ensures.makes

pub returns-clause-stop : goal.returns-clause-stop
returns-clause-stop c = makes_stop (Synced ∷ []) c.args.self.now c.sync_call.new.self c.sync_call.result c.sync_call.ensures.makes

pub returns-clause-cause : goal.returns-clause-cause
returns-clause-cause c = makes_cause (Synced ∷ []) c.args.self.now c.sync_call.new.self c.sync_call.result c.sync_call.ensures.makes c.sync_call.ensures.counts
