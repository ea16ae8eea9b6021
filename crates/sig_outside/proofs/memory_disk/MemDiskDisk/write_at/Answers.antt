use Rattle.std.proofs.Common.{[], ◌∷◌}
use Rattle.sig_outside.specs.declared.disk_call.DiskCall.TheVariants.{Wrote}
use Rattle.sig_outside.proofs.KeptDiskLemmas.{makes_cause, makes_stop, makes_time, wrote_images, makes_seen}
use Rattle.sig_outside.proofs.memory_disk.MemDiskDisk.write_at.Goals as goal

pub returns-clause-written : goal.returns-clause-written
returns-clause-written c = makes_seen (Wrote c.args.at c.args.bytes.now ∷ []) c.args.self.now c.write_call.new.self c.write_call.result c.write_call.ensures.makes

pub returns-clause-images : goal.returns-clause-images
returns-clause-images c = wrote_images c.args.at c.args.bytes.now c.args.self.now c.write_call.new.self c.write_call.result c.write_call.ensures.makes

pub returns-clause-time : goal.returns-clause-time
returns-clause-time c = makes_time (Wrote c.args.at c.args.bytes.now) c.args.self.now c.write_call.new.self c.write_call.result c.write_call.ensures.makes

pub returns-clause-stop : goal.returns-clause-stop
returns-clause-stop c = makes_stop (Wrote c.args.at c.args.bytes.now ∷ []) c.args.self.now c.write_call.new.self c.write_call.result c.write_call.ensures.makes

pub returns-clause-cause : goal.returns-clause-cause
returns-clause-cause c = makes_cause (Wrote c.args.at c.args.bytes.now ∷ []) c.args.self.now c.write_call.new.self c.write_call.result c.write_call.ensures.makes c.write_call.ensures.counts
