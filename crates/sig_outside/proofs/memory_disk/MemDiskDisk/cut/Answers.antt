use Rattle.std.proofs.Common.{[], ◌∷◌}
use Rattle.sig_outside.specs.declared.disk_call.DiskCall.TheVariants.{Cut}
use Rattle.sig_outside.proofs.KeptDiskLemmas.{makes_cause, makes_stop, makes_time, cut_images, makes_seen}
use Rattle.sig_outside.proofs.memory_disk.MemDiskDisk.cut.Goals as goal

pub returns-clause-cut : goal.returns-clause-cut
returns-clause-cut c = makes_seen (Cut c.args.size ∷ []) c.args.self.now c.cut_call.new.self c.cut_call.result c.cut_call.ensures.makes

pub returns-clause-images : goal.returns-clause-images
returns-clause-images c = cut_images c.args.size c.args.self.now c.cut_call.new.self c.cut_call.result c.cut_call.ensures.makes

pub returns-clause-time : goal.returns-clause-time
returns-clause-time c = makes_time (Cut c.args.size) c.args.self.now c.cut_call.new.self c.cut_call.result c.cut_call.ensures.makes

pub returns-clause-stop : goal.returns-clause-stop
returns-clause-stop c = makes_stop (Cut c.args.size ∷ []) c.args.self.now c.cut_call.new.self c.cut_call.result c.cut_call.ensures.makes

pub returns-clause-cause : goal.returns-clause-cause
returns-clause-cause c = makes_cause (Cut c.args.size ∷ []) c.args.self.now c.cut_call.new.self c.cut_call.result c.cut_call.ensures.makes c.cut_call.ensures.counts
