use Rattle.std.proofs.Common.{length}
use Rattle.sig_outside.proofs.DiskCallLemmas.{torn_same}
use Rattle.sig_journal.specs.Durable.{TornFrom}
use Rattle.sig_journal.proofs.Moments.{started, goes_on}
use Rattle.sig_journal.proofs.durable.write_synced.Goals as goal

pub returns-in_err-write_at-clause-moments : goal.returns-in_err-write_at-clause-moments
returns-in_err-write_at-clause-moments g c =
    let file = c.args.file.now in
    let size = length c.args.bytes.now in
    let P = TornFrom (g.D.Disk.may_leave file) c.args.at size in
    let at_start = started g.D.Disk.moment g.D.Disk.left_since file P (λ image left. (image, g.met.D.Disk.only_now file image left, torn_same c.args.at size image)) in
    goes_on g.D.Disk.moment g.D.Disk.left_since file file c.write_at.new.self P _ at_start c.write_at.ensures.time (λ image now. c.write_at.ensures.images image now)

pub returns-clause-moments : goal.returns-clause-moments
returns-clause-moments g c =
    let file = c.args.file.now in
    let size = length c.args.bytes.now in
    let P = TornFrom (g.D.Disk.may_leave file) c.args.at size in
    let at_start = started g.D.Disk.moment g.D.Disk.left_since file P (λ image left. (image, g.met.D.Disk.only_now file image left, torn_same c.args.at size image)) in
    let wrote = goes_on g.D.Disk.moment g.D.Disk.left_since file file c.write_at.new.self P _ at_start c.write_at.ensures.time (λ image now. c.write_at.ensures.images image now) in
    goes_on g.D.Disk.moment g.D.Disk.left_since file c.write_at.new.self c.sync.new.self P _ wrote c.sync.ensures.time
    (λ image now. c.write_at.ensures.images image (c.sync.ensures.images image now))
