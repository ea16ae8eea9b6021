use Rattle.sig_journal.proofs.ReadLemmas.{counted, one_read, more_read}
use Rattle.sig_journal.proofs.reading.read_all.Goals as goal

pub returns-in_default-clause-reads : goal.returns-in_default-clause-reads
returns-in_default-clause-reads g c =
    let D = g.D.Disk in
    one_read D.told D.seen D.may_leave D.moment D.left_since D.faults c.args.file.now c.size.new.self (λ image left. g.met.D.Disk.only_now c.args.file.now image left)
    c.size.ensures.kind.0 c.size.ensures.seen c.size.ensures.images c.size.ensures.time (counted _ _ c.size.result c.size.ensures.cause)

pub returns-in_err-bytes-clause-reads : goal.returns-in_err-bytes-clause-reads
returns-in_err-bytes-clause-reads g c =
    let D = g.D.Disk in
    one_read D.told D.seen D.may_leave D.moment D.left_since D.faults c.args.file.now c.size.new.self (λ image left. g.met.D.Disk.only_now c.args.file.now image left)
    c.size.ensures.kind.0 c.size.ensures.seen c.size.ensures.images c.size.ensures.time (counted _ _ c.size.result c.size.ensures.cause)

pub returns-in_default-read_at-clause-reads : goal.returns-in_default-read_at-clause-reads
returns-in_default-read_at-clause-reads g c =
    let D = g.D.Disk in
    let sized = one_read D.told D.seen D.may_leave D.moment D.left_since D.faults c.args.file.now c.size.new.self (λ image left. g.met.D.Disk.only_now c.args.file.now image left)
    c.size.ensures.kind.0 c.size.ensures.seen c.size.ensures.images c.size.ensures.time (counted _ _ c.size.result c.size.ensures.cause) in
    more_read D.told D.seen D.may_leave D.moment D.left_since D.faults c.args.file.now c.size.new.self c.read_at.new.self sized
    c.read_at.ensures.kind.0 c.read_at.ensures.seen c.read_at.ensures.images c.read_at.ensures.time (counted _ _ c.read_at.result c.read_at.ensures.cause)

pub returns-clause-reads : goal.returns-clause-reads
returns-clause-reads g c =
    let D = g.D.Disk in
    let sized = one_read D.told D.seen D.may_leave D.moment D.left_since D.faults c.args.file.now c.size.new.self (λ image left. g.met.D.Disk.only_now c.args.file.now image left)
    c.size.ensures.kind.0 c.size.ensures.seen c.size.ensures.images c.size.ensures.time (counted _ _ c.size.result c.size.ensures.cause) in
    more_read D.told D.seen D.may_leave D.moment D.left_since D.faults c.args.file.now c.size.new.self c.read_at.new.self sized
    c.read_at.ensures.kind.0 c.read_at.ensures.seen c.read_at.ensures.images c.read_at.ensures.time (counted _ _ c.read_at.result c.read_at.ensures.cause)
