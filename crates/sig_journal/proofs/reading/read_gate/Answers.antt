use Rattle.std.proofs.Common.{ℕ, List, take, ◌∙◌, ap, arith}
use Rattle.sig_journal.specs.Store.{gate_of}
use Rattle.sig_journal.proofs.LoadLemmas.{gate_front}
use Rattle.sig_journal.proofs.ReadLemmas.{counted, one_read}
use Rattle.sig_journal.proofs.reading.read_gate.Goals as goal

pub returns-clause-gate : goal.returns-clause-gate
returns-clause-gate g c = λ told.
    let seen = g.D.Disk.seen c.args.file.now in
    let read = c.in_ok-count.ensures.bytes told in
    c.gate_in.ensures ∙ ap gate_of (c.split_at.ensures.front ∙ ap (λ (l : List ℕ). take c.in_ok-count.count l) c.as_slice.ensures ∙ read.bytes)
    ∙ gate_front seen c.in_ok-count.count (omega (arith, read.all, c.read_at.auto.buf))

pub returns-in_err-count-clause-reads : goal.returns-in_err-count-clause-reads
returns-in_err-count-clause-reads g c =
    let D = g.D.Disk in
    one_read D.told D.seen D.may_leave D.moment D.left_since D.faults c.args.file.now c.read_at.new.self (λ image left. g.met.D.Disk.only_now c.args.file.now image left)
    c.read_at.ensures.kind.0 c.read_at.ensures.seen c.read_at.ensures.images c.read_at.ensures.time (counted _ _ c.read_at.result c.read_at.ensures.cause)

pub returns-clause-reads : goal.returns-clause-reads
returns-clause-reads g c =
    let D = g.D.Disk in
    one_read D.told D.seen D.may_leave D.moment D.left_since D.faults c.args.file.now c.read_at.new.self (λ image left. g.met.D.Disk.only_now c.args.file.now image left)
    c.read_at.ensures.kind.0 c.read_at.ensures.seen c.read_at.ensures.images c.read_at.ensures.time (counted _ _ c.read_at.result c.read_at.ensures.cause)
