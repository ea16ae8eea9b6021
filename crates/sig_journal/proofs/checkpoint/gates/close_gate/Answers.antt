use Rattle.std.proofs.Common.{Bool, true, refl, sym, subst}
use Rattle.sig_journal.specs.Store.{gate_of}
use Rattle.sig_journal.proofs.Moments.{weaker}
use Rattle.sig_journal.specs.Beside.{LeavesTold}
use Rattle.sig_journal.specs.Gates.{BeginsOpen, GateRests, WithAnyGate, closing_calls}
use Rattle.sig_journal.specs.Runs.{UsesRun}
use Rattle.sig_journal.proofs.GateLemmas.{any_gate_leaves, gate_rests_leave}
use Rattle.sig_journal.proofs.Runs.{run_map}
use Rattle.sig_journal.proofs.checkpoint.gates.close_gate.Goals as goal

pub returns-clause-any_moment : goal.returns-clause-any_moment
returns-clause-any_moment g c =
    let D = g.D.Disk in
    let file = c.args.file.now in
    let before = D.seen file in
    λ told.
    let opened : BeginsOpen true (gate_of before) = subst (λ (b : Bool). BeginsOpen b (gate_of before)) c.if-not-is_open.false (c.requires.gate told) in
    weaker D.moment D.left_since file c.write_gate.new.file (WithAnyGate before) (LeavesTold before) (c.write_gate.ensures.any_moment told)
    (λ image any. subst (LeavesTold before) (sym any.1) (any_gate_leaves before opened any.0))

pub returns-clause-stop : goal.returns-clause-stop
returns-clause-stop g c =
    let D = g.D.Disk in
    let file = c.args.file.now in
    let new = c.write_gate.new.file in
    let before = D.seen file in
    λ told.
    let opened : BeginsOpen true (gate_of before) = subst (λ (b : Bool). BeginsOpen b (gate_of before)) c.if-not-is_open.false (c.requires.gate told) in
    subst (λ (b : Bool). UsesRun (closing_calls b) (λ calls fill. LeavesTold before) (D.seen new) (D.stop file) (D.stop new) (D.short new) c.write_gate.result) (sym c.if-not-is_open.false)
    (run_map 2 (GateRests before) (λ calls fill. LeavesTold before) (D.seen new) (D.stop file) (D.stop new) (D.short new) c.write_gate.result c.write_gate.result refl refl
    (gate_rests_leave before opened) (c.write_gate.ensures.stop told))
