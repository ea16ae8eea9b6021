use Rattle.std.proofs.Common.{◌∙◌, ap}
use Rattle.std.specs.Prelude.{is_ok}
use Rattle.sig_journal.proofs.Moments.{joined}
use Rattle.sig_journal.specs.Beside.{LeavesTold}
use Rattle.sig_journal.specs.Gates.{IsShut, closing_calls}
use Rattle.sig_journal.proofs.Beside.{shut_leaves}
use Rattle.sig_journal.proofs.Runs.{run_then}
use Rattle.sig_journal.proofs.checkpoint.staging.stage.Goals as goal

pub returns-clause-any_moment : goal.returns-clause-any_moment
returns-clause-any_moment g c =
    let D = g.D.Disk in
    let before = D.seen c.args.file.now in
    λ told. joined D.moment D.left_since c.args.file.now c.close_gate.new.file c.write_content.new.file (LeavesTold before) IsShut (LeavesTold before)
    (c.close_gate.ensures.any_moment told) (c.write_content.ensures.any_moment (c.close_gate.ensures.kind.0 ∙ told)) (λ image same. same) (λ image shut. shut_leaves before image shut)

pub returns-clause-stop : goal.returns-clause-stop
returns-clause-stop g c =
    let D = g.D.Disk in
    let file = c.args.file.now in
    let mid = c.close_gate.new.file in
    let new = c.write_content.new.file in
    λ told. run_then (closing_calls c.args.is_open) 3 (λ calls fill. LeavesTold (D.seen file)) (λ calls fill. IsShut) (λ calls fill. LeavesTold (D.seen file)) (D.seen mid) (D.seen new)
    c.write_content.result c.close_gate.result (ap is_ok c.in_ok-close_gate.was) (λ left fill image few shut. shut_leaves (D.seen file) image shut)
    (D.stop file) (D.stop mid) (D.stop new) (D.short mid) (D.short new) (c.close_gate.ensures.stop told) (c.write_content.ensures.stop (c.close_gate.ensures.kind.0 ∙ told))
