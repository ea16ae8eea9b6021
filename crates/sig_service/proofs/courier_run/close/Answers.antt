use Rattle.std.proofs.Common.{ap, refl, codes, List, ℕ, ◌++◌}
use Rattle.sig_command.specs.Moment.{output_state}
use Rattle.sig_ticking.specs.declared.ending.CourierEnd.TheVariants.{Damaged, Memory, NoStore, StoreFailed}
use Rattle.sig_service.specs.CourierRuns.{last_line}
use Rattle.sig_service.proofs.CourierEndLemmas.{put_courier}
use Rattle.sig_service.proofs.courier_run.close.Goals as goal

pub returns-in-Refused : goal.returns-in-Refused
returns-in-Refused g c =
    let before = output_state (g.O.Sink.written c.args.output.now) (g.O.Sink.faults c.args.output.now) (g.O.Sink.stalls c.args.output.now) in
    let after = output_state (g.O.Sink.written c.put_last_of.new.output) (g.O.Sink.faults c.put_last_of.new.output) (g.O.Sink.stalls c.put_last_of.new.output) in
    put_courier c.args.end _ (codes "signals: settings " ++ c.as_str.result.now ++ codes "\n") before after c.put_last_of.result c.in-Refused.is
    (ap (λ (m : List ℕ). codes "signals: settings " ++ m ++ codes "\n") c.as_str.ensures.same) c.put_last_of.ensures

pub returns-in-NoStore : goal.returns-in-NoStore
returns-in-NoStore g c =
    let before = output_state (g.O.Sink.written c.args.output.now) (g.O.Sink.faults c.args.output.now) (g.O.Sink.stalls c.args.output.now) in
    let after = output_state (g.O.Sink.written c.put_last-in-NoStore.new.output) (g.O.Sink.faults c.put_last-in-NoStore.new.output) (g.O.Sink.stalls c.put_last-in-NoStore.new.output) in
    put_courier c.args.end NoStore (codes "signals: no store\n") before after c.put_last-in-NoStore.result c.in-NoStore.is refl c.put_last-in-NoStore.ensures

pub returns-in-StoreFailed : goal.returns-in-StoreFailed
returns-in-StoreFailed g c =
    let before = output_state (g.O.Sink.written c.args.output.now) (g.O.Sink.faults c.args.output.now) (g.O.Sink.stalls c.args.output.now) in
    let after = output_state (g.O.Sink.written c.put_last-in-StoreFailed.new.output) (g.O.Sink.faults c.put_last-in-StoreFailed.new.output) (g.O.Sink.stalls c.put_last-in-StoreFailed.new.output) in
    put_courier c.args.end StoreFailed (codes "signals: store failed\n") before after c.put_last-in-StoreFailed.result c.in-StoreFailed.is refl c.put_last-in-StoreFailed.ensures

pub returns-in-Damaged : goal.returns-in-Damaged
returns-in-Damaged g c =
    let before = output_state (g.O.Sink.written c.args.output.now) (g.O.Sink.faults c.args.output.now) (g.O.Sink.stalls c.args.output.now) in
    let after = output_state (g.O.Sink.written c.put_damaged.new.output) (g.O.Sink.faults c.put_damaged.new.output) (g.O.Sink.stalls c.put_damaged.new.output) in
    put_courier c.args.end (Damaged c.in-Damaged.file c.in-Damaged.at) (last_line (Damaged c.in-Damaged.file c.in-Damaged.at)) before after c.put_damaged.result c.in-Damaged.is refl c.put_damaged.ensures

pub returns-in-Memory : goal.returns-in-Memory
returns-in-Memory g c =
    let before = output_state (g.O.Sink.written c.args.output.now) (g.O.Sink.faults c.args.output.now) (g.O.Sink.stalls c.args.output.now) in
    let after = output_state (g.O.Sink.written c.put_last-in-Memory.new.output) (g.O.Sink.faults c.put_last-in-Memory.new.output) (g.O.Sink.stalls c.put_last-in-Memory.new.output) in
    put_courier c.args.end Memory (codes "signals: memory\n") before after c.put_last-in-Memory.result c.in-Memory.is refl c.put_last-in-Memory.ensures
