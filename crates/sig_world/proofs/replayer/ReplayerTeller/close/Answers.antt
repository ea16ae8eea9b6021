use Rattle.std.proofs.Common.{◌++◌, [], length, append_assoc, subst, sym}
use Rattle.sig_receiver.specs.Journal.{distinct}
use Rattle.sig_receiver.specs.Printed.{table_text}
use Rattle.sig_command.specs.Moment.{output_state}
use Rattle.sig_command.specs.Telling.{PutSo, WhyPut}
use Rattle.sig_command.proofs.CountLemmas.{put_why-since}
use Rattle.sig_law.specs.World.{World, new_world}
use Rattle.sig_nodes.specs.Receiving.{kept_of}
use Rattle.sig_nodes.specs.Sending.{sum_at}
use Rattle.sig_schedules.specs.Replay.{end_text, owed_text, replay_store, script_world}
use Rattle.sig_command.proofs.PutLemmas.{put_join, put_longer}
use Rattle.sig_world.proofs.replayer.ReplayerTeller.close.Goals as goal

pub returns-in-Done-clause-text : goal.returns-in-Done-clause-text
returns-in-Done-clause-text g c = λ given at.
    let w : World = script_world 1 new_world given in
    let table = table_text (kept_of w.journal).rows (length (distinct [] w.journal)) in
    let owed = owed_text (sum_at replay_store w.facts) (sum_at replay_store w.facts).parts.streams in
    put_join (c.args.gathered.now ++ end_text w) (c.args.gathered.now ++ table) owed
    (g.O.Sink.written c.args.output.now) (g.O.Sink.written c.print_received.new.output) (g.O.Sink.written c.print_owed.new.output) c.print_owed.result
    (sym (append_assoc c.args.gathered.now table owed))
    (subst (PutSo (c.args.gathered.now ++ table) (g.O.Sink.written c.args.output.now) (g.O.Sink.written c.print_received.new.output)) c.in-Done.is (c.print_received.ensures.text w.journal at.received))
    (c.print_owed.ensures.text w.facts at.sent)

pub returns-in-Done-clause-cause : goal.returns-in-Done-clause-cause
returns-in-Done-clause-cause g c =
    let old = output_state (g.O.Sink.written c.args.output.now) (g.O.Sink.faults c.args.output.now) (g.O.Sink.stalls c.args.output.now) in
    let mid = output_state (g.O.Sink.written c.print_received.new.output) (g.O.Sink.faults c.print_received.new.output) (g.O.Sink.stalls c.print_received.new.output) in
    let new = output_state (g.O.Sink.written c.print_owed.new.output) (g.O.Sink.faults c.print_owed.new.output) (g.O.Sink.stalls c.print_owed.new.output) in
    put_why-since old mid new c.print_owed.result (subst (WhyPut old mid) c.in-Done.is c.print_received.ensures.cause) c.print_owed.ensures.cause

pub returns-in_default : goal.returns-in_default
returns-in_default g c = record {
  text = λ given at.
      let w : World = script_world 1 new_world given in
      let table = table_text (kept_of w.journal).rows (length (distinct [] w.journal)) in
      let owed = owed_text (sum_at replay_store w.facts) (sum_at replay_store w.facts).parts.streams in
      put_longer (c.args.gathered.now ++ end_text w) (c.args.gathered.now ++ table) owed
      (g.O.Sink.written c.args.output.now) (g.O.Sink.written c.print_received.new.output) c.print_received.result
      (sym (append_assoc c.args.gathered.now table owed))
      c.in_default.not-Done (c.print_received.ensures.text w.journal at.received);
  cause = c.print_received.ensures.cause;
}
