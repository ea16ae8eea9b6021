use Rattle.std.proofs.Common.{ap, refl, codes, List, ℕ, ◌++◌, ◌∙◌}
use Rattle.sig_command.specs.Moment.{output_state}
use Rattle.sig_receive.specs.declared.ending.FetchEnd.TheVariants.{Memory}
use Rattle.sig_service.proofs.LastLineLemmas.{put_fetch}
use Rattle.sig_service.proofs.fetch_run.close.Goals as goal

pub returns-in-Full : goal.returns-in-Full
returns-in-Full g c =
    let before = output_state (g.O.Sink.written c.args.output.now) (g.O.Sink.faults c.args.output.now) (g.O.Sink.stalls c.args.output.now) in
    let after = output_state (g.O.Sink.written c.put_last-in-Full.new.output) (g.O.Sink.faults c.put_last-in-Full.new.output) (g.O.Sink.stalls c.put_last-in-Full.new.output) in
    put_fetch c.args.end _ c.as_str-in-Full.result.now before after c.put_last-in-Full.result c.in-Full.is
    (c.as_str-in-Full.ensures.value ∙ c.numbered.ensures) c.put_last-in-Full.ensures

pub returns-in-Peer : goal.returns-in-Peer
returns-in-Peer g c =
    let before = output_state (g.O.Sink.written c.args.output.now) (g.O.Sink.faults c.args.output.now) (g.O.Sink.stalls c.args.output.now) in
    let after = output_state (g.O.Sink.written c.put_last_of-in-Peer.new.output) (g.O.Sink.faults c.put_last_of-in-Peer.new.output) (g.O.Sink.stalls c.put_last_of-in-Peer.new.output) in
    put_fetch c.args.end _ (codes "signals: peer " ++ c.as_str-in-Peer.result.now ++ codes "\n") before after c.put_last_of-in-Peer.result c.in-Peer.is
    (ap (λ (m : List ℕ). codes "signals: peer " ++ m ++ codes "\n") c.as_str-in-Peer.ensures.same) c.put_last_of-in-Peer.ensures

pub returns-in-Memory : goal.returns-in-Memory
returns-in-Memory g c =
    let before = output_state (g.O.Sink.written c.args.output.now) (g.O.Sink.faults c.args.output.now) (g.O.Sink.stalls c.args.output.now) in
    let after = output_state (g.O.Sink.written c.put_last-in-Memory.new.output) (g.O.Sink.faults c.put_last-in-Memory.new.output) (g.O.Sink.stalls c.put_last-in-Memory.new.output) in
    put_fetch c.args.end Memory (codes "signals: memory\n") before after c.put_last-in-Memory.result c.in-Memory.is refl c.put_last-in-Memory.ensures
