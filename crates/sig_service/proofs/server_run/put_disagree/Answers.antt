use Rattle.std.proofs.Common.{◌∙◌, ◌≡◌, arith, codes, ◌++◌, decimal}
use Rattle.sig_command.specs.Moment.{output_state}
use Rattle.sig_logs.specs.declared.difference.Differ.TheVariants.{Turn}
use Rattle.sig_service.proofs.LastLineLemmas.{at_turn, line_of_turn, put_differ}
use Rattle.sig_service.proofs.server_run.put_disagree.Goals as goal

pub returns : goal.returns
returns g c =
    let before = output_state (g.O.Sink.written c.args.output.now) (g.O.Sink.faults c.args.output.now) (g.O.Sink.stalls c.args.output.now) in
    let after = output_state (g.O.Sink.written c.put_last_of.new.output) (g.O.Sink.faults c.put_last_of.new.output) (g.O.Sink.stalls c.put_last_of.new.output) in
    at_turn c.args.differ (λ link place is.
    let link_text : c.format-link.result.now ≡ decimal link = grind (arith, is, c.format-link.ensures.text) in
    let place_text : c.as_str.result.now ≡ codes " place " ++ decimal place ++ codes "\n" = c.as_str.ensures.value ∙ grind (arith, is, c.numbered-place.ensures) in
    put_differ c.args.differ (Turn link place) (codes "signals: disagree link " ++ c.format-link.result.now ++ c.as_str.result.now) before after
    c.put_last_of.result is (line_of_turn c.format-link.result.now c.as_str.result.now link place link_text place_text) c.put_last_of.ensures)
