use Rattle.std.proofs.Common.{◌∙◌, sym, map}
use Rattle.std.specs.Prelude.{string_bytes}
use Rattle.sig_command.specs.Moment.{moment, output_state}
use Rattle.sig_program.specs.Command.{command_of}
use Rattle.sig_program.specs.declared.command.Command.TheVariants.{Fold}
use Rattle.sig_program.proofs.EndLemmas.{finished-ends, complete-status, usage-ended}
use Rattle.sig_program.proofs.running.run.Goals as goal

pub returns : goal.returns
returns g c =
    let command = command_of (map (λ word. string_bytes word) c.args.words.now) in
    let before = moment (g.I.Source.left c.args.input.now) (g.I.Source.faults c.args.input.now) (g.O.Sink.written c.args.output.now) (g.O.Sink.faults c.args.output.now) (g.O.Sink.stalls c.args.output.now) in
    let after = moment (g.I.Source.left c.run_words-ending.new.input) (g.I.Source.faults c.run_words-ending.new.input) (g.O.Sink.written c.finish-ending.new.output) (g.O.Sink.faults c.finish-ending.new.output) (g.O.Sink.stalls c.finish-ending.new.output) in
    let mid = output_state (g.O.Sink.written c.run_words-ending.new.output) (g.O.Sink.faults c.run_words-ending.new.output) (g.O.Sink.stalls c.run_words-ending.new.output) in
    let ended = finished-ends command before after.input mid after.output c.run_words-ending.result c.finish-ending.result
    c.run_words-ending.ensures.cause c.run_words-ending.ensures.text c.finish-ending.ensures in
    record {
      ends = (c.finish-ending.result, c.status.ensures, ended);
      usage = λ one. usage-ended command before after c.finish-ending.result ended (sym c.status.ensures ∙ one);
      unasked = c.run_words-ending.ensures.unasked;
      complete = λ named told is left short in_ok out_ok flows.
          complete-status command named before after told c.finish-ending.result c.status.result ended is c.status.ensures left short in_ok out_ok flows;
      fold = λ issuer aud told is left short in_ok out_ok flows.
          complete-status command (Fold issuer aud) before after told c.finish-ending.result c.status.result ended is c.status.ensures left short in_ok out_ok flows;
    }
