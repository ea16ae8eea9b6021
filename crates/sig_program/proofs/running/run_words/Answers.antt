use Rattle.std.specs.Prelude.{map, string_bytes}
use Rattle.sig_command.specs.Moment.{moment}
use Rattle.sig_program.specs.Command as spec
use Rattle.sig_program.proofs.EndLemmas.{spoke-nothing, spoke-some}
use Rattle.sig_program.proofs.running.run_words.Goals as goal

pub returns-in-Ok-Some-clause-text : goal.returns-in-Ok-Some-clause-text
returns-in-Ok-Some-clause-text g c =
    let is = rw c.in-Ok-Some.field-0-is at c.in-Ok-Some.ensures in
    spoke-some (spec.command_of (map (λ word. string_bytes word) c.args.words.now)) _ (g.I.Source.left c.args.input.now)
    (moment (g.I.Source.left c.args.input.now) (g.I.Source.faults c.args.input.now) (g.O.Sink.written c.args.output.now) (g.O.Sink.faults c.args.output.now) (g.O.Sink.stalls c.args.output.now))
    (moment (g.I.Source.left c.run_command.new.input) (g.I.Source.faults c.run_command.new.input) (g.O.Sink.written c.run_command.new.output) (g.O.Sink.faults c.run_command.new.output) (g.O.Sink.stalls c.run_command.new.output))
    c.run_command.result is c.run_command.ensures.text

pub returns-in-Err-clause-text : goal.returns-in-Err-clause-text
returns-in-Err-clause-text g c =
    spoke-nothing (spec.command_of (map (λ word. string_bytes word) c.args.words.now)) (g.I.Source.left c.args.input.now)
    (moment (g.I.Source.left c.args.input.now) (g.I.Source.faults c.args.input.now) (g.O.Sink.written c.args.output.now) (g.O.Sink.faults c.args.output.now) (g.O.Sink.stalls c.args.output.now))
