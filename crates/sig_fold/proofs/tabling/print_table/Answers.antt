use Rattle.std.proofs.Common.{sym, ◌++◌, length, append_assoc}
use Rattle.sig_receiver.specs.Printed.{counts_text, rows_text}
use Rattle.sig_command.specs.Moment.{output_state}
use Rattle.sig_command.proofs.CountLemmas.{put_why-since}
use Rattle.sig_command.proofs.PutLemmas.{put_join, put_longer}
use Rattle.sig_fold.proofs.TableLemmas.{counts_follow}
use Rattle.sig_fold.proofs.tabling.print_table.Goals as goal

pub returns-in-Ok-clause-cause : goal.returns-in-Ok-clause-cause
returns-in-Ok-clause-cause g c =
    put_why-since (output_state (g.O.Sink.written c.args.output.now) (g.O.Sink.faults c.args.output.now) (g.O.Sink.stalls c.args.output.now))
    (output_state (g.O.Sink.written c.print_rows.new.output) (g.O.Sink.faults c.print_rows.new.output) (g.O.Sink.stalls c.print_rows.new.output))
    (output_state (g.O.Sink.written c.print_counts.new.output) (g.O.Sink.faults c.print_counts.new.output) (g.O.Sink.stalls c.print_counts.new.output))
    c.print_counts.result c.in-Ok.ensures.calm c.print_counts.ensures.cause

pub returns-in-Ok-clause-text : goal.returns-in-Ok-clause-text
returns-in-Ok-clause-text g c =
    put_join _ c.in-Ok.ensures.rows.0 (c.print_rows.new.gathered ++ counts_text (length c.args.rows.now) c.args.tokens)
    (g.O.Sink.written c.args.output.now) (g.O.Sink.written c.print_rows.new.output) (g.O.Sink.written c.print_counts.new.output) c.print_counts.result
    (counts_follow c.in-Ok.ensures.rows.0 c.print_rows.new.gathered c.args.gathered.now (rows_text 1 c.args.rows.now) _ c.in-Ok.ensures.rows.1)
    c.in-Ok.ensures.rows.2 c.print_counts.ensures.text

pub returns-in-Err-clause-text : goal.returns-in-Err-clause-text
returns-in-Err-clause-text g c =
    put_longer _ (c.args.gathered.now ++ rows_text 1 c.args.rows.now) (counts_text (length c.args.rows.now) c.args.tokens)
    (g.O.Sink.written c.args.output.now) (g.O.Sink.written c.print_rows.new.output) c.in-Err.ending
    (sym (append_assoc c.args.gathered.now (rows_text 1 c.args.rows.now) _))
    c.in-Err.ensures.failed c.in-Err.ensures.prefix
