use Rattle.std.proofs.Common.{◌∙◌, ap, sym, refl, ◌+◌, ◌++◌, drop, arith}
use Rattle.sig_receiver.specs.Printed.{row_text, rows_text}
use Rattle.std.proofs.KnownBytes.{Appends-trans}
use Rattle.sig_command.specs.Moment.{output_state}
use Rattle.sig_command.proofs.CountLemmas.{output_calm-then, put_why-since}
use Rattle.sig_command.proofs.PutLemmas.{put_join, put_longer}
use Rattle.sig_fold.proofs.TableLemmas.{rows_text-next, row_added, row_put}
use Rattle.sig_fold.proofs.tabling.print_rows.Goals as goal

pub returns-in-Err-clause-prefix : goal.returns-in-Err-clause-prefix
returns-in-Err-clause-prefix g c =
    let text = c.loop-row.invariant.so_far.0 in
    let row = row_text c.loop-row.place c.row-item.result in
    let more = rows_text (c.loop-row.place + 1) (drop (c.loop-row.row-index + 1) c.args.rows.now) in
    put_longer _ (text ++ (c.loop-row.gathered ++ row)) more (g.O.Sink.written c.args.output.now) (g.O.Sink.written c.print_row.new.output) c.in-Err.ending
    (row_added text c.loop-row.gathered row more _
    (ap (λ rest. (text ++ c.loop-row.gathered) ++ rest) (sym (rows_text-next c.args.rows.now c.loop-row.row-index c.loop-row.place c.row-item.result (omega arith) c.row-item.is)) ∙ c.loop-row.invariant.so_far.1))
    c.in-Err.ensures.failed
    (put_join (text ++ (c.loop-row.gathered ++ row)) text (c.loop-row.gathered ++ row) (g.O.Sink.written c.args.output.now) (g.O.Sink.written c.loop-row.output) (g.O.Sink.written c.print_row.new.output) c.in-Err.ending
    refl c.loop-row.invariant.so_far.2 c.in-Err.ensures.prefix)

pub returns-in-Err-clause-cause : goal.returns-in-Err-clause-cause
returns-in-Err-clause-cause g c =
    put_why-since (output_state (g.O.Sink.written c.args.output.now) (g.O.Sink.faults c.args.output.now) (g.O.Sink.stalls c.args.output.now))
    (output_state (g.O.Sink.written c.loop-row.output) (g.O.Sink.faults c.loop-row.output) (g.O.Sink.stalls c.loop-row.output))
    (output_state (g.O.Sink.written c.print_row.new.output) (g.O.Sink.faults c.print_row.new.output) (g.O.Sink.stalls c.print_row.new.output))
    c.in-Err.ending c.loop-row.invariant.calm c.in-Err.ensures.cause

pub loop-row-preserved : goal.loop-row-preserved
loop-row-preserved g c =
    let text = c.loop-row.invariant.so_far.0 in
    let row = row_text c.loop-row.place c.row-item.result in
    let more = rows_text (c.loop-row.place + 1) (drop (c.loop-row.row-index + 1) c.args.rows.now) in
    record {
      place = omega arith;
      calm = output_calm-then (output_state (g.O.Sink.written c.args.output.now) (g.O.Sink.faults c.args.output.now) (g.O.Sink.stalls c.args.output.now))
          (output_state (g.O.Sink.written c.loop-row.output) (g.O.Sink.faults c.loop-row.output) (g.O.Sink.stalls c.loop-row.output))
          (output_state (g.O.Sink.written c.print_row.new.output) (g.O.Sink.faults c.print_row.new.output) (g.O.Sink.stalls c.print_row.new.output))
          c.loop-row.invariant.calm c.in-Ok.ensures.calm;
      so_far = (
        text ++ c.in-Ok.ensures.row.0,
        row_put text c.in-Ok.ensures.row.0 c.print_row.new.gathered c.loop-row.gathered row more _ c.in-Ok.ensures.row.1
            (row_added text c.loop-row.gathered row more _
            (ap (λ rest. (text ++ c.loop-row.gathered) ++ rest) (sym (rows_text-next c.args.rows.now c.loop-row.row-index c.loop-row.place c.row-item.result (omega arith) c.row-item.is)) ∙ c.loop-row.invariant.so_far.1)),
        Appends-trans (g.O.Sink.written c.args.output.now) (g.O.Sink.written c.loop-row.output) (g.O.Sink.written c.print_row.new.output) text c.in-Ok.ensures.row.0 c.loop-row.invariant.so_far.2 c.in-Ok.ensures.row.2,
      );
    }
