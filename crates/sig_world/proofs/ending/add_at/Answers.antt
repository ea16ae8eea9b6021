use Rattle.std.proofs.Common.{◌∙◌, ◌+◌, ◌++◌, ap, sym, drop, append_assoc}
use Rattle.sig_schedules.specs.Replay.{owed_line, owed_text}
use Rattle.sig_world.proofs.OwedLines.{owed-next, owed-past}
use Rattle.sig_world.proofs.ReplayerLemmas.{on_ok_one}
use Rattle.sig_world.proofs.ending.add_at.Goals as goal

pub returns-in-None : goal.returns-in-None
returns-in-None c = ap (λ t. c.args.text.now ++ t) (owed-past c.args.outbox.now.sum c.args.outbox.now.sum.parts.streams c.args.place c.in-None.ensures)

pub returns-in-Some : goal.returns-in-Some
returns-in-Some c =
    on_ok_one c.add_stream.result
    (λ added. ap (λ t. t ++ owed_text c.args.outbox.now.sum (drop (c.args.place + 1) c.args.outbox.now.sum.parts.streams)) added
    ∙ append_assoc c.args.text.now (owed_line c.args.outbox.now.sum c.in-Some.name.now) (owed_text c.args.outbox.now.sum (drop (c.args.place + 1) c.args.outbox.now.sum.parts.streams))
    ∙ ap (λ t. c.args.text.now ++ t) (sym (owed-next c.args.outbox.now.sum c.args.outbox.now.sum.parts.streams c.args.place c.in-Some.name.now c.in-Some.ensures)))
    c.add_stream.ensures
