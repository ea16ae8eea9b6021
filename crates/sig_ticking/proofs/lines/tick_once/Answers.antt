use Rattle.std.proofs.Common.{◌∙◌, ap, sym, ℕ, Option}
use Rattle.std.specs.Prelude.{is_some}
use Rattle.sig_json.specs.Answers.{result_map}
use Rattle.sig_ticking.proofs.TickLemmas.{on_ok, put_same, puts_broken, tick_from, ticked_tells, whole_breaks}
use Rattle.sig_ticking.proofs.lines.tick_once.Goals as goal

pub returns-in-None-clause-whole : goal.returns-in-None-clause-whole
returns-in-None-clause-whole g c = on_ok c.put_made.result _ (λ u is. sym c.broken_at.ensures.at ∙ c.in-None.is)

pub returns-in-None-clause-breaks : goal.returns-in-None-clause-breaks
returns-in-None-clause-breaks g c =
    whole_breaks c.tick-made.result c.put_made.result c.tick-made.new.node.store.broken_at c.tick-made.new.node.turns (sym c.broken_at.ensures.at ∙ c.in-None.is)
    (ticked_tells c.args.rules.now c.args.node.now c.tick-made.new.node (g.S.Side.view c.args.side.now) (g.S.Side.view c.tick-made.new.side) c.args.schedule.now c.tick-made.new.schedule c.tick-made.result c.requires.logged.0
    c.requires.rules c.requires.logged.1 c.tick-made.ensures.ticked)
    c.tick-made.ensures.kept.broke c.put_made.ensures.fault c.put_made.ensures.stops

pub returns-in-None-clause-made : goal.returns-in-None-clause-made
returns-in-None-clause-made g c = λ log logged.
    let t = c.tick-made.ensures.ticked in
    let f = tick_from g.D.Disk.told g.D.Disk.seen g.D.Disk.may_leave c.args.rules.now c.args.node.now c.tick-made.new.node (g.S.Side.view c.args.side.now) (g.S.Side.view c.tick-made.new.side) c.args.schedule.now c.tick-made.new.schedule c.tick-made.result log
    c.requires.rules logged c.tick-made.ensures.files c.tick-made.ensures.kept t in
    (f.tick, f.logged, f.is, put_same c.args.number f.tick.attempts t.made f.tick.end (result_map (λ attempts. tt) c.tick-made.result) c.put_made.result _ _ f.attempts f.ended (c.put_made.ensures.puts t.made t.given))

pub returns-in-Some-clause-breaks : goal.returns-in-Some-clause-breaks
returns-in-Some-clause-breaks g c = ap (λ (o : Option ℕ). is_some o) (sym c.broken_at.ensures.at ∙ c.in-Some.is)

pub returns-in-Some-clause-made : goal.returns-in-Some-clause-made
returns-in-Some-clause-made g c = λ log logged.
    let t = c.tick-made.ensures.ticked in
    let f = tick_from g.D.Disk.told g.D.Disk.seen g.D.Disk.may_leave c.args.rules.now c.args.node.now c.tick-made.new.node (g.S.Side.view c.args.side.now) (g.S.Side.view c.tick-made.new.side) c.args.schedule.now c.tick-made.new.schedule c.tick-made.result log
    c.requires.rules logged c.tick-made.ensures.files c.tick-made.ensures.kept t in
    let told = ticked_tells c.args.rules.now c.args.node.now c.tick-made.new.node (g.S.Side.view c.args.side.now) (g.S.Side.view c.tick-made.new.side) c.args.schedule.now c.tick-made.new.schedule c.tick-made.result log
    c.requires.rules logged t in (
      f.tick,
      f.logged,
      f.is,
      put_same c.args.number f.tick.attempts t.made f.tick.end (result_map (λ attempts. tt) c.tick-made.result) _ _ _ f.attempts f.ended
          (puts_broken c.args.number t.made (result_map (λ attempts. tt) c.tick-made.result) c.tick-made.new.node.turns c.tick-made.new.node.store.broken_at _ told c.tick-made.ensures.kept.broke
          (ap (λ (o : Option ℕ). is_some o) (sym c.broken_at.ensures.at ∙ c.in-Some.is))),
    )
