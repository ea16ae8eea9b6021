use Rattle.std.proofs.Common.{ap, refl, [], arith}
use Rattle.sig_outside.specs.Reading.{Reading}
use Rattle.sig_command.proofs.ProgressLemmas.{standing-first, told-some}
use Rattle.sig_command.proofs.telling.tell_lines.Goals as goal

pub loop-line-init : goal.loop-line-init
loop-line-init g c = record {
  told = refl;
  stays = ap (λ (r : Reading). r.mode) c.new-reader.ensures;
  counted = ap (λ (r : Reading). r.number) c.new-reader.ensures;
  bound = omega (arith, ap (λ (r : Reading). r.number) c.new-reader.ensures);
  stood = ([], c.requires.new, (g.met.T.Teller.starts c.args.teller.now).1, refl);
  calm = (refl, (refl, refl));
  stands = told-some (g.I.Source.left c.args.input.now)
      (λ told is. standing-first (g.T.Teller.told c.args.teller.now) (g.T.Teller.stands c.args.teller.now) told c.new-reader.result (g.I.Source.left c.args.input.now) c.args.gathered.now
      (g.O.Sink.written c.args.output.now) is (ap (λ (r : Reading). r.kept) c.new-reader.ensures) (ap (λ (r : Reading). r.number) c.new-reader.ensures)
      (ap (λ (r : Reading). r.taken) c.new-reader.ensures) c.requires.new (g.met.T.Teller.starts c.args.teller.now).1 (g.met.T.Teller.starts c.args.teller.now).0 c.requires.none);
}
