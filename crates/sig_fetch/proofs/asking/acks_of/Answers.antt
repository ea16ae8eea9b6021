use Rattle.std.proofs.Common.{◌<◌, length, Some, None, arith, rules, append-nil}
use Rattle.std.proofs.lemmas.Grind.{common_steps}
use Rattle.sig_fetch.specs.Asks.{ack_of}
use Rattle.sig_fetch.proofs.Collecting.{one_more}
use Rattle.sig_fetch.proofs.asking.acks_of.Goals as goal
use Rattle.sig_fetch.proofs.asking.acks_of.Goals.{in-Some+in_ok-copy+in_ok-push, in_default}

pub loop-turn-preserved : goal.loop-turn-preserved
loop-turn-preserved c =
    let h : c.loop-turn.turn-index < length c.args.turns.now = omega arith in
    elim c.match-ack_of.branch [
      | in-Some+in_ok-copy+in_ok-push w ↦
          one_more ack_of c.args.turns.now c.loop-turn.turn-index c.turn-item.result (Some w.in-Some.jti.now) c.loop-turn.acks.items _ h c.turn-item.is c.loop-turn.invariant w.in-Some.ensures
          (let e = w.acks-is in let f = w.in_ok-push.ensures.items in let k = w.in_ok-copy.ensures in first_of (cc, search rules, grind (arith, common_steps)))
      | in_default w ↦
          one_more ack_of c.args.turns.now c.loop-turn.turn-index c.turn-item.result None c.loop-turn.acks.items _ h c.turn-item.is c.loop-turn.invariant w.in_default.ensures
          (let e = w.acks-is in let f = append-nil c.loop-turn.acks.items in first_of (cc, search rules, grind (arith, common_steps)))
    ]
