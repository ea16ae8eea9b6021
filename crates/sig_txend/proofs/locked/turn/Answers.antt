use Rattle.std.specs.Option.{option_to_list}
use Rattle.sig_desk.proofs.KeepLemmas.{kept_on, kept_same}
use Rattle.sig_txnode.proofs.AnswerLemmas.{answers_row}
use Rattle.sig_watch.proofs.SharedLemmas.{follows_on}
use Rattle.sig_txend.specs.Ends.{Follows}
use Rattle.sig_txend.proofs.WatchLemmas.{turn_follows}
use Rattle.sig_txend.proofs.locked.turn.Goals as goal

-- without room for the turn
pub invariant_of-shared : goal.invariant_of-shared
invariant_of-shared g c = record {
  same = c.args.shared.now.same;
  follows = c.args.shared.now.follows;
  keeps = kept_same _ _ _ c.args.shared.now.desk c.reserve.new.self c.args.shared.now.node.turns c.reserve.ensures.keeps c.args.shared.now.keeps;
}

-- the node kept the turn, and so did the desk
pub invariant_of-shared-2 : goal.invariant_of-shared-2
invariant_of-shared-2 g c =
    let told = g.D.Disk.told in
    let before = c.args.shared.now.before.value in
    let old = c.args.shared.now.node in
    let new = c.take_kept-result.new.self in
    let took = c.take_kept-result.ensures in
    record {
      same = c.args.shared.now.same;
      follows = follows_on (Follows told) before old new (turn_follows told before old new took.kept.base took.kept.rules took.lasts.files) c.args.shared.now.follows;
      keeps = kept_on _ _ _ c.reserve.new.self c.keep.new.self old.turns new.turns (option_to_list c.take_kept-result.result.turn) c.keep.ensures.keeps took.turn
          (kept_same _ _ _ c.args.shared.now.desk c.reserve.new.self old.turns c.reserve.ensures.keeps c.args.shared.now.keeps);
    }

pub returns : goal.returns
returns g c = answers_row _ _ _ _ _ _ c.take_kept-result.result.result c.take_kept-result.ensures.answered.answer
