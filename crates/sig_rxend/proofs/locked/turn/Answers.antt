use Rattle.std.specs.Option.{option_to_list}
use Rattle.sig_desk.proofs.KeepLemmas.{kept_on, kept_same}
use Rattle.sig_rxnode.proofs.AddsOne.{answer_fits, answer_row}
use Rattle.sig_watch.proofs.SharedLemmas.{follows_on}
use Rattle.sig_rxend.specs.Ends.{Follows}
use Rattle.sig_rxend.proofs.WatchLemmas.{turn_follows}
use Rattle.sig_rxend.proofs.locked.turn.Goals as goal

-- without room for the turn
pub invariant_of-shared : goal.invariant_of-shared
invariant_of-shared g c = record {
  same = c.args.shared.now.same;
  follows = c.args.shared.now.follows;
  keeps = kept_same _ _ _ c.args.shared.now.desk c.reserve.new.self c.args.shared.now.node.turns c.reserve.ensures.keeps c.args.shared.now.keeps;
}

-- the node kept the turn, and so did the desk
pub invariant_of-shared-2 : goal.invariant_of-shared-2
invariant_of-shared-2 g c =
    let told = g.D.Disk.told in
    let before = c.args.shared.now.before.value in
    let old = c.args.shared.now.node in
    let new = c.take_kept-result.new.self in
    let took = c.take_kept-result.ensures in
    record {
      same = c.args.shared.now.same;
      follows = follows_on (Follows told) before old new (turn_follows told before old new took.base took.answered.rules took.files) c.args.shared.now.follows;
      keeps = kept_on _ _ _ c.reserve.new.self c.keep.new.self old.turns new.turns (option_to_list c.take_kept-result.result.turn) c.keep.ensures.keeps took.turn
          (kept_same _ _ _ c.args.shared.now.desk c.reserve.new.self old.turns c.reserve.ensures.keeps c.args.shared.now.keeps);
    }

pub returns-clause-page : goal.returns-clause-page
returns-clause-page g c = answer_fits c.args.shared.now.node.rules.trust c.args.shared.now.node.kept.state c.args.call.now c.take_kept-result.result.result c.take_kept-result.ensures.answered.answer

pub returns-clause-row : goal.returns-clause-row
returns-clause-row g c = answer_row c.args.shared.now.node.rules.trust c.args.shared.now.node.kept.state c.args.call.now c.take_kept-result.result.result c.take_kept-result.ensures.answered.answer
