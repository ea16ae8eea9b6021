use Rattle.std.proofs.Common.{◌≡◌, ◌<◌, List, length, get_or, take, true, rules, ap₂, ◌∙◌}
use Rattle.sig_inbox.specs.declared.pair.Pair.{Pair}
use Rattle.sig_inbox.specs.Pairs.{are_distinct, has_pair}
use Rattle.sig_inbox.proofs.Distinct.{new_at}
use Rattle.sig_inbox.proofs.seen.Seen.copy.Goals as goal

pub put-requires-clause-new : goal.put-requires-clause-new
put-requires-clause-new c =
    let ps : List Pair = c.args.self.now.pairs in
    let x : Pair = c.in_ok-pair.pair in
    let same : c.as_slice-pair-items.result.now ≡ ps = search rules in
    let distinct : are_distinct ps ≡ true = search rules in
    let within : c.loop-pair.pair-index < length ps = search rules in
    let is : x ≡ get_or ps c.loop-pair.pair-index x = search (rules, c.in_ok-pair.ensures, c.pair-item.is, same) in
    let so_far : c.make_room.new.self.pairs ≡ take c.loop-pair.pair-index ps = c.make_room.ensures.same ∙ c.loop-pair.invariant in
    ap₂ (λ (p : Pair) (l : List Pair). has_pair p l) is so_far ∙ new_at ps c.loop-pair.pair-index x distinct within
