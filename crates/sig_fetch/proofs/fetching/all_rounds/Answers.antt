use Rattle.std.proofs.Common.{rules, ◌≡◌, ◌∙◌, ◌++◌, ap, sym, subst, refl, suc, ◌+◌, ◌-◌, List, Err, arith}
use Rattle.sig_rxnode.specs.declared.turn.RxTurn.{RxTurn}
use Rattle.sig_fetch.specs.Asks.{ask_after}
use Rattle.sig_fetch.specs.declared.fault.FetchFault.TheVariants.{Memory, NoGateway}
use Rattle.sig_fetch.proofs.Growing.{grows_on}
use Rattle.sig_fetch.proofs.Halting.{halts_begun, halts_err, halts_ok, halts_on}
use Rattle.sig_fetch.proofs.MoreRounds.{gathers_more, goes_from, goes_next, goes_no_further, goes_starved, goes_to_the_end, goes_to_the_last}
use Rattle.sig_fetch.proofs.OneRound.{IsReached, goes_reached}
use Rattle.sig_fetch.proofs.Tallying.{tallied_fits, tallied_none, tallied_on, tallies_of}
use Rattle.sig_fetch.proofs.fetching.all_rounds.Goals as goal

pub loop-made-init : goal.loop-made-init
loop-made-init g c =
    let left : c.args.rounds - 0 ≡ c.args.rounds = omega arith in
    record {
      goes_on = goes_from c.args.peer.now c.args.rounds (c.args.rounds - 0) _ _ _ _ left c.new-turns.ensures.items;
      number = refl;
      tallied = tallied_none c.args.node.now _ refl refl refl;
      halts = halts_begun _ _ c.args.node.now _;
      times = refl;
      counts = refl;
    }

pub returns-in_err-ask-clause-fetches : goal.returns-in_err-ask-clause-fetches
returns-in_err-ask-clause-fetches g c =
    let is : c.from_residual.result ≡ Err Memory = search rules in
    rw is (goes_starved c.args.peer.now _ _ _ _ _ _ _ _ _ _ c.loop-made.invariant.goes_on)

pub returns-in_err-listed-clause-fetches : goal.returns-in_err-listed-clause-fetches
returns-in_err-listed-clause-fetches g c =
    let is : c.from_residual-in_err-listed.result ≡ Err c.in_err-listed.field-0.0 = search rules in
    let more : c.args.rounds - c.loop-made.made ≡ suc (c.args.rounds - (c.loop-made.made + 1)) = omega (arith, c.loop-made-test.true) in
    rw is (goes_no_further c.args.peer.now _ _ _ _ _ _ _ _ _ _ _ _ _ _ _ _ more c.loop-made.invariant.goes_on c.in_err-listed.field-0.0 c.in_ok-ask.ask
    (c.in_ok-ask.ensures ∙ ap ask_after c.as_slice.ensures.value) c.in_err-listed.ensures.goes)

pub returns-in_err-listed-clause-reached : goal.returns-in_err-listed-clause-reached
returns-in_err-listed-clause-reached g c = λ h.
    let is : c.from_residual-in_err-listed.result ≡ Err c.in_err-listed.field-0.0 = search rules in
    let gone : c.in_err-listed.field-0.0 ≡ NoGateway = cc (is, h) in
    subst IsReached gone (goes_reached c.args.peer.now _ _ _ _ _ _ _ _ _ _ c.in_err-listed.ensures.goes)

pub returns-in_err-listed-clause-halts : goal.returns-in_err-listed-clause-halts
returns-in_err-listed-clause-halts g c =
    let is : c.from_residual-in_err-listed.result ≡ Err c.in_err-listed.field-0.0 = search rules in
    rw is (halts_err _ _ _ _ _ (halts_on _ _ _ _ _ _ _ c.loop-made.invariant.halts c.in_err-listed.ensures.halts))

pub counted_on-fetched-requires-clause-accepted : goal.counted_on-fetched-requires-clause-accepted
counted_on-fetched-requires-clause-accepted g c =
    let gathered = gathers_more c.args.peer.now _ _ _ _ _ _ _ _ _ _ c.clear.ensures.items c.in_ok-listed.ensures.goes in
    (tallied_fits c.args.node.now c.loop-made.node c.round.new.node _ _ _ (gathered ∙ ap (λ (l : List RxTurn). c.loop-made.node.turns ++ l) (sym c.as_slice-in-loop-made.ensures.value)) c.turn_count.ensures c.loop-made.invariant.tallied).accepted

pub counted_on-fetched-requires-clause-seen : goal.counted_on-fetched-requires-clause-seen
counted_on-fetched-requires-clause-seen g c =
    let gathered = gathers_more c.args.peer.now _ _ _ _ _ _ _ _ _ _ c.clear.ensures.items c.in_ok-listed.ensures.goes in
    (tallied_fits c.args.node.now c.loop-made.node c.round.new.node _ _ _ (gathered ∙ ap (λ (l : List RxTurn). c.loop-made.node.turns ++ l) (sym c.as_slice-in-loop-made.ensures.value)) c.turn_count.ensures c.loop-made.invariant.tallied).seen

pub counted_on-fetched-requires-clause-refused : goal.counted_on-fetched-requires-clause-refused
counted_on-fetched-requires-clause-refused g c =
    let gathered = gathers_more c.args.peer.now _ _ _ _ _ _ _ _ _ _ c.clear.ensures.items c.in_ok-listed.ensures.goes in
    (tallied_fits c.args.node.now c.loop-made.node c.round.new.node _ _ _ (gathered ∙ ap (λ (l : List RxTurn). c.loop-made.node.turns ++ l) (sym c.as_slice-in-loop-made.ensures.value)) c.turn_count.ensures c.loop-made.invariant.tallied).refused

pub returns-then-not-listed-clause-fetches : goal.returns-then-not-listed-clause-fetches
returns-then-not-listed-clause-fetches g c =
    let more : c.args.rounds - c.loop-made.made ≡ suc (c.args.rounds - (c.loop-made.made + 1)) = omega (arith, c.loop-made-test.true) in
    goes_to_the_last c.args.peer.now _ _ _ _ _ _ _ _ _ _ _ _ _ _ _ _ more c.loop-made.invariant.goes_on c.in_ok-ask.ask
    (c.in_ok-ask.ensures ∙ ap ask_after c.as_slice.ensures.value) c.in_ok-listed.listed c.if-not-listed.true c.in_ok-listed.ensures.goes _ c.counted_on-fetched.ensures.rounds

pub returns-then-not-listed-clause-tallies : goal.returns-then-not-listed-clause-tallies
returns-then-not-listed-clause-tallies g c =
    let gathered = gathers_more c.args.peer.now _ _ _ _ _ _ _ _ _ _ c.clear.ensures.items c.in_ok-listed.ensures.goes in
    let tallied = tallied_on c.args.node.now c.loop-made.node c.round.new.node _ _ _ (gathered ∙ ap (λ (l : List RxTurn). c.loop-made.node.turns ++ l) (sym c.as_slice-in-loop-made.ensures.value)) c.loop-made.invariant.tallied c.counted_on-fetched.ensures.turns in
    tallies_of c.args.node.now c.round.new.node _ _ (grows_on _ _ _ _ _ c.loop-made.invariant.goes_on.made.grows c.in_ok-listed.ensures.goes.made.grows) tallied

pub loop-made-preserved : goal.loop-made-preserved
loop-made-preserved g c =
    let more : c.args.rounds - c.loop-made.made ≡ suc (c.args.rounds - (c.loop-made.made + 1)) = omega (arith, c.loop-made-test.true) in
    let gathered = gathers_more c.args.peer.now _ _ _ _ _ _ _ _ _ _ c.clear.ensures.items c.in_ok-listed.ensures.goes in
    let tallied = tallied_on c.args.node.now c.loop-made.node c.round.new.node _ _ _ (gathered ∙ ap (λ (l : List RxTurn). c.loop-made.node.turns ++ l) (sym c.as_slice-in-loop-made.ensures.value)) c.loop-made.invariant.tallied c.counted_on-fetched.ensures.turns in
    record {
      goes_on = goes_next c.args.peer.now _ _ _ _ _ _ _ _ _ _ _ _ _ _ _ _ more c.loop-made.invariant.goes_on c.in_ok-ask.ask
          (c.in_ok-ask.ensures ∙ ap ask_after c.as_slice.ensures.value) c.in_ok-listed.listed c.if-not-listed.false c.clear.ensures.items c.in_ok-listed.ensures.goes;
      number = c.counted_on-fetched.ensures.rounds;
      tallied = tallied;
      halts = halts_ok _ _ _ _ _ _ (halts_on _ _ _ _ _ _ _ c.loop-made.invariant.halts c.in_ok-listed.ensures.halts);
      times = c.in_ok-listed.ensures.times ∙ c.loop-made.invariant.times;
      counts = c.in_ok-listed.ensures.counts ∙ c.loop-made.invariant.counts;
    }

pub returns-clause-fetches : goal.returns-clause-fetches
returns-clause-fetches g c =
    let none : c.args.rounds - c.loop-made.made ≡ 0 = omega arith in
    goes_to_the_end c.args.peer.now c.args.rounds _ _ _ _ _ _ _ _ _ _ none c.loop-made.invariant.number c.loop-made.invariant.goes_on

pub returns-clause-tallies : goal.returns-clause-tallies
returns-clause-tallies g c = tallies_of _ _ _ _ c.loop-made.invariant.goes_on.made.grows c.loop-made.invariant.tallied
