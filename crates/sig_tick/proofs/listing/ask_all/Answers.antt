use Rattle.std.proofs.Common.{rules, ◌≡◌, ◌<◌, ◌≤◌, ◌∙◌, length, Err, arith}
use Rattle.sig_tick.proofs.AskLemmas.{asks_next, asks_no_further, asks_to_the_end}
use Rattle.sig_tick.proofs.listing.ask_all.Goals as goal

pub returns-in_err-ask_one-clause-asked : goal.returns-in_err-ask_one-clause-asked
returns-in_err-ask_one-clause-asked g c =
    let is : c.from_residual.result ≡ Err c.in_err-ask_one.field-0.0 = search rules in
    let h : c.loop-name.name-index < length c.args.names.now = omega arith in
    rw is (asks_no_further _ _ _ _ c.args.names.now c.loop-name.name-index c.name-item.result _ _ _ _ _ _ c.in_err-ask_one.field-0.0
    h c.name-item.is c.loop-name.invariant.link c.loop-name.invariant.now c.loop-name.invariant.goes_on c.in_err-ask_one.ensures.asked)

pub loop-name-preserved : goal.loop-name-preserved
loop-name-preserved g c =
    let h : c.loop-name.name-index < length c.args.names.now = omega arith in
    record {
      goes_on = asks_next _ _ _ _ c.args.names.now c.loop-name.name-index c.name-item.result _ _ _ _ _ _ _
          h c.name-item.is c.loop-name.invariant.link c.loop-name.invariant.now c.loop-name.invariant.goes_on c.in_ok-ask_one.ensures.asked;
      link = c.in_ok-ask_one.ensures.link ∙ c.loop-name.invariant.link;
      now = c.in_ok-ask_one.ensures.now ∙ c.loop-name.invariant.now;
    }

pub returns-clause-asked : goal.returns-clause-asked
returns-clause-asked g c =
    let h : length c.args.names.now ≤ c.loop-name.name-index = omega arith in
    asks_to_the_end _ c.args.names.now c.loop-name.name-index _ _ _ _ _ h c.loop-name.invariant.goes_on
