use Rattle.std.proofs.Common.{◌≡◌, ◌∙◌, ◌+◌, Err, sym, refl, arith, rules}
use Rattle.sig_dial.proofs.ExchangeLemmas.{passed_more, passed_none, passed_to_none, passed_to_one, tallies_from}
use Rattle.sig_dial.proofs.StoppingLemmas.{most_more, most_none, most_within, stops_more, stops_none}
use Rattle.sig_dial.proofs.exchange.response_of.Goals as goal

pub loop-passed-init : goal.loop-passed-init
loop-passed-init g c = record { few = omega arith; passed = passed_none _ _ c.new-kept.ensures; stops = stops_none _ _ refl; most = most_none _ _ _ refl; reads = refl; puts = refl; writes = refl; place = refl }

pub returns-in_err-response-clause-decides : goal.returns-in_err-response-clause-decides
returns-in_err-response-clause-decides g c =
    let is : c.from_residual.result ≡ Err c.in_err-response.field-0.0 = search rules in
    let h = c.loop-passed.invariant in
    rw is (passed_to_none c.loop-passed.passed _ _ _ c.in_err-response.field-0.0 c.loop-passed-test.true h.passed c.in_err-response.ensures.none)

pub returns-in_err-response-clause-tallies : goal.returns-in_err-response-clause-tallies
returns-in_err-response-clause-tallies g c =
    let is : c.from_residual.result ≡ Err c.in_err-response.field-0.0 = search rules in
    let h = c.loop-passed.invariant in
    rw is (tallies_from _ _ _ _ _ _ (Err c.in_err-response.field-0.0) h.reads h.puts c.in_err-response.ensures.tallies)

pub returns-then-not-is_interim-clause-decides : goal.returns-then-not-is_interim-clause-decides
returns-then-not-is_interim-clause-decides g c =
    passed_to_one c.loop-passed.passed _ _ _ _ _ c.in_ok-response.response _ c.unless_switching.ensures c.loop-passed-test.true (sym c.is_interim.ensures ∙ c.if-not-is_interim.true)
    c.loop-passed.invariant.passed c.in_ok-response.ensures.found

pub loop-passed-preserved : goal.loop-passed-preserved
loop-passed-preserved g c =
    let h = c.loop-passed.invariant in
    let tallies = c.in_ok-response.ensures.tallies in
    record {
      few = omega (arith, c.loop-passed-test.true);
      passed = passed_more c.loop-passed.passed _ _ _ _ _ c.in_ok-response.response (sym c.is_interim.ensures ∙ c.if-not-is_interim.false) h.passed c.in_ok-response.ensures.found;
      stops = stops_more c.loop-passed.passed _ _ _ _ c.loop-passed-test.true h.passed c.in_ok-response.ensures.takes h.stops;
      most = most_more c.loop-passed.passed _ _ _ h.most c.in_ok-response.ensures.most;
      reads = tallies.0 ∙ h.reads;
      puts = c.in_ok-response.ensures.puts ∙ h.puts;
      writes = c.in_ok-response.ensures.writes ∙ h.writes;
      place = c.in_ok-response.ensures.place ∙ h.place;
    }

pub returns-in_err-response-clause-stops : goal.returns-in_err-response-clause-stops
returns-in_err-response-clause-stops g c =
    let h = c.loop-passed.invariant in
    stops_more c.loop-passed.passed _ _ _ _ c.loop-passed-test.true h.passed c.in_err-response.ensures.takes h.stops

pub returns-in_err-response-clause-most : goal.returns-in_err-response-clause-most
returns-in_err-response-clause-most g c =
    most_within (c.loop-passed.passed + 1) _ _ (omega (arith, c.loop-passed-test.true)) (most_more c.loop-passed.passed _ _ _ c.loop-passed.invariant.most c.in_err-response.ensures.most)

pub returns-then-not-is_interim-clause-stops : goal.returns-then-not-is_interim-clause-stops
returns-then-not-is_interim-clause-stops g c =
    let h = c.loop-passed.invariant in
    stops_more c.loop-passed.passed _ _ _ _ c.loop-passed-test.true h.passed c.in_ok-response.ensures.takes h.stops

pub returns-then-not-is_interim-clause-most : goal.returns-then-not-is_interim-clause-most
returns-then-not-is_interim-clause-most g c =
    most_within (c.loop-passed.passed + 1) _ _ (omega (arith, c.loop-passed-test.true)) (most_more c.loop-passed.passed _ _ _ c.loop-passed.invariant.most c.in_ok-response.ensures.most)
