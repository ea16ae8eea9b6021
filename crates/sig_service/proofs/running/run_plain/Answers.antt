use Rattle.std.proofs.Common.{sym, subst, refl, map}
use Rattle.std.specs.Prelude.{string_bytes}
use Rattle.sig_command.specs.Moment.{output_state}
use Rattle.sig_service.specs.Asking.{Asked, StoreAsked, fetch_of, init_of}
use Rattle.sig_service.specs.FetchRuns.{FetchRan}
use Rattle.sig_service.specs.FetchRuns as fetch_runs
use Rattle.sig_service.specs.InitRuns.{InitRan, last_line}
use Rattle.sig_service.specs.Outside.{outside_state}
use Rattle.sig_service.proofs.AskingLemmas.{asked_alone, no_other}
use Rattle.sig_service.proofs.EndLemmas.{put_no_usage}
use Rattle.sig_service.proofs.FetchEndLemmas.{fetch_no_usage, fetched_whole}
use Rattle.sig_service.proofs.ServerEndLemmas.{made_whole}
use Rattle.sig_service.proofs.StoreAskingLemmas.{fetch_alone, given_absent, given_none, given_same, given_some, given_told, init_alone}
use Rattle.sig_service.proofs.running.run_plain.Goals as goal

pub returns-in-Some : goal.returns-in-Some
returns-in-Some g c =
    let words = map (λ word. string_bytes word) c.args.words.now in
    let before = output_state (g.O.Sink.written c.args.output.now) (g.O.Sink.faults c.args.output.now) (g.O.Sink.stalls c.args.output.now) in
    let after = output_state (g.O.Sink.written c.run_init.new.output) (g.O.Sink.faults c.run_init.new.output) (g.O.Sink.stalls c.run_init.new.output) in
    let old = outside_state g.X.Outside.settings_of g.X.Outside.held g.X.Outside.there g.X.Outside.doors g.X.Outside.doors_back g.X.Outside.sides g.X.Outside.sides_back g.X.Outside.settings_faults g.X.Outside.store_faults g.X.Outside.network_faults c.args.outside.now in
    let now = outside_state g.X.Outside.settings_of g.X.Outside.held g.X.Outside.there g.X.Outside.doors g.X.Outside.doors_back g.X.Outside.sides g.X.Outside.sides_back g.X.Outside.settings_faults g.X.Outside.store_faults g.X.Outside.network_faults c.run_init.new.outside in
    let ran = λ (ask : Asked). InitRan ask (g.X.Outside.held c.args.outside.now) (g.X.Outside.held c.run_init.new.outside)
    (g.X.Outside.store_faults c.args.outside.now) (g.X.Outside.store_faults c.run_init.new.outside) before after c.run_init.result in
    let ends = c.run_init.ensures.ends in
    let none = init_alone words _ c.in-Some.ensures in
    record {
      fetches = given_absent (fetch_of words) (λ ask. FetchRan ask old now before after c.run_init.result) (sym none);
      plain = λ none init_none. absurd (given_some _ (init_of words) c.in-Some.ensures init_none);
      init = given_told _ (init_of words) ran c.in-Some.ensures ends;
      usage = λ one. absurd (put_no_usage ends.0 (last_line ends.0) before after c.run_init.result ends.2 one);
      unasked = λ none. refl;
      fetched = λ ask named. absurd (given_none ask (fetch_of words) (sym none) named);
      made = λ ask named a_empty b_empty stores output flows.
          made_whole ask (g.X.Outside.held c.args.outside.now) (g.X.Outside.held c.run_init.new.outside)
          (g.X.Outside.store_faults c.args.outside.now) (g.X.Outside.store_faults c.run_init.new.outside) before after c.run_init.result
          a_empty b_empty stores output flows (subst ran (given_same _ ask (init_of words) c.in-Some.ensures named) ends);
      complete = λ command told named left short in_ok out_ok flows. absurd (asked_alone words _ command c.in-Some.ensures named);
      fold = λ issuer aud told named left short in_ok out_ok flows. absurd (asked_alone words _ _ c.in-Some.ensures named);
      untouched = λ none init_none. absurd (given_some _ (init_of words) c.in-Some.ensures init_none);
      settings = λ none. c.run_init.ensures.settings;
      doors = c.run_init.ensures.doors;
      sides = λ none. c.run_init.ensures.sides;
      network = λ none. c.run_init.ensures.network;
    }

pub returns-in-Some-fetch_of : goal.returns-in-Some-fetch_of
returns-in-Some-fetch_of g c =
    let words = map (λ word. string_bytes word) c.args.words.now in
    let before = output_state (g.O.Sink.written c.args.output.now) (g.O.Sink.faults c.args.output.now) (g.O.Sink.stalls c.args.output.now) in
    let after = output_state (g.O.Sink.written c.run_fetch.new.output) (g.O.Sink.faults c.run_fetch.new.output) (g.O.Sink.stalls c.run_fetch.new.output) in
    let old = outside_state g.X.Outside.settings_of g.X.Outside.held g.X.Outside.there g.X.Outside.doors g.X.Outside.doors_back g.X.Outside.sides g.X.Outside.sides_back g.X.Outside.settings_faults g.X.Outside.store_faults g.X.Outside.network_faults c.args.outside.now in
    let now = outside_state g.X.Outside.settings_of g.X.Outside.held g.X.Outside.there g.X.Outside.doors g.X.Outside.doors_back g.X.Outside.sides g.X.Outside.sides_back g.X.Outside.settings_faults g.X.Outside.store_faults g.X.Outside.network_faults c.run_fetch.new.outside in
    let ran = λ (ask : StoreAsked). FetchRan ask old now before after c.run_fetch.result in
    let ends = c.run_fetch.ensures.ends in
    let given = c.in-Some-fetch_of.ensures in
    let alone = fetch_alone words _ given in
    record {
      fetches = given_told _ (fetch_of words) ran given ends;
      plain = λ none. absurd (given_some _ (fetch_of words) given none);
      init = given_absent (init_of words) (λ ask. InitRan ask (g.X.Outside.held c.args.outside.now) (g.X.Outside.held c.run_fetch.new.outside)
          (g.X.Outside.store_faults c.args.outside.now) (g.X.Outside.store_faults c.run_fetch.new.outside) before after c.run_fetch.result) (sym alone.1);
      usage = λ one. absurd (fetch_no_usage ends.0 (fetch_runs.last_line ends.0) before after c.run_fetch.result ends.2 one);
      unasked = λ none. refl;
      fetched = λ ask named ready calm. fetched_whole ask old now before after c.run_fetch.result ready calm (subst ran (given_same _ ask (fetch_of words) given named) ends);
      made = λ ask named. absurd (given_none ask (init_of words) (sym alone.1) named);
      complete = λ command told named. absurd (given_none command _ (sym alone.0) named);
      fold = λ issuer aud told named. absurd (given_none _ _ (sym alone.0) named);
      untouched = λ none. absurd (given_some _ (fetch_of words) given none);
      settings = λ none. absurd (given_some _ (fetch_of words) given none);
      doors = c.run_fetch.ensures.doors;
      sides = λ none. absurd (given_some _ (fetch_of words) given none);
      network = λ none. absurd (given_some _ (fetch_of words) given none);
    }

pub returns-in-None-fetch_of : goal.returns-in-None-fetch_of
returns-in-None-fetch_of g c =
    let words = map (λ word. string_bytes word) c.args.words.now in
    let before = output_state (g.O.Sink.written c.args.output.now) (g.O.Sink.faults c.args.output.now) (g.O.Sink.stalls c.args.output.now) in
    let after = output_state (g.O.Sink.written c.run.new.output) (g.O.Sink.faults c.run.new.output) (g.O.Sink.stalls c.run.new.output) in
    let old = outside_state g.X.Outside.settings_of g.X.Outside.held g.X.Outside.there g.X.Outside.doors g.X.Outside.doors_back g.X.Outside.sides g.X.Outside.sides_back g.X.Outside.settings_faults g.X.Outside.store_faults g.X.Outside.network_faults c.args.outside.now in
    let now = outside_state g.X.Outside.settings_of g.X.Outside.held g.X.Outside.there g.X.Outside.doors g.X.Outside.doors_back g.X.Outside.sides g.X.Outside.sides_back g.X.Outside.settings_faults g.X.Outside.store_faults g.X.Outside.network_faults c.args.outside.now in
    record {
      fetches = given_absent (fetch_of words) (λ ask. FetchRan ask old now before after c.run.result) c.in-None-fetch_of.ensures;
      plain = λ fetch_none init_none. c.run.ensures.ends;
      init = given_absent (init_of words) (λ ask. InitRan ask (g.X.Outside.held c.args.outside.now) (g.X.Outside.held c.args.outside.now)
          (g.X.Outside.store_faults c.args.outside.now) (g.X.Outside.store_faults c.args.outside.now) before after c.run.result) c.in-None.ensures;
      usage = λ one. (c.run.ensures.usage one, sym c.in-None.ensures, sym c.in-None-fetch_of.ensures);
      unasked = c.run.ensures.unasked;
      fetched = λ ask named ready calm. absurd (given_none ask (fetch_of words) c.in-None-fetch_of.ensures named);
      made = λ ask named a_empty b_empty stores output flows. absurd (given_none ask (init_of words) c.in-None.ensures named);
      complete = c.run.ensures.complete;
      fold = c.run.ensures.fold;
      untouched = λ fetch_none init_none. refl;
      settings = λ none. (refl, refl);
      doors = (refl, refl, refl);
      sides = λ none. (refl, refl, refl);
      network = λ none. refl;
    }
