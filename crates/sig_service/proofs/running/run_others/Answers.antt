use Rattle.std.proofs.Common.{sym, subst, refl, map}
use Rattle.std.specs.Prelude.{string_bytes}
use Rattle.sig_command.specs.Moment.{output_state}
use Rattle.sig_service.specs.Asking.{CourierAsked, ServerAsked, courier_of, fetch_of, init_of, server_of}
use Rattle.sig_service.specs.CourierRuns.{CourierRan}
use Rattle.sig_service.specs.CourierRuns as courier_runs
use Rattle.sig_service.specs.FetchRuns.{FetchRan}
use Rattle.sig_service.specs.InitRuns.{InitRan}
use Rattle.sig_service.specs.Outside.{outside_state}
use Rattle.sig_service.specs.ServerRuns.{ServerRan, last_line}
use Rattle.sig_service.proofs.CourierAskingLemmas.{courier_alone, server_not_courier}
use Rattle.sig_service.proofs.CourierEndLemmas.{courier_no_usage}
use Rattle.sig_service.proofs.ServerEndLemmas.{serve_no_usage, served_whole}
use Rattle.sig_service.proofs.StoreAskingLemmas.{given_absent, given_none, given_same, given_some, given_told, server_alone}
use Rattle.sig_service.proofs.running.run_others.Goals as goal

pub returns-in-Some : goal.returns-in-Some
returns-in-Some g c =
    let words = map (λ word. string_bytes word) c.args.words.now in
    let before = output_state (g.O.Sink.written c.args.output.now) (g.O.Sink.faults c.args.output.now) (g.O.Sink.stalls c.args.output.now) in
    let after = output_state (g.O.Sink.written c.run_server.new.output) (g.O.Sink.faults c.run_server.new.output) (g.O.Sink.stalls c.run_server.new.output) in
    let old = outside_state g.X.Outside.settings_of g.X.Outside.held g.X.Outside.there g.X.Outside.doors g.X.Outside.doors_back g.X.Outside.sides g.X.Outside.sides_back g.X.Outside.settings_faults g.X.Outside.store_faults g.X.Outside.network_faults c.args.outside.now in
    let now = outside_state g.X.Outside.settings_of g.X.Outside.held g.X.Outside.there g.X.Outside.doors g.X.Outside.doors_back g.X.Outside.sides g.X.Outside.sides_back g.X.Outside.settings_faults g.X.Outside.store_faults g.X.Outside.network_faults c.run_server.new.outside in
    let ran = λ (ask : ServerAsked). ServerRan ask old now before after c.run_server.result in
    let ends = c.run_server.ensures.ends in
    let given = c.in-Some.ensures in
    let alone = server_alone words _ given in
    record {
      serves = given_told _ (server_of words) ran given ends;
      fetches = given_absent (fetch_of words) (λ ask. FetchRan ask old now before after c.run_server.result) (sym alone.2);
      couriers = given_absent (courier_of words) (λ ask. CourierRan ask old now (record { left = g.I.Source.left c.args.input.now; faults = g.I.Source.faults c.args.input.now }) (record { left = g.I.Source.left c.args.input.now; faults = g.I.Source.faults c.args.input.now }) before after c.run_server.result) (sym (server_not_courier words _ given));
      init = given_absent (init_of words) (λ ask. InitRan ask (g.X.Outside.held c.args.outside.now) (g.X.Outside.held c.run_server.new.outside)
          (g.X.Outside.store_faults c.args.outside.now) (g.X.Outside.store_faults c.run_server.new.outside) before after c.run_server.result) (sym alone.1);
      plain = λ none. absurd (given_some _ (server_of words) given none);
      usage = λ one. absurd (serve_no_usage ends.0 (last_line ends.0) before after c.run_server.result ends.2 one);
      unasked = λ none courier_none. refl;
      served = λ ask named ready calm. served_whole ask old now before after c.run_server.result ready calm (subst ran (given_same _ ask (server_of words) given named) ends);
      fetched = λ ask named. absurd (given_none ask (fetch_of words) (sym alone.2) named);
      made = λ ask named. absurd (given_none ask (init_of words) (sym alone.1) named);
      complete = λ command told named. absurd (given_none command _ (sym alone.0) named);
      fold = λ issuer aud told named. absurd (given_none _ _ (sym alone.0) named);
      untouched = λ none. absurd (given_some _ (server_of words) given none);
      settings = λ none. absurd (given_some _ (server_of words) given none);
      doors = λ none. absurd (given_some _ (server_of words) given none);
      sides = λ none courier_none. c.run_server.ensures.sides;
      network = λ none. absurd (given_some _ (server_of words) given none);
    }

pub returns-in-Some-courier_of : goal.returns-in-Some-courier_of
returns-in-Some-courier_of g c =
    let words = map (λ word. string_bytes word) c.args.words.now in
    let before = output_state (g.O.Sink.written c.args.output.now) (g.O.Sink.faults c.args.output.now) (g.O.Sink.stalls c.args.output.now) in
    let after = output_state (g.O.Sink.written c.run_courier.new.output) (g.O.Sink.faults c.run_courier.new.output) (g.O.Sink.stalls c.run_courier.new.output) in
    let old = outside_state g.X.Outside.settings_of g.X.Outside.held g.X.Outside.there g.X.Outside.doors g.X.Outside.doors_back g.X.Outside.sides g.X.Outside.sides_back g.X.Outside.settings_faults g.X.Outside.store_faults g.X.Outside.network_faults c.args.outside.now in
    let now = outside_state g.X.Outside.settings_of g.X.Outside.held g.X.Outside.there g.X.Outside.doors g.X.Outside.doors_back g.X.Outside.sides g.X.Outside.sides_back g.X.Outside.settings_faults g.X.Outside.store_faults g.X.Outside.network_faults c.run_courier.new.outside in
    let ran = λ (ask : CourierAsked). CourierRan ask old now (record { left = g.I.Source.left c.args.input.now; faults = g.I.Source.faults c.args.input.now }) (record { left = g.I.Source.left c.run_courier.new.input; faults = g.I.Source.faults c.run_courier.new.input }) before after c.run_courier.result in
    let ends = c.run_courier.ensures.ends in
    let given = c.in-Some-courier_of.ensures in
    let alone = courier_alone words _ given in
    record {
      serves = given_absent (server_of words) (λ ask. ServerRan ask old now before after c.run_courier.result) c.in-None.ensures;
      fetches = given_absent (fetch_of words) (λ ask. FetchRan ask old now before after c.run_courier.result) (sym alone.3);
      couriers = given_told _ (courier_of words) ran given ends;
      init = given_absent (init_of words) (λ ask. InitRan ask (g.X.Outside.held c.args.outside.now) (g.X.Outside.held c.run_courier.new.outside)
          (g.X.Outside.store_faults c.args.outside.now) (g.X.Outside.store_faults c.run_courier.new.outside) before after c.run_courier.result) (sym alone.1);
      plain = λ none courier_none. absurd (given_some _ (courier_of words) given courier_none);
      usage = λ one. absurd (courier_no_usage ends.0 (courier_runs.last_line ends.0) ends.1 after c.run_courier.result ends.3 one);
      unasked = λ none courier_none. absurd (given_some _ (courier_of words) given courier_none);
      served = λ ask named ready calm. absurd (given_none ask (server_of words) c.in-None.ensures named);
      fetched = λ ask named. absurd (given_none ask (fetch_of words) (sym alone.3) named);
      made = λ ask named. absurd (given_none ask (init_of words) (sym alone.1) named);
      complete = λ command told named. absurd (given_none command _ (sym alone.0) named);
      fold = λ issuer aud told named. absurd (given_none _ _ (sym alone.0) named);
      untouched = λ none courier_none. absurd (given_some _ (courier_of words) given courier_none);
      settings = λ none courier_none. absurd (given_some _ (courier_of words) given courier_none);
      doors = λ none. c.run_courier.ensures.doors;
      sides = λ none courier_none. absurd (given_some _ (courier_of words) given courier_none);
      network = λ none courier_none. absurd (given_some _ (courier_of words) given courier_none);
    }

pub returns-in-None-courier_of : goal.returns-in-None-courier_of
returns-in-None-courier_of g c =
    let words = map (λ word. string_bytes word) c.args.words.now in
    let before = output_state (g.O.Sink.written c.args.output.now) (g.O.Sink.faults c.args.output.now) (g.O.Sink.stalls c.args.output.now) in
    let after = output_state (g.O.Sink.written c.run_plain.new.output) (g.O.Sink.faults c.run_plain.new.output) (g.O.Sink.stalls c.run_plain.new.output) in
    let old = outside_state g.X.Outside.settings_of g.X.Outside.held g.X.Outside.there g.X.Outside.doors g.X.Outside.doors_back g.X.Outside.sides g.X.Outside.sides_back g.X.Outside.settings_faults g.X.Outside.store_faults g.X.Outside.network_faults c.args.outside.now in
    let now = outside_state g.X.Outside.settings_of g.X.Outside.held g.X.Outside.there g.X.Outside.doors g.X.Outside.doors_back g.X.Outside.sides g.X.Outside.sides_back g.X.Outside.settings_faults g.X.Outside.store_faults g.X.Outside.network_faults c.run_plain.new.outside in
    let did = c.run_plain.ensures in
    record {
      serves = given_absent (server_of words) (λ ask. ServerRan ask old now before after c.run_plain.result) c.in-None.ensures;
      fetches = did.fetches;
      couriers = given_absent (courier_of words) (λ ask. CourierRan ask old now (record { left = g.I.Source.left c.args.input.now; faults = g.I.Source.faults c.args.input.now }) (record { left = g.I.Source.left c.run_plain.new.input; faults = g.I.Source.faults c.run_plain.new.input }) before after c.run_plain.result) c.in-None-courier_of.ensures;
      init = did.init;
      plain = λ none courier_none. did.plain;
      usage = λ one. let both = did.usage one in (both.0, both.1, sym c.in-None.ensures, both.2, sym c.in-None-courier_of.ensures);
      unasked = λ none courier_none. did.unasked none;
      served = λ ask named ready calm. absurd (given_none ask (server_of words) c.in-None.ensures named);
      fetched = did.fetched;
      made = did.made;
      complete = did.complete;
      fold = did.fold;
      untouched = λ none courier_none. did.untouched;
      settings = λ none courier_none. did.settings;
      doors = λ none. did.doors;
      sides = λ none courier_none. did.sides none;
      network = λ none courier_none. did.network;
    }
