use Rattle.std.proofs.Common.{sym, subst, refl, map, List, ℕ}
use Rattle.std.specs.Prelude.{string_bytes}
use Rattle.sig_command.specs.Moment.{InputState, output_state}
use Rattle.sig_service.specs.Asking.{courier_of, fetch_of, init_of, manage_of, server_of}
use Rattle.sig_service.specs.CourierRuns.{CourierRan}
use Rattle.sig_service.specs.FetchRuns.{FetchRan}
use Rattle.sig_service.specs.InitRuns.{InitRan}
use Rattle.sig_service.specs.ManageRuns.{ManageRan, last_line}
use Rattle.sig_service.specs.Outside.{outside_state}
use Rattle.sig_service.specs.ServerRuns.{ServerRan}
use Rattle.sig_service.proofs.ManageAskingLemmas.{manage_alone}
use Rattle.sig_service.proofs.ManageEndLemmas.{manage_no_usage, managed_whole}
use Rattle.sig_service.proofs.StoreAskingLemmas.{given_absent, given_none, given_same, given_some, given_told}
use Rattle.sig_service.proofs.words.run.Goals as goal

pub returns-in-Some : goal.returns-in-Some
returns-in-Some g c =
    let words = map (λ word. string_bytes word) c.args.words.now in
    let before = output_state (g.O.Sink.written c.args.output.now) (g.O.Sink.faults c.args.output.now) (g.O.Sink.stalls c.args.output.now) in
    let after = output_state (g.O.Sink.written c.run_manage.new.output) (g.O.Sink.faults c.run_manage.new.output) (g.O.Sink.stalls c.run_manage.new.output) in
    let old = outside_state g.X.Outside.settings_of g.X.Outside.held g.X.Outside.there g.X.Outside.doors g.X.Outside.doors_back g.X.Outside.sides g.X.Outside.sides_back g.X.Outside.settings_faults g.X.Outside.store_faults g.X.Outside.network_faults c.args.outside.now in
    let now = outside_state g.X.Outside.settings_of g.X.Outside.held g.X.Outside.there g.X.Outside.doors g.X.Outside.doors_back g.X.Outside.sides g.X.Outside.sides_back g.X.Outside.settings_faults g.X.Outside.store_faults g.X.Outside.network_faults c.run_manage.new.outside in
    let ran = λ (settings : List ℕ). ManageRan settings old now before after c.run_manage.result in
    let ends = c.run_manage.ensures.ends in
    let given = c.in-Some.ensures in
    let alone = manage_alone words _ given in
    let input : InputState = record { left = g.I.Source.left c.args.input.now; faults = g.I.Source.faults c.args.input.now } in
    record {
      serves = given_absent (server_of words) (λ ask. ServerRan ask old now before after c.run_manage.result) (sym alone.2);
      fetches = given_absent (fetch_of words) (λ ask. FetchRan ask old now before after c.run_manage.result) (sym alone.3);
      couriers = given_absent (courier_of words) (λ ask. CourierRan ask old now input input before after c.run_manage.result) (sym alone.4);
      manages = given_told _ (manage_of words) ran given ends;
      init = given_absent (init_of words) (λ ask. InitRan ask (g.X.Outside.held c.args.outside.now) (g.X.Outside.held c.run_manage.new.outside)
          (g.X.Outside.store_faults c.args.outside.now) (g.X.Outside.store_faults c.run_manage.new.outside) before after c.run_manage.result) (sym alone.1);
      plain = λ none. absurd (given_some _ (manage_of words) given none);
      usage = λ one. absurd (manage_no_usage ends.0 (last_line ends.0) ends.1 after c.run_manage.result ends.3 one);
      unasked = λ none courier_none. refl;
      served = λ ask named ready calm. absurd (given_none ask (server_of words) (sym alone.2) named);
      fetched = λ ask named. absurd (given_none ask (fetch_of words) (sym alone.3) named);
      managed = λ settings named ready calm. managed_whole settings old now before after c.run_manage.result ready calm (subst ran (given_same _ settings (manage_of words) given named) ends);
      made = λ ask named. absurd (given_none ask (init_of words) (sym alone.1) named);
      complete = λ command told named. absurd (given_none command _ (sym alone.0) named);
      fold = λ issuer aud told named. absurd (given_none _ _ (sym alone.0) named);
      untouched = λ none. absurd (given_some _ (manage_of words) given none);
      settings = λ none. absurd (given_some _ (manage_of words) given none);
      doors = λ none. c.run_manage.ensures.doors;
      sides = λ none. absurd (given_some _ (manage_of words) given none);
      network = λ none. absurd (given_some _ (manage_of words) given none);
    }

pub returns-in-None : goal.returns-in-None
returns-in-None g c =
    let words = map (λ word. string_bytes word) c.args.words.now in
    let before = output_state (g.O.Sink.written c.args.output.now) (g.O.Sink.faults c.args.output.now) (g.O.Sink.stalls c.args.output.now) in
    let after = output_state (g.O.Sink.written c.run_others.new.output) (g.O.Sink.faults c.run_others.new.output) (g.O.Sink.stalls c.run_others.new.output) in
    let old = outside_state g.X.Outside.settings_of g.X.Outside.held g.X.Outside.there g.X.Outside.doors g.X.Outside.doors_back g.X.Outside.sides g.X.Outside.sides_back g.X.Outside.settings_faults g.X.Outside.store_faults g.X.Outside.network_faults c.args.outside.now in
    let now = outside_state g.X.Outside.settings_of g.X.Outside.held g.X.Outside.there g.X.Outside.doors g.X.Outside.doors_back g.X.Outside.sides g.X.Outside.sides_back g.X.Outside.settings_faults g.X.Outside.store_faults g.X.Outside.network_faults c.run_others.new.outside in
    let did = c.run_others.ensures in
    record {
      serves = did.serves;
      fetches = did.fetches;
      couriers = did.couriers;
      manages = given_absent (manage_of words) (λ settings. ManageRan settings old now before after c.run_others.result) c.in-None.ensures;
      init = did.init;
      plain = λ none. did.plain;
      usage = λ one. let all = did.usage one in (all.0, all.1, all.2, all.3, all.4, sym c.in-None.ensures);
      unasked = did.unasked;
      served = did.served;
      fetched = did.fetched;
      managed = λ settings named. absurd (given_none settings (manage_of words) c.in-None.ensures named);
      made = did.made;
      complete = did.complete;
      fold = did.fold;
      untouched = λ none. did.untouched;
      settings = λ none. did.settings;
      doors = did.doors;
      sides = λ none. did.sides;
      network = λ none. did.network;
    }
