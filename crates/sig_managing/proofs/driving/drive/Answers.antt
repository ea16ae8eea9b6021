use Rattle.std.proofs.Common.{rules, ◌≡◌, ◌∙◌, [], ap, sym, subst, refl, Option, None, Ok, Err, true, filter_map}
use Rattle.std.specs.Prelude.{is_some}
use Rattle.std.specs.Option.{option_to_list}
use Rattle.sig_command.specs.Moment.{output_state}
use Rattle.sig_manager.specs.Exchange.{Managed, begun, step_of}
use Rattle.sig_managing.specs.Exchanges.{done_in}
use Rattle.sig_managing.specs.Lines.{change_of, counts_of}
use Rattle.sig_managing.specs.Steps.{Asks, change_by}
use Rattle.sig_managing.specs.declared.counts.Change.{Change}
use Rattle.sig_managing.proofs.MoreSteps.{fewer_after, goes_first, goes_next, goes_no_further, goes_none, goes_to_the_end, listed_after, none_left, step_is, step_there}
use Rattle.sig_managing.proofs.driving.drive.Goals as goal

pub returns-in_err-exchange-clause-drives : goal.returns-in_err-exchange-clause-drives
returns-in_err-exchange-clause-drives g c =
    let first : c.new-manager.result ≡ begun c.args.declared = c.new-manager.ensures in
    let asks = subst (λ (x : Managed). Asks {T = Option Change} c.args.provider.now x c.exchange.new.manager (g.S.Side.view c.args.side.now).ahead (g.S.Side.view c.exchange.new.side).ahead
    (g.S.Side.view c.args.side.now).sent (g.S.Side.view c.exchange.new.side).sent (output_state (g.O.Sink.written c.args.output.now) (g.O.Sink.faults c.args.output.now) (g.O.Sink.stalls c.args.output.now))
    (output_state (g.O.Sink.written c.exchange.new.output) (g.O.Sink.faults c.exchange.new.output) (g.O.Sink.stalls c.exchange.new.output)) (Err c.in_err-exchange.field-0.0)) first c.in_err-exchange.ensures.asks in
    let residual : c.from_residual.result ≡ Err c.in_err-exchange.field-0.0 = search rules in
    rw residual (
      c.exchange.new.manager,
      goes_no_further c.args.provider.now (begun c.args.declared) (begun c.args.declared) c.exchange.new.manager _ _ _ _ _ _ _ _ _ (counts_of [])
          (goes_none c.args.provider.now (begun c.args.declared) _ _ _ (counts_of []) refl) c.in_err-exchange.field-0.0 asks,
    )

pub loop-place-init : goal.loop-place-init
loop-place-init g c =
    let first : c.new-manager.result ≡ begun c.args.declared = c.new-manager.ensures in
    let asks = subst (λ (x : Managed). Asks {T = Option Change} c.args.provider.now x c.exchange.new.manager (g.S.Side.view c.args.side.now).ahead (g.S.Side.view c.exchange.new.side).ahead
    (g.S.Side.view c.args.side.now).sent (g.S.Side.view c.exchange.new.side).sent (output_state (g.O.Sink.written c.args.output.now) (g.O.Sink.faults c.args.output.now) (g.O.Sink.stalls c.args.output.now))
    (output_state (g.O.Sink.written c.exchange.new.output) (g.O.Sink.faults c.exchange.new.output) (g.O.Sink.stalls c.exchange.new.output)) (Ok c.in_ok-exchange.field-0)) first c.in_ok-exchange.ensures.asks in
    let says : c.in_ok-exchange.field-0 ≡ change_by (step_of (begun c.args.declared)) = c.in_ok-exchange.ensures.change ∙ ap (λ (m : Managed). change_by (step_of m)) first in
    record {
      goes = goes_first c.args.provider.now (begun c.args.declared) c.exchange.new.manager _ _ _ _ _ _ c.in_ok-exchange.field-0 c.none-counts.result asks says
          (c.none-counts.ensures ∙ ap (λ (o : Option Change). counts_of (option_to_list o)) (sym says));
      listed = listed_after (Option Change) c.args.provider.now (begun c.args.declared) c.exchange.new.manager _ _ _ _ _ _ c.in_ok-exchange.field-0 asks;
      times = c.in_ok-exchange.ensures.times;
      faults = c.in_ok-exchange.ensures.counts;
    }

pub returns-in_err-change-clause-drives : goal.returns-in_err-change-clause-drives
returns-in_err-change-clause-drives g c =
    let residual : c.from_residual-in_err-change.result ≡ Err c.in_err-change.field-0.0 = search rules in
    rw residual (
      c.exchange-in-loop-place.new.manager,
      goes_no_further c.args.provider.now (begun c.args.declared) c.loop-place.manager c.exchange-in-loop-place.new.manager _ _ _ _ _ _ _ _ _ c.loop-place.counts
          c.loop-place.invariant.goes c.in_err-change.field-0.0 c.in_err-change.ensures.asks,
    )

pub loop-place-smaller : goal.loop-place-smaller
loop-place-smaller g c =
    let there : is_some (step_of c.loop-place.manager) ≡ true = search rules in
    let step = step_is (step_of c.loop-place.manager) there in
    let first = step_there c.loop-place.manager c.loop-place.invariant.listed.0 step.0 c.loop-place.invariant.listed.1 step.1 in
    fewer_after (Option Change) c.args.provider.now c.loop-place.manager c.exchange-in-loop-place.new.manager _ _ _ _ _ _ c.in_ok-change.change c.in_ok-change.ensures.asks step.0 first.0 first.1

pub loop-place-preserved : goal.loop-place-preserved
loop-place-preserved g c = record {
  goes = goes_next c.args.provider.now (begun c.args.declared) c.loop-place.manager c.exchange-in-loop-place.new.manager _ _ _ _ _ _ _ _ _ c.loop-place.counts
      c.loop-place.invariant.goes c.in_ok-change.change c.counted_on-counts.result c.in_ok-change.ensures.asks c.in_ok-change.ensures.change
      (c.counted_on-counts.ensures (filter_map change_of (done_in c.loop-place.invariant.goes.exchanges)) c.loop-place.invariant.goes.counted);
  listed = listed_after (Option Change) c.args.provider.now c.loop-place.manager c.exchange-in-loop-place.new.manager _ _ _ _ _ _ c.in_ok-change.change c.in_ok-change.ensures.asks;
  times = c.in_ok-change.ensures.times ∙ c.loop-place.invariant.times;
  faults = c.in_ok-change.ensures.counts ∙ c.loop-place.invariant.faults;
}

pub returns-clause-drives : goal.returns-clause-drives
returns-clause-drives g c =
    let none : step_of c.loop-place.manager ≡ None = search rules in (
      c.loop-place.manager,
      goes_to_the_end c.args.provider.now (begun c.args.declared) c.loop-place.manager _ _ _ _ _ _ c.loop-place.counts c.loop-place.invariant.goes
          (none_left c.loop-place.manager c.loop-place.invariant.listed.0 c.loop-place.invariant.listed.1 none),
    )
