use Rattle.std.proofs.Common.{rules, ◌≡◌, ◌<◌, ◌≤◌, ◌∙◌, length, Err, arith}
use Rattle.sig_tick.proofs.BringLemmas.{brings_next, brings_refused, brings_stopped, brings_to_the_end}
use Rattle.sig_tick.proofs.bringing.bring.Goals as goal

pub returns-in_err-last_ended-in-Ok-clause-brought : goal.returns-in_err-last_ended-in-Ok-clause-brought
returns-in_err-last_ended-in-Ok-clause-brought g c =
    let is : c.from_residual.result ≡ Err c.in_err-last_ended-in-Ok.field-0.0 = search rules in
    let h : c.loop-token.token-index < length c.args.tokens.now = omega arith in
    rw is (brings_refused c.args.rules.now _ _ _ _ c.args.tokens.now c.loop-token.token-index c.token-item.result _ _ _ _ _ _ _ _ _ _ c.in_err-last_ended-in-Ok.field-0.0
    (record {
      below = h;
      is = c.token-item.is;
      link_same = c.loop-token.invariant.link;
      time_same = c.loop-token.invariant.now;
      on = c.loop-token.invariant.goes_on;
      delivered = c.in-Ok.ensures.delivered;
    }) (λ earlier turn e. c.in_err-last_ended-in-Ok.ensures earlier turn (c.as_slice.ensures.value ∙ e)))

pub returns-in-Err-clause-brought : goal.returns-in-Err-clause-brought
returns-in-Err-clause-brought g c =
    let h : c.loop-token.token-index < length c.args.tokens.now = omega arith in
    rw c.end_by.ensures (rw c.note_late.ensures (brings_stopped c.args.rules.now _ _ _ _ c.args.tokens.now c.loop-token.token-index c.token-item.result _ _ _ _ _ _ _ _ _ c.in-Err.fault
    (record {
      below = h;
      is = c.token-item.is;
      link_same = c.loop-token.invariant.link;
      time_same = c.loop-token.invariant.now;
      on = c.loop-token.invariant.goes_on;
      delivered = c.in-Err.ensures.delivered;
    })))

pub loop-token-preserved : goal.loop-token-preserved
loop-token-preserved g c =
    let h : c.loop-token.token-index < length c.args.tokens.now = omega arith in
    record {
      goes_on = brings_next c.args.rules.now _ _ _ _ c.args.tokens.now c.loop-token.token-index c.token-item.result _ _ _ _ _ _ _ _ _ _ _
          (record {
            below = h;
            is = c.token-item.is;
            link_same = c.loop-token.invariant.link;
            time_same = c.loop-token.invariant.now;
            on = c.loop-token.invariant.goes_on;
            delivered = c.in-Ok.ensures.delivered;
          }) (λ earlier turn e. c.in_ok-last_ended-in-Ok.ensures earlier turn (c.as_slice.ensures.value ∙ e));
      link = c.in-Ok.ensures.link ∙ c.loop-token.invariant.link;
      now = c.in-Ok.ensures.now ∙ c.loop-token.invariant.now;
    }

pub returns-clause-brought : goal.returns-clause-brought
returns-clause-brought g c =
    let h : length c.args.tokens.now ≤ c.loop-token.token-index = omega arith in
    rw c.note_late-2.ensures (brings_to_the_end c.args.rules.now _ c.args.tokens.now c.loop-token.token-index _ _ _ _ _ _ _ h c.loop-token.invariant.goes_on)
