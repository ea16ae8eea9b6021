use Rattle.std.proofs.Common.{◌≡◌, ◌<◌, ◌^◌, ◌∙◌, ap, sym, ℕ, List, ◌++◌, Option, nat_eq, arith, rules, take}
use Rattle.std.specs.List.{filter_map}
use Rattle.std.specs.Option.{option_to_list}
use Rattle.std.proofs.lemmas.List.{take_all}
use Rattle.indexmap.specs.IndexMap.{get}
use Rattle.sig_accounts.specs.declared.debt.Debt.{Debt}
use Rattle.sig_terms.specs.declared.call.PollAsk.{PollAsk}
use Rattle.sig_terms.specs.declared.fact.SettledItem.{SettledItem}
use Rattle.sig_history.specs.Streams.{jti_of}
use Rattle.sig_calls.specs.Polling.{settled_by}
use Rattle.sig_token_calls.specs.Verdicts.{item_of, prefix_of}
use Rattle.sig_token_calls.proofs.PageLemmas.{items_more}
use Rattle.sig_token_calls.proofs.VerdictLemmas.{item_read, settled_between, unsaid_above, unsaid_below}
use Rattle.sig_token_calls.proofs.polling.settled_debts.Goals as goal

pub loop-debt-preserved : goal.loop-debt-preserved
loop-debt-preserved c =
    let stream : List ℕ = c.args.account.now.owing.stream.conf.stream in
    let f : Debt → Option SettledItem = λ (d : Debt). settled_by c.args.ask.now d.number (jti_of c.args.store_id stream d.number) in
    let d : Debt = c.debt-item.result in
    let small : d.number < 2 ^ 64 = search (rules, arith) in
    let same : c.as_str-stream.result.now ≡ stream = search rules in
    c.in_ok-push_settled.ensures
    ∙ ap (λ (o : Option SettledItem). c.loop-debt.items.items ++ option_to_list o)
    (item_read c.args.ask.now c.args.store_id stream c.as_str.result.now d.number _
    (c.as_str.ensures.same ∙ c.in_ok-prefix.ensures ∙ ap (prefix_of c.args.store_id) same) (c.in_ok-verdicts.ensures d.number small))
    ∙ ap (λ (items : List SettledItem). items ++ option_to_list (f d)) c.loop-debt.invariant
    ∙ ap (λ (e : Debt). filter_map f (take c.loop-debt.debt-index c.owed_between-owed.result.now) ++ option_to_list (f e)) c.debt-item.is
    ∙ sym (items_more f c.owed_between-owed.result.now c.loop-debt.debt-index d (omega arith))

pub returns : goal.returns
returns c =
    let ask : PollAsk = c.args.ask.now in
    let stream : List ℕ = c.args.account.now.owing.stream.conf.stream in
    let owed : List Debt = c.args.account.now.owing.owed in
    let g : ℕ → Option SettledItem = λ n. settled_by ask n (jti_of c.args.store_id stream n) in
    let f : Debt → Option SettledItem = λ (d : Debt). g d.number in
    let same : c.as_str-stream.result.now ≡ stream = search rules in
    let prefix : c.as_str.result.now ≡ prefix_of c.args.store_id stream =
    c.as_str.ensures.same ∙ c.in_ok-prefix.ensures ∙ ap (prefix_of c.args.store_id) same in
    let read : (n : ℕ) → n < 2 ^ 64 → item_of n (get nat_eq c.in_ok-verdicts.verdicts n) ≡ g n =
    λ n small. item_read ask c.args.store_id stream c.as_str.result.now n (get nat_eq c.in_ok-verdicts.verdicts n) prefix (c.in_ok-verdicts.ensures n small) in
    c.loop-debt.invariant
    ∙ ap (filter_map f) (take_all c.loop-debt.debt-index c.owed_between-owed.result.now (omega arith) ∙ c.owed_between-owed.ensures.between)
    ∙ settled_between g c.lowest.result c.highest.result owed c.owed_between-owed.ensures.small
    (λ n small h. sym (read n small) ∙ ap (item_of n) (unsaid_below c.lowest.result n c.in_ok-verdicts.verdicts.entries c.lowest.ensures h))
    (λ n small h. sym (read n small) ∙ ap (item_of n) (unsaid_above c.highest.result n c.in_ok-verdicts.verdicts.entries c.highest.ensures h))
