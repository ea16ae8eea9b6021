-- How a poll is answered, by the stream that is found.
use Rattle.std.proofs.Common.{◌≡◌, ◌∙◌, ap, sym, ℕ, List, [], ◌∷◌, map, false, true, Option, None, Some, Result, Ok, Err, IfOk, if◌then◌else◌, refl}
use Rattle.std.specs.List.{cons_option}
use Rattle.std.specs.Option.{option_to_list}
use Rattle.sig_terms.specs.Deliveries.{is_push}
use Rattle.sig_terms.specs.Reply.{Reply}
use Rattle.sig_terms.specs.declared.answer.Answer.{Answer}
use Rattle.sig_terms.specs.declared.answer.Answer.TheVariants.{NotFound}
use Rattle.sig_terms.specs.declared.call.PollAsk.{PollAsk}
use Rattle.sig_terms.specs.declared.fault.PrepareFault.{PrepareFault}
use Rattle.sig_token_calls.specs.declared.reply.Reply as replies
use Rattle.sig_terms.specs.declared.fact.Fact.{Fact}
use Rattle.sig_terms.specs.declared.fact.SettledItem.{SettledItem}
use Rattle.sig_history.specs.Streams.{Stream, Publication, jti_of}
use Rattle.sig_history.specs.Owed.{Sum, offered_by, sum_of}
use Rattle.sig_calls.specs.Found.{told_by}
use Rattle.sig_calls.specs.Polling.{page_of, page_size, polled, polled_answer, polled_change, polling, settled_by, settled_items}
use Rattle.sig_calls.specs.Settling.{settled_fact}
use Rattle.sig_calls.specs.Told.{only, outcome, with_change}
use Rattle.sig_accounts.specs.declared.debt.Debt.{Debt}
use Rattle.sig_accounts.specs.Owings.{Owing, client_owing, made_of, owing_named}
use Rattle.sig_ledger.specs.Books.{Books, sum_in}
use Rattle.sig_ledger.proofs.FoundLemmas.{found_owed}
use Rattle.sig_token_calls.specs.Offering.{open_debts}
use Rattle.sig_token_calls.specs.Replies.{polled_reply, settled_debts, told_as}
use Rattle.sig_token_calls.proofs.FoundLemmas.{client_is}
use Rattle.sig_token_calls.proofs.OfferedLemmas.{offered_left}

abbrev pub answered : Answer → Option Fact → Reply
answered a f = record { answer = a; change = f }

settled_tokens : (ask : PollAsk) (sid : List ℕ) (published : List Publication) (s : Stream) (ds : List Debt)
    → settled_items ask (map (made_of sid published s) ds) ≡ settled_debts ask sid s.conf.stream ds
settled_tokens ask sid published s [] = refl
settled_tokens ask sid published s (d ∷ ds) =
    ap (cons_option (settled_by ask d.number (jti_of sid s.conf.stream d.number))) (settled_tokens ask sid published s ds)

-- what is told holds of each reply that is this one
pub told_if_ok : {E : Type 0} (told : Result Reply PrepareFault) (r : replies.Reply) (x : Result replies.Reply E) → told ≡ Ok (told_as r)
    → IfOk x (λ (y : replies.Reply). y ≡ r) → IfOk x (λ (y : replies.Reply). told ≡ Ok (told_as y))
told_if_ok told r (Ok y) is same = is ∙ ap (λ z. Ok (told_as z)) (sym same)
told_if_ok told r (Err e) is same = tt

-- there is no such stream
pub not_polled : (b : Books) (client stream : List ℕ) (ask : PollAsk) → None ≡ client_owing client stream b.owings
    → outcome (polling (sum_in b) client stream ask) ≡ Ok (answered NotFound None)
not_polled b client stream ask none = ap (λ found. outcome (told_by (polled (sum_in b) stream ask) found)) (client_is b client stream None none)

-- its tokens are pushed
pub pushed_not_polled : (b : Books) (client stream : List ℕ) (ask : PollAsk) (o : Owing) → Some o ≡ client_owing client stream b.owings
    → is_push o.stream.conf.delivery ≡ true → outcome (polling (sum_in b) client stream ask) ≡ Ok (answered NotFound None)
pushed_not_polled b client stream ask o is pushed =
    ap (λ found. outcome (told_by (polled (sum_in b) stream ask) found)) (client_is b client stream (Some o) is)
    ∙ ap (λ p. outcome (if p then only NotFound else with_change (polled_answer (sum_in b) stream ask o.stream) (polled_change (sum_in b) stream ask))) pushed

-- there is one
pub is_polled : (b : Books) (client stream : List ℕ) (ask : PollAsk) (o : Owing) → Some o ≡ client_owing client stream b.owings
    → Some o ≡ owing_named stream b.owings → is_push o.stream.conf.delivery ≡ false
    → outcome (polling (sum_in b) client stream ask) ≡ Ok (told_as (polled_reply b.store_id b.published stream ask o))
is_polled b client stream ask o is named kept =
    let s : Sum = sum_in b in
    let items : List SettledItem = settled_debts ask b.store_id o.stream.conf.stream o.owed in
    let change : polled_change s stream ask ≡ settled_fact stream items =
    ap (λ l. settled_fact stream (settled_items ask l)) (found_owed b stream o (sym named))
    ∙ ap (settled_fact stream) (settled_tokens ask b.store_id b.published o.stream o.owed) in
    let rest : offered_by (sum_of s (option_to_list (polled_change s stream ask))) stream
    ≡ map (made_of b.store_id b.published o.stream) (open_debts b.published o.stream items o.owed) =
    ap (λ f. offered_by (sum_of s (option_to_list f)) stream) change ∙ offered_left b stream o items named in
    ap (λ found. outcome (told_by (polled s stream ask) found)) (client_is b client stream (Some o) is)
    ∙ ap (λ p. outcome (if p then only NotFound else with_change (polled_answer s stream ask o.stream) (polled_change s stream ask))) kept
    ∙ ap (λ l. Ok (answered (page_of o.stream.conf.delivery (page_size ask) l) (polled_change s stream ask))) rest
    ∙ ap (λ f. Ok (answered (page_of o.stream.conf.delivery (page_size ask) (map (made_of b.store_id b.published o.stream) (open_debts b.published o.stream items o.owed))) f)) change
