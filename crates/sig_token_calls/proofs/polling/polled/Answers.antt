use Rattle.std.proofs.Common.{◌∙◌, ap, sym, subst, ℕ, List, length, All, Ok}
use Rattle.sig_history.specs.Streams.{Publication}
use Rattle.sig_accounts.specs.declared.debt.Debt.{Debt}
use Rattle.sig_accounts.specs.Owings.{IsPlaced, Owing}
use Rattle.sig_ledger.specs.Books.{Books}
use Rattle.sig_token_calls.specs.Replies.{polled_reply, told_as}
use Rattle.sig_token_calls.specs.declared.reply.Reply.{Reply}
use Rattle.sig_token_calls.proofs.FoundLemmas.{client_named, found_placed}
use Rattle.sig_token_calls.proofs.PolledLemmas.{is_polled, not_polled, pushed_not_polled, told_if_ok}
use Rattle.sig_token_calls.proofs.polling.polled.Goals as goal

pub returns-in-None : goal.returns-in-None
returns-in-None c =
    not_polled c.args.ledger.now.books c.args.client.now c.args.stream.now c.args.ask.now c.in-None.ensures.found
    ∙ ap (λ (r : Reply). Ok (told_as r)) (sym c.only.ensures)

pub returns-then-is_pushed : goal.returns-then-is_pushed
returns-then-is_pushed c =
    pushed_not_polled c.args.ledger.now.books c.args.client.now c.args.stream.now c.args.ask.now c.in-Some.account.now.owing c.in-Some.ensures.found
    (sym c.is_pushed.ensures ∙ c.if-is_pushed.true)
    ∙ ap (λ (r : Reply). Ok (told_as r)) (sym c.only-then-is_pushed.ensures)

pub poll_account-requires : goal.poll_account-requires
poll_account-requires c =
    subst (λ (ps : List Publication). All (λ (d : Debt). IsPlaced (length ps) d.said) c.in-Some.account.now.owing.owed) (sym c.published.ensures)
    (found_placed c.args.ledger.now.books c.args.stream.now c.in-Some.account.now.owing
    (client_named c.args.ledger.now.books c.args.client.now c.args.stream.now c.in-Some.account.now.owing c.in-Some.ensures.found c.in-Some.ensures.kept) c.in-Some.ensures.kept)

pub returns-else-is_pushed : goal.returns-else-is_pushed
returns-else-is_pushed c =
    let b : Books = c.args.ledger.now.books in
    let o : Owing = c.in-Some.account.now.owing in
    told_if_ok _ (polled_reply c.store_id.result c.published.result.now c.args.stream.now c.args.ask.now o) c.poll_account.result
    (is_polled b c.args.client.now c.args.stream.now c.args.ask.now o c.in-Some.ensures.found
    (client_named b c.args.client.now c.args.stream.now o c.in-Some.ensures.found c.in-Some.ensures.kept) (sym c.is_pushed.ensures ∙ c.if-is_pushed.false)
    ∙ ap (λ (sid : List ℕ). Ok (told_as (polled_reply sid b.published c.args.stream.now c.args.ask.now o))) (sym c.store_id.ensures)
    ∙ ap (λ (ps : List Publication). Ok (told_as (polled_reply c.store_id.result ps c.args.stream.now c.args.ask.now o))) (sym c.published.ensures))
    c.poll_account.ensures
