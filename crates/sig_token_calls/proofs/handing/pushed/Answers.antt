use Rattle.std.proofs.Common.{◌≡◌, ◌∙◌, ap, sym, subst, ℕ, List, [], map, take, length, All}
use Rattle.sig_history.specs.Streams.{Publication, Stream, token_of, Made}
use Rattle.sig_calls.specs.Handing.{pushed_by}
use Rattle.sig_accounts.specs.declared.debt.Debt.{Debt}
use Rattle.sig_accounts.specs.Owings.{IsPlaced, Owing, made_of, owing_named}
use Rattle.sig_ledger.specs.Books.{Books, sum_in}
use Rattle.sig_token_calls.specs.Offering.{open_debts}
use Rattle.sig_token_calls.specs.declared.offering.Page.{Page}
use Rattle.sig_token_calls.proofs.FoundLemmas.{found_placed}
use Rattle.sig_token_calls.proofs.HandingLemmas.{are_pushed, map_taken, none_pushed, polled_pushed, take_none}
use Rattle.sig_token_calls.proofs.handing.pushed.Goals as goal

pub returns-in-None : goal.returns-in-None
returns-in-None c =
    let none : pushed_by (sum_in c.args.ledger.now.books) c.args.name.now ≡ [] =
    none_pushed c.args.ledger.now.books c.args.name.now
    (c.in-None.ensures.found ∙ ap (λ (n : List ℕ). owing_named n c.args.ledger.now.books.owings) c.as_str.ensures.same) in
    c.of.ensures ∙ c.new.ensures.items ∙ sym none ∙ take_none c.args.size _ none

pub returns-then-not-is_pushed : goal.returns-then-not-is_pushed
returns-then-not-is_pushed c =
    let none : pushed_by (sum_in c.args.ledger.now.books) c.args.name.now ≡ [] =
    polled_pushed c.args.ledger.now.books c.args.name.now c.in-Some.account.now.owing
    (c.in-Some.ensures.found ∙ ap (λ (n : List ℕ). owing_named n c.args.ledger.now.books.owings) c.as_str.ensures.same)
    (sym c.is_pushed.ensures ∙ c.if-not-is_pushed.true) in
    c.of-then-not-is_pushed.ensures ∙ c.new-then-not-is_pushed.ensures.items ∙ sym none ∙ take_none c.args.size _ none

pub first_offered-requires : goal.first_offered-requires
first_offered-requires c =
    subst (λ (ps : List Publication). All (λ (d : Debt). IsPlaced (length ps) d.said) c.in-Some.account.now.owing.owed) (sym c.published.ensures)
    (found_placed c.args.ledger.now.books c.args.name.now c.in-Some.account.now.owing
    (c.in-Some.ensures.found ∙ ap (λ (n : List ℕ). owing_named n c.args.ledger.now.books.owings) c.as_str.ensures.same) c.in-Some.ensures.kept)

pub returns-in_ok-page-in-Some : goal.returns-in_ok-page-in-Some
returns-in_ok-page-in-Some c =
    let b : Books = c.args.ledger.now.books in
    let o : Owing = c.in-Some.account.now.owing in
    let s : Stream = o.stream in
    let offered : List ℕ → List Publication → List Made = λ sid ps. map (made_of sid ps s) (open_debts ps s [] o.owed) in
    ap (λ (p : Page). p.tokens) c.in_ok-page-in-Some.ensures
    ∙ map_taken (token_of s.conf.delivery) c.args.size (offered c.store_id.result c.published.result.now)
    ∙ ap (λ (sid : List ℕ). take c.args.size (map (token_of s.conf.delivery) (offered sid c.published.result.now))) c.store_id.ensures
    ∙ ap (λ (ps : List Publication). take c.args.size (map (token_of s.conf.delivery) (offered b.store_id ps))) c.published.ensures
    ∙ ap (take c.args.size) (sym (are_pushed b c.args.name.now o
    (c.in-Some.ensures.found ∙ ap (λ (n : List ℕ). owing_named n b.owings) c.as_str.ensures.same) (sym c.is_pushed.ensures ∙ c.if-not-is_pushed.false)))
