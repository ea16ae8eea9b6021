use Rattle.std.proofs.Common.{◌∙◌, ap, sym, ℕ, ◌&&◌, List}
use Rattle.sig_history.specs.Owed.{owed_by}
use Rattle.sig_history.specs.Sound.{are_owed, each_once}
use Rattle.sig_accounts.specs.Owings.{owing_named}
use Rattle.sig_ledger.specs.Books.{sum_in}
use Rattle.sig_ledger.proofs.FoundLemmas.{missing_stands, settled_apt}
use Rattle.sig_ledger.proofs.ledger.Ledger.may_settle.Goals as goal

pub returns-in-None : goal.returns-in-None
returns-in-None c =
    sym (ap (λ x. x && are_owed c.args.items.now (owed_by (sum_in c.args.self.now.books) c.args.stream.now) && each_once c.args.items.now)
    (missing_stands c.args.self.now.books c.args.stream.now
    (sym (c.in-None.ensures.found ∙ ap (λ (n : List ℕ). owing_named n c.args.self.now.books.owings) c.as_str.ensures.same))))

pub returns-then-owed : goal.returns-then-owed
returns-then-owed c =
    sym (ap (λ b. b && c.in_ok-once-in-Some.once) c.if-owed.true)
    ∙ settled_apt c.args.self.now.books c.args.stream.now c.args.items.now c.in-Some.account.now.owing c.owes_each-owed.result c.in_ok-once-in-Some.once
    (sym (c.in-Some.ensures.found ∙ ap (λ (n : List ℕ). owing_named n c.args.self.now.books.owings) c.as_str.ensures.same))
    c.owes_each-owed.ensures c.in_ok-once-in-Some.ensures

pub returns-else-owed : goal.returns-else-owed
returns-else-owed c =
    c.if-owed.false ∙ sym (ap (λ b. b && c.in_ok-once-in-Some.once) c.if-owed.false)
    ∙ settled_apt c.args.self.now.books c.args.stream.now c.args.items.now c.in-Some.account.now.owing c.owes_each-owed.result c.in_ok-once-in-Some.once
    (sym (c.in-Some.ensures.found ∙ ap (λ (n : List ℕ). owing_named n c.args.self.now.books.owings) c.as_str.ensures.same))
    c.owes_each-owed.ensures c.in_ok-once-in-Some.ensures
