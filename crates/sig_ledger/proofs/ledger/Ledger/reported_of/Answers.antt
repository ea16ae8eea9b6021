use Rattle.std.proofs.Common.{◌∙◌, ap, sym, subst, ℕ, List}
use Rattle.sig_terms.specs.declared.fact.Fact.TheVariants.{Settled}
use Rattle.sig_accounts.specs.declared.kept_refusal.KeptRefusal.{KeptRefusal}
use Rattle.sig_accounts.specs.Owings.{owing_named}
use Rattle.sig_accounts.specs.Reported.{reported_in}
use Rattle.sig_ledger.specs.Books.{sum_in}
use Rattle.sig_ledger.specs.Room.{AreReported}
use Rattle.sig_ledger.proofs.ReportedBooks.{ok_as, reported_none, reported_some}
use Rattle.sig_ledger.proofs.ledger.Ledger.reported_of.Goals as goal

pub returns-in-None : goal.returns-in-None
returns-in-None c =
    subst (AreReported (sum_in c.args.self.now.books) (Settled c.args.stream.now c.args.items.now)) (sym c.new.ensures.items)
    (reported_none c.args.self.now.books c.args.stream.now c.args.items.now
    (sym (c.in-None.ensures.found ∙ ap (λ (n : List ℕ). owing_named n c.args.self.now.books.owings) c.as_str.ensures.same)))

pub returns-in-Some : goal.returns-in-Some
returns-in-Some c =
    ok_as (λ queue. queue.items) (AreReported (sum_in c.args.self.now.books) (Settled c.args.stream.now c.args.items.now))
    (reported_in c.in-Some.account.now.owing.stream.conf.stream c.in-Some.account.now.owing.owed c.args.items.now)
    (reported_some c.args.self.now.books c.args.stream.now c.args.items.now c.in-Some.account.now.owing c.in-Some.ensures.kept
    (sym (c.in-Some.ensures.found ∙ ap (λ (n : List ℕ). owing_named n c.args.self.now.books.owings) c.as_str.ensures.same)))
    c.reported.result c.reported.ensures
