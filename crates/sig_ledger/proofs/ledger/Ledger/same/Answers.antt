use Rattle.std.proofs.Common.{sym}
use Rattle.sig_ledger.specs.Books.{Books}
use Rattle.sig_ledger.proofs.SameBooks.{as_held, same_sum, sum_same}
use Rattle.sig_ledger.proofs.ledger.Ledger.same.Goals as goal

pub returns-then-has_same_records : goal.returns-then-has_same_records
returns-then-has_same_records c =
    let a : Books = c.args.self.now.books in
    let b : Books = c.args.other.now.books in
    let parts = c.has_same_records.ensures.0 c.if-has_same_records.true in (
      λ is. same_sum a b (record {
        store_id = parts.0;
        created = parts.1;
        published = parts.2;
        refused = parts.3;
        tellings = as_held _ _ _ _ _ _ c.published-everything.ensures c.accounts-some.ensures.accounts c.accounts-others.ensures.accounts
            (c.same_accounts.ensures.0 is);
      }),
      λ same. c.same_accounts.ensures.1 (as_held _ _ _ _ _ _ (sym c.published-everything.ensures) (sym c.accounts-some.ensures.accounts)
          (sym c.accounts-others.ensures.accounts) (sum_same a b same).tellings),
    )
