use Rattle.std.proofs.Common.{◌≡◌, [], map, drop}
use Rattle.sig_accounts.specs.Owings.{made_of}
use Rattle.sig_token_calls.specs.Offering.{open_debts}
use Rattle.sig_token_calls.proofs.PageLemmas.{page_step}
use Rattle.sig_token_calls.proofs.offering.first_offered.Given as goal

abbrev pub invariant-loop-debt : goal.invariant-loop-debt
invariant-loop-debt l =
    page_step l.account.owing.stream.conf.delivery l.size []
    (map (made_of l.store_id l.published l.account.owing.stream) (open_debts l.published l.account.owing.stream l.items l.owed))
    ≡ page_step l.account.owing.stream.conf.delivery l.room l.tokens.items
    (map (made_of l.store_id l.published l.account.owing.stream) (open_debts l.published l.account.owing.stream l.items (drop l.debt-index l.owed)))
