-- Which of its debts a stream offers, read off a stream as the ledger holds it.
use Rattle.std.specs.Prelude.{ℕ, List, Bool, ◌&&◌, ◌||◌, not, filter, length, map, nat_lt, take}
use Rattle.sig_terms.specs.declared.fact.SettledItem.{SettledItem}
use Rattle.sig_terms.specs.declared.want.Delivery.{Delivery}
use Rattle.sig_history.specs.Streams.{Stream, Publication, Made, is_enabled, is_update, token_of}
use Rattle.sig_history.specs.Owed.{names_number}
use Rattle.sig_accounts.specs.Owings.{news_of}
use Rattle.sig_accounts.specs.declared.debt.Debt.{Debt}
use Rattle.sig_token_calls.specs.declared.offering.Page.{Page}

-- what it says is that the stream's status changed
abbrev pub is_notice : List Publication → List ℕ → Debt → Bool
is_notice published stream d = is_update (news_of published stream d.said).event

abbrev pub offers : List Publication → Stream → Debt → Bool
offers published s d = is_enabled s.status || is_notice published s.conf.stream d

-- the debts that are offered, but for those that items name
abbrev pub open_debts : List Publication → Stream → List SettledItem → List Debt → List Debt
open_debts published s items owed = filter (λ (d : Debt). not (names_number d.number items) && offers published s d) owed

-- the first of these tokens, and whether there are further ones
abbrev pub page_on : Delivery → ℕ → List Made → Page
page_on delivery size offered = record { tokens = map (token_of delivery) (take size offered); more = nat_lt size (length offered) }
