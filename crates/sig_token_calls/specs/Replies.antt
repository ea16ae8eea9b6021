-- How a call is answered, read off a stream as the ledger holds it.
use Rattle.std.specs.Prelude.{ℕ, ◌==◌, List, [], Option, None, Some, map, nat_lt, if◌then◌else◌}
use Rattle.std.specs.List.{list_any, filter_map}
use Rattle.std.specs.Option.{option_to_list}
use Rattle.sig_event.specs.News.{is_same_news}
use Rattle.sig_event.specs.declared.news.News.{News}
use Rattle.sig_terms.specs.Reply as terms
use Rattle.sig_terms.specs.declared.answer.Answer.{Answer}
use Rattle.sig_terms.specs.declared.answer.Answer.TheVariants as answer
use Rattle.sig_terms.specs.declared.call.Outcome.{Outcome}
use Rattle.sig_terms.specs.declared.call.PollAsk.{PollAsk}
use Rattle.sig_terms.specs.declared.fact.SettledItem.{SettledItem}
use Rattle.sig_history.specs.Streams.{Publication, Stream, is_disabled, jti_of}
use Rattle.sig_calls.specs.Polling.{page_of, page_size, settled_by}
use Rattle.sig_calls.specs.Settling.{outcome_item, settled_fact}
use Rattle.sig_calls.specs.Verifying.{next_time}
use Rattle.sig_accounts.specs.Owings.{Owing, made_of}
use Rattle.sig_accounts.specs.declared.debt.Debt.{Debt}
use Rattle.sig_token_calls.specs.declared.reply.Reply.{Reply}
use Rattle.sig_token_calls.specs.Offering.{open_debts}

-- a reply as the table has it
abbrev pub told_as : Reply → terms.Reply
told_as r = record { answer = r.answer; change = r.change }

-- what the answer to a token settles, by the stream that is found
abbrev pub items_for : Option Owing → ℕ → Outcome → List SettledItem
items_for None number outcome = []
items_for (Some o) number outcome =
    if list_any (λ (d : Debt). d.number == number) o.owed then option_to_list (outcome_item number outcome) else []

-- what a poll settles of what a stream owes
abbrev pub settled_debts : PollAsk → List ℕ → List ℕ → List Debt → List SettledItem
settled_debts ask store_id stream owed = filter_map (λ (d : Debt). settled_by ask d.number (jti_of store_id stream d.number)) owed

-- how a poll of a stream is answered, by what the stream owes
abbrev pub polled_reply : List ℕ → List Publication → List ℕ → PollAsk → Owing → Reply
polled_reply store_id published stream ask o = record {
  answer = page_of o.stream.conf.delivery (page_size ask)
      (map (made_of store_id published o.stream) (open_debts published o.stream (settled_debts ask store_id o.stream.conf.stream o.owed) o.owed));
  change = settled_fact stream (settled_debts ask store_id o.stream.conf.stream o.owed);
}

-- where the name of a publication was used before: the first answer again, where it says the same
abbrev pub later_answer : List ℕ → Publication → News → Answer
later_answer store_id p n = if is_same_news p.news n then answer.Published store_id p.issued else answer.Conflict

-- why no verification is made of a stream now: the last one was too short a time ago, or the stream is disabled
abbrev pub early_answer : ℕ → ℕ → Option ℕ → Option Answer
early_answer now interval None = None
early_answer now interval (Some asked) =
    if nat_lt now (next_time asked interval) then Some (answer.Early (next_time asked interval)) else None

abbrev pub refusal : ℕ → Stream → Option Answer
refusal now s = if is_disabled s.status then Some answer.Disabled else early_answer now s.conf.interval s.asked
