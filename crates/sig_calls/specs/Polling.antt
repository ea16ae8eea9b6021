-- How a poll is answered, and what it settles (RFC 8936, section 2.4).
use Rattle.std.specs.Prelude.{ℕ, List, [], ◌∷◌, Option, Some, None, bytes_eq, length, map, min, take, nat_lt, unwrap_or, if◌then◌else◌}
use Rattle.std.specs.List.{list_any, filter_map}
use Rattle.std.specs.Option.{option_to_list}
use Rattle.sig_json.specs.declared.limits.TheConstants.{TOKENS_PER_PAGE}
use Rattle.sig_terms.specs.declared.call.PollAsk.{PollAsk}
use Rattle.sig_terms.specs.declared.call.Reported.{Reported}
use Rattle.sig_terms.specs.declared.answer.Answer.{Answer}
use Rattle.sig_terms.specs.declared.answer.Answer.TheVariants as answer
use Rattle.sig_terms.specs.declared.fact.Fact.{Fact}
use Rattle.sig_terms.specs.declared.fact.SettledItem.{SettledItem}
use Rattle.sig_terms.specs.declared.want.Delivery.{Delivery}
use Rattle.sig_terms.specs.Deliveries.{is_push}
use Rattle.sig_history.specs.Streams.{Stream, Made, token_of}
use Rattle.sig_history.specs.Owed.{Sum, owed_by, offered_by, sum_of}
use Rattle.sig_calls.specs.Found.{client_stream, told_by}
use Rattle.sig_calls.specs.Told.{Told, only, with_change}
use Rattle.sig_calls.specs.Settling.{keeps, settled_fact}

-- the code of the first refusal of a token
abbrev pub refused_as : List ℕ → List Reported → Option (List ℕ)
refused_as jti [] = None
refused_as jti (r ∷ rs) = if bytes_eq r.jti jti then Some r.code else refused_as jti rs

-- the item of a token that was refused, unless the code settles nothing
abbrev pub refused_item : ℕ → Option (List ℕ) → Option SettledItem
refused_item number None = None
refused_item number (Some code) = if keeps code then None else Some (record { number = number; code = Some code })

-- what a poll settles of a token that its stream owes, by its number and identifier: an acknowledgement counts before any
-- refusal, and of several refusals the first
abbrev pub settled_by : PollAsk → ℕ → List ℕ → Option SettledItem
settled_by ask number jti =
    if list_any (bytes_eq jti) ask.acks then Some (record { number = number; code = None })
    else refused_item number (refused_as jti ask.errors)

abbrev pub settled_item : PollAsk → Made → Option SettledItem
settled_item ask t = settled_by ask t.number t.claims.jti

-- what a poll settles, in order of number
abbrev pub settled_items : PollAsk → List Made → List SettledItem
settled_items ask owed = filter_map (settled_item ask) owed

-- how many tokens a page has at most
abbrev pub page_size : PollAsk → ℕ
page_size ask = min (unwrap_or ask.max TOKENS_PER_PAGE) TOKENS_PER_PAGE

-- the first tokens that are offered, and whether there are further ones
abbrev pub page_of : Delivery → ℕ → List Made → Answer
page_of delivery size offered = answer.Sets (map (token_of delivery) (take size offered)) (nat_lt size (length offered))

-- the fact of a poll of a stream
abbrev pub polled_change : Sum → List ℕ → PollAsk → Option Fact
polled_change sum stream ask = settled_fact stream (settled_items ask (owed_by sum stream))

-- what a poll of a stream is answered: what the stream offers once it has settled
abbrev pub polled_answer : Sum → List ℕ → PollAsk → Stream → Answer
polled_answer sum stream ask s =
    page_of s.conf.delivery (page_size ask) (offered_by (sum_of sum (option_to_list (polled_change sum stream ask))) stream)

-- tokens of a push stream aren't polled
abbrev pub polled : Sum → List ℕ → PollAsk → Stream → Told
polled sum stream ask s =
    if is_push s.conf.delivery then only answer.NotFound
    else with_change (polled_answer sum stream ask s) (polled_change sum stream ask)

-- what a client that polls is told
abbrev pub polling : Sum → List ℕ → List ℕ → PollAsk → Told
polling sum client stream ask = told_by (polled sum stream ask) (client_stream client stream sum.parts.streams)
