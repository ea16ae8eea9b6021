-- What every call keeps to: its fact fits where the call is proper and is as the rules have it, it hands out what is owed, and
-- it acknowledges what it names.
use Rattle.std.specs.Prelude.{◌≡◌, ◌≤◌, ◌==◌, ◌&&◌, ℕ, List, [], Bool, true, false, Option, is_none, bytes_eq, All, Contains, IfSome}
use Rattle.std.specs.List.{list_any}
use Rattle.std.specs.Option.{option_to_list}
use Rattle.sig_json.specs.declared.limits.TheConstants.{LAST_NUMBER}
use Rattle.sig_terms.specs.declared.answer.Answer.{Answer}
use Rattle.sig_terms.specs.declared.answer.Answer.TheVariants as answer
use Rattle.sig_terms.specs.declared.call.Call.{Call}
use Rattle.sig_terms.specs.declared.call.Call.TheVariants.{Metadata, Create, ReadAll, Read, Patch, Put, Delete, GetStatus, SetStatus, Add, Remove, Verify, Poll, Publish, OperatorStatus, OperatorDelete, Streams, Refused, Figures, Deliver, Hand, Settle}
use Rattle.sig_terms.specs.declared.call.Outcome.{Outcome}
use Rattle.sig_terms.specs.declared.call.Outcome.TheVariants as outcome
use Rattle.sig_terms.specs.declared.fact.Fact.{Fact}
use Rattle.sig_terms.specs.declared.fact.Fact.TheVariants as fact
use Rattle.sig_terms.specs.declared.fact.SettledItem.{SettledItem}
use Rattle.sig_terms.specs.declared.rules.Rules.{Rules}
use Rattle.sig_terms.specs.declared.token.Token.{Token}
use Rattle.sig_history.specs.Streams.{Made, made_in}
use Rattle.sig_history.specs.Owed.{Sum, owed_by, sum_of}
pub use Rattle.sig_history.specs.Ours.{IsOurFact}
use Rattle.sig_history.specs.Sound.{Fits}
use Rattle.sig_history.specs.Whole.{IsWhole}
use Rattle.sig_calls.specs.Proper.{IsProperCall, IsProperRules}
use Rattle.sig_calls.specs.Told.{Told}
use Rattle.sig_calls.specs.Table.{told_of}

-- the tokens that an answer hands out
abbrev pub handed_by : Answer → List Token
handed_by answer.Meta = []
handed_by (answer.Made conf) = []
handed_by (answer.Conf conf) = []
handed_by (answer.Confs confs) = []
handed_by answer.Gone = []
handed_by (answer.State stream status reason token) = []
handed_by answer.Added = []
handed_by answer.Removed = []
handed_by (answer.Asked stream number) = []
handed_by (answer.Sets tokens more) = tokens
handed_by (answer.Published store_id tokens) = []
handed_by (answer.Standings next standings) = []
handed_by (answer.Refused next tokens) = []
handed_by (answer.Figures publications standings) = []
handed_by (answer.Delivering stream) = []
handed_by (answer.Handed tokens) = tokens
handed_by (answer.Settled count) = []
handed_by answer.NotFound = []
handed_by answer.TooMany = []
handed_by answer.Conflict = []
handed_by answer.Disabled = []
handed_by (answer.Early until) = []
handed_by (answer.Long size) = []

-- a fact counts a token as acknowledged: it settles its number on its stream without a code
abbrev pub acknowledges : Fact → Made → Bool
acknowledges (fact.Created conf time) t = false
acknowledges (fact.Configured stream requested delivery description) t = false
acknowledges (fact.StatusSet stream status reason operator time) t = false
acknowledges (fact.Listed stream subject) t = false
acknowledges (fact.Unlisted stream subject) t = false
acknowledges (fact.Deleted stream) t = false
acknowledges (fact.Published id news time) t = false
acknowledges (fact.Settled stream items) t =
    bytes_eq stream t.stream && list_any (λ (i : SettledItem). (i.number == t.number) && is_none i.code) items
acknowledges (fact.Asked stream state time) t = false

abbrev pub is_accepted : Outcome → Bool
is_accepted outcome.Accepted = true
is_accepted (outcome.Reported code) = false
is_accepted outcome.Keep = false

-- a call says that a token was taken
abbrev pub acks : Call → Made → Bool
acks Metadata t = false
acks (Create client want) t = false
acks (ReadAll client) t = false
acks (Read client stream) t = false
acks (Patch client stream want) t = false
acks (Put client stream want) t = false
acks (Delete client stream) t = false
acks (GetStatus client stream) t = false
acks (SetStatus client stream status reason) t = false
acks (Add client stream subject) t = false
acks (Remove client stream subject) t = false
acks (Verify client stream state) t = false
acks (Poll client stream ask) t = bytes_eq stream t.stream && list_any (bytes_eq t.claims.jti) ask.acks
acks (Publish id news) t = false
acks (OperatorStatus stream status reason) t = false
acks (OperatorDelete stream) t = false
acks (Streams from) t = false
acks (Refused from) t = false
acks Figures t = false
acks (Deliver stream) t = false
acks (Hand streams) t = false
acks (Settle stream number outcome) t = bytes_eq stream t.stream && (number == t.number) && is_accepted outcome

-- a token is handed out that a stream owes after the call
abbrev pub IsOwedAfter : Sum → Option Fact → Token → Type 0
IsOwedAfter sum change m = Contains (owed_by (sum_of sum (option_to_list change)) m.stream) (made_in m)

pub record IsRegular (rules : Rules) (sum : Sum) (call : Call) (now : ℕ) (t : Told) : Type 0 where
  pub fits : IsProperCall call → t.over ≡ false → IfSome t.change (Fits sum)
  pub ours : IsProperCall call → now ≤ LAST_NUMBER → IfSome t.change (IsOurFact rules.issuer)
  pub hands : All (IsOwedAfter sum t.change) (handed_by t.answer)
  pub acked : IfSome t.change (λ f. (m : Made) → Contains (owed_by sum m.stream) m → acknowledges f m ≡ true → acks call m ≡ true)

-- every call under proper rules does
abbrev pub CallsAreRegular : Type 0
CallsAreRegular = (rules : Rules) (sum : Sum) (call : Call) (now : ℕ)
    → IsProperRules rules → IsWhole sum → IsRegular rules sum call now (told_of rules sum call now)
