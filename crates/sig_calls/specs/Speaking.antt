-- What an answer says of a stream, and that it is so after the call.
use Rattle.std.specs.Prelude.{◌≡◌, ℕ, List, false, Option, Some}
use Rattle.std.specs.Option.{option_to_list}
use Rattle.sig_event.specs.declared.status.Status.{Status}
use Rattle.sig_terms.specs.declared.answer.Answer.{Answer}
use Rattle.sig_terms.specs.declared.answer.Answer.TheVariants as answer
use Rattle.sig_terms.specs.declared.call.Call.{Call}
use Rattle.sig_terms.specs.declared.configuration.StreamConf.{StreamConf}
use Rattle.sig_terms.specs.declared.rules.Rules.{Rules}
use Rattle.sig_history.specs.Streams.{Stream}
use Rattle.sig_history.specs.Owed.{Sum, stream_named, sum_of}
use Rattle.sig_history.specs.Whole.{IsWhole}
use Rattle.sig_calls.specs.Proper.{IsProperCall, IsProperRules}
use Rattle.sig_calls.specs.Told.{Told}
use Rattle.sig_calls.specs.Table.{told_of}

-- a stream stands with this configuration
abbrev pub HasConf : Sum → StreamConf → Type 0
HasConf sum conf = (s : Stream) × (stream_named conf.stream sum.parts.streams ≡ Some s) × (s.conf ≡ conf)

-- the stream of a name stands with this status, set for this reason
abbrev pub HasState : Sum → List ℕ → Status → Option (List ℕ) → Type 0
HasState sum stream status reason =
    (s : Stream) × (stream_named stream sum.parts.streams ≡ Some s) × (s.status ≡ status) × (s.reason ≡ reason)

-- what an answer says of a stream is so: of its configuration (Shared Signals Framework 1.0, section 8.1.1), or of its status
-- (section 8.1.2)
abbrev pub IsTrueOf : Sum → Answer → Type 0
IsTrueOf sum answer.Meta = Unit {0}
IsTrueOf sum (answer.Made conf) = HasConf sum conf
IsTrueOf sum (answer.Conf conf) = HasConf sum conf
IsTrueOf sum (answer.Confs confs) = Unit {0}
IsTrueOf sum answer.Gone = Unit {0}
IsTrueOf sum (answer.State stream status reason token) = HasState sum stream status reason
IsTrueOf sum answer.Added = Unit {0}
IsTrueOf sum answer.Removed = Unit {0}
IsTrueOf sum (answer.Asked stream number) = Unit {0}
IsTrueOf sum (answer.Sets tokens more) = Unit {0}
IsTrueOf sum (answer.Published store_id tokens) = Unit {0}
IsTrueOf sum (answer.Standings next standings) = Unit {0}
IsTrueOf sum (answer.Refused next tokens) = Unit {0}
IsTrueOf sum (answer.Figures publications standings) = Unit {0}
IsTrueOf sum (answer.Delivering stream) = Unit {0}
IsTrueOf sum (answer.Handed tokens) = Unit {0}
IsTrueOf sum (answer.Settled count) = Unit {0}
IsTrueOf sum answer.NotFound = Unit {0}
IsTrueOf sum answer.TooMany = Unit {0}
IsTrueOf sum answer.Conflict = Unit {0}
IsTrueOf sum answer.Disabled = Unit {0}
IsTrueOf sum (answer.Early until) = Unit {0}
IsTrueOf sum (answer.Long size) = Unit {0}

-- unless a number would be too great, what is told is so of what the history comes to with the fact that is told
abbrev pub IsTrueTold : Sum → Told → Type 0
IsTrueTold sum t = t.over ≡ false → IsTrueOf (sum_of sum (option_to_list t.change)) t.answer

-- every proper call under proper rules is told what is so after it
abbrev pub AnswersAreTrue : Type 0
AnswersAreTrue = (rules : Rules) (sum : Sum) (call : Call) (now : ℕ) → IsProperRules rules → IsProperCall call → IsWhole sum
    → IsTrueTold sum (told_of rules sum call now)
