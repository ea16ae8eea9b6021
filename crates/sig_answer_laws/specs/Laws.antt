-- Each answer of the transmitter tells the truth.
use Rattle.std.specs.Prelude.{ℕ, List, Bool, Option}
use Rattle.sig_event.specs.declared.status.Status.{Status}
use Rattle.sig_terms.specs.declared.answer.Answer.{Answer}
use Rattle.sig_terms.specs.declared.answer.Answer.TheVariants as answer
use Rattle.sig_terms.specs.declared.call.Call.{Call}
use Rattle.sig_terms.specs.declared.configuration.StreamConf.{StreamConf}
use Rattle.sig_terms.specs.declared.fact.Fact.{Fact}
use Rattle.sig_terms.specs.declared.refused_token.RefusedToken.{RefusedToken}
use Rattle.sig_terms.specs.declared.rules.Rules.{Rules}
use Rattle.sig_terms.specs.declared.standing.Standing.{Standing}
use Rattle.sig_terms.specs.declared.token.Issued.{Issued}
use Rattle.sig_terms.specs.declared.token.Token.{Token}
use Rattle.sig_history.specs.Owed.{Sum}
use Rattle.sig_history.specs.Whole.{IsWhole}
use Rattle.sig_calls.specs.Proper.{IsProperCall, IsProperRules}
use Rattle.sig_answer_laws.specs.Given.{SaysAdded, SaysAsked, SaysConf, SaysConfs, SaysDelivering, SaysFigures, SaysGone, SaysHanded, SaysMade, SaysMeta, SaysPublished, SaysRefused, SaysRemoved, SaysSets, SaysSettled, SaysStandings, SaysState}
use Rattle.sig_answer_laws.specs.Refused.{SaysConflict, SaysDisabled, SaysEarly, SaysLong, SaysNotFound, SaysTooMany}
use Rattle.sig_answer_laws.specs.Tokens.{Replies}

-- what an answer says of what stood before the call, and of what stands after its fact, if any
abbrev pub Says : Rules → Sum → Call → ℕ → Option Fact → Answer → Type 0
Says rules sum call now change answer.Meta = SaysMeta call change
Says rules sum call now change (answer.Made conf) = SaysMade rules sum call change conf
Says rules sum call now change (answer.Conf conf) = SaysConf sum call change conf
Says rules sum call now change (answer.Confs confs) = SaysConfs sum call change confs
Says rules sum call now change answer.Gone = SaysGone sum call change
Says rules sum call now change (answer.State stream status reason token) = SaysState sum change stream status reason token
Says rules sum call now change answer.Added = SaysAdded sum call change
Says rules sum call now change answer.Removed = SaysRemoved sum call change
Says rules sum call now change (answer.Asked stream number) = SaysAsked sum call change stream number
Says rules sum call now change (answer.Sets tokens more) = SaysSets sum call change tokens more
Says rules sum call now change (answer.Published store_id tokens) = SaysPublished sum call change store_id tokens
Says rules sum call now change (answer.Standings next standings) = SaysStandings sum call change next standings
Says rules sum call now change (answer.Refused next tokens) = SaysRefused sum call change next tokens
Says rules sum call now change (answer.Figures publications standings) = SaysFigures sum call change publications standings
Says rules sum call now change (answer.Delivering stream) = SaysDelivering sum call change stream
Says rules sum call now change (answer.Handed tokens) = SaysHanded sum call change tokens
Says rules sum call now change (answer.Settled count) = SaysSettled sum call change count
Says rules sum call now change answer.NotFound = SaysNotFound rules sum call change
Says rules sum call now change answer.TooMany = SaysTooMany rules sum call change
Says rules sum call now change answer.Conflict = SaysConflict sum call change
Says rules sum call now change answer.Disabled = SaysDisabled sum call change
Says rules sum call now change (answer.Early until) = SaysEarly sum call now change until
Says rules sum call now change (answer.Long size) = SaysLong sum call now change size

-- where a proper call under proper rules, over what is whole, has this answer, it is so
abbrev pub IsTrueAnswer : Answer → Type 0
IsTrueAnswer given = (rules : Rules) (sum : Sum) (call : Call) (now : ℕ) (change : Option Fact)
    → IsProperRules rules → IsProperCall call → IsWhole sum → Replies rules sum call now given change → Says rules sum call now change given

abbrev pub MetaIsTrue : Type 0
MetaIsTrue = IsTrueAnswer answer.Meta

abbrev pub MadeIsTrue : Type 0
MadeIsTrue = (conf : StreamConf) → IsTrueAnswer (answer.Made conf)

abbrev pub ConfIsTrue : Type 0
ConfIsTrue = (conf : StreamConf) → IsTrueAnswer (answer.Conf conf)

abbrev pub ConfsIsTrue : Type 0
ConfsIsTrue = (confs : List StreamConf) → IsTrueAnswer (answer.Confs confs)

abbrev pub GoneIsTrue : Type 0
GoneIsTrue = IsTrueAnswer answer.Gone

abbrev pub StateIsTrue : Type 0
StateIsTrue = (stream : List ℕ) (status : Status) (reason : Option (List ℕ)) (token : Option ℕ) → IsTrueAnswer (answer.State stream status reason token)

abbrev pub AddedIsTrue : Type 0
AddedIsTrue = IsTrueAnswer answer.Added

abbrev pub RemovedIsTrue : Type 0
RemovedIsTrue = IsTrueAnswer answer.Removed

abbrev pub AskedIsTrue : Type 0
AskedIsTrue = (stream : List ℕ) (number : ℕ) → IsTrueAnswer (answer.Asked stream number)

abbrev pub SetsIsTrue : Type 0
SetsIsTrue = (tokens : List Token) (more : Bool) → IsTrueAnswer (answer.Sets tokens more)

abbrev pub PublishedIsTrue : Type 0
PublishedIsTrue = (store_id : List ℕ) (tokens : List Issued) → IsTrueAnswer (answer.Published store_id tokens)

abbrev pub StandingsAreTrue : Type 0
StandingsAreTrue = (next : ℕ) (standings : List Standing) → IsTrueAnswer (answer.Standings next standings)

abbrev pub RefusedAreTrue : Type 0
RefusedAreTrue = (next : ℕ) (tokens : List RefusedToken) → IsTrueAnswer (answer.Refused next tokens)

abbrev pub FiguresAreTrue : Type 0
FiguresAreTrue = (publications : ℕ) (standings : List Standing) → IsTrueAnswer (answer.Figures publications standings)

abbrev pub DeliveringIsTrue : Type 0
DeliveringIsTrue = (stream : List ℕ) → IsTrueAnswer (answer.Delivering stream)

abbrev pub HandedIsTrue : Type 0
HandedIsTrue = (tokens : List Token) → IsTrueAnswer (answer.Handed tokens)

abbrev pub SettledIsTrue : Type 0
SettledIsTrue = (count : ℕ) → IsTrueAnswer (answer.Settled count)

abbrev pub NotFoundIsTrue : Type 0
NotFoundIsTrue = IsTrueAnswer answer.NotFound

abbrev pub TooManyIsTrue : Type 0
TooManyIsTrue = IsTrueAnswer answer.TooMany

abbrev pub ConflictIsTrue : Type 0
ConflictIsTrue = IsTrueAnswer answer.Conflict

abbrev pub DisabledIsTrue : Type 0
DisabledIsTrue = IsTrueAnswer answer.Disabled

abbrev pub EarlyIsTrue : Type 0
EarlyIsTrue = (until : ℕ) → IsTrueAnswer (answer.Early until)

abbrev pub LongIsTrue : Type 0
LongIsTrue = (size : ℕ) → IsTrueAnswer (answer.Long size)
