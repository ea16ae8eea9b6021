-- Where a call has a cause to be refused, it is.
use Rattle.std.specs.Prelude.{ℕ, None}
use Rattle.sig_terms.specs.declared.answer.Answer.TheVariants as answer
use Rattle.sig_terms.specs.declared.call.Call.{Call}
use Rattle.sig_terms.specs.declared.rules.Rules.{Rules}
use Rattle.sig_history.specs.Owed.{Sum}
use Rattle.sig_answer_laws.specs.Refused.{IsMissing, SaysConflict, SaysDisabled, SaysEarly, SaysLong, SaysTooMany}
use Rattle.sig_answer_laws.specs.Tokens.{Replies}

-- what the call names isn't there
abbrev pub NotFoundComes : Type 0
NotFoundComes = (rules : Rules) (sum : Sum) (call : Call) (now : ℕ) → IsMissing rules sum call → Replies rules sum call now answer.NotFound None

-- a known client has as many streams as it may have
abbrev pub TooManyComes : Type 0
TooManyComes = (rules : Rules) (sum : Sum) (call : Call) (now : ℕ) → SaysTooMany rules sum call None → Replies rules sum call now answer.TooMany None

-- other news were published under the name
abbrev pub ConflictComes : Type 0
ConflictComes = (rules : Rules) (sum : Sum) (call : Call) (now : ℕ) → SaysConflict sum call None → Replies rules sum call now answer.Conflict None

-- the stream of which a verification is asked is disabled
abbrev pub DisabledComes : Type 0
DisabledComes = (rules : Rules) (sum : Sum) (call : Call) (now : ℕ) → SaysDisabled sum call None → Replies rules sum call now answer.Disabled None

-- it isn't, and a verification was asked of it too short a time ago
abbrev pub EarlyComes : Type 0
EarlyComes = (rules : Rules) (sum : Sum) (call : Call) (now until : ℕ) → SaysEarly sum call now None until
    → Replies rules sum call now (answer.Early until) None

-- nothing else refuses the call, and one of its tokens would be too long
abbrev pub LongComes : Type 0
LongComes = (rules : Rules) (sum : Sum) (call : Call) (now size : ℕ) → SaysLong sum call now None size
    → Replies rules sum call now (answer.Long size) None
