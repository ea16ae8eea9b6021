-- What a call is told: its answer and the fact that it makes, unless a number would be too great.
use Rattle.std.specs.Prelude.{◌+◌, List, Bool, false, Option, None, Some, Result, Ok, Err, if◌then◌else◌}
use Rattle.std.specs.List.{list_any}
use Rattle.sig_json.specs.declared.limits.TheConstants.{LAST_NUMBER}
use Rattle.sig_terms.specs.declared.answer.Answer.{Answer}
use Rattle.sig_terms.specs.declared.answer.Answer.TheVariants as answer
use Rattle.sig_terms.specs.declared.fact.Fact.{Fact}
use Rattle.sig_terms.specs.declared.fault.PrepareFault.{PrepareFault}
use Rattle.sig_terms.specs.Reply.{Reply}
use Rattle.sig_terms.specs.declared.fault.PrepareFault.TheVariants.{Number}
use Rattle.sig_history.specs.Streams.{Made, Parts}
use Rattle.sig_history.specs.Facts.{made_by}
use Rattle.sig_history.specs.Sound.{is_long, is_past, largest}

-- the answer, the fact where the call makes one, and whether a stream or a token would get a number above LAST_NUMBER, which
-- is asked after every refusal of the call
pub record Told : Type 0 where
  pub answer : Answer
  pub change : Option Fact
  pub over : Bool

-- an answer that changes nothing
abbrev pub only : Answer → Told
only given = record { answer = given; change = None; over = false }

-- an answer with a fact, if any, that makes no token
abbrev pub with_change : Answer → Option Fact → Told
with_change given change = record { answer = given; change = change; over = false }

-- an answer with a fact that makes these tokens: none of them may be too long
abbrev pub making_tokens : List Made → Answer → Fact → Told
making_tokens tokens given f =
    if is_long tokens then only (answer.Long (largest tokens))
    else record { answer = given; change = Some f; over = list_any is_past tokens }

-- an answer with a fact that makes tokens, over the parts before it
abbrev pub making : Parts → Answer → Fact → Told
making parts given f = making_tokens (made_by parts f) given f

-- the answer and the fact, unless a number would be too great
abbrev pub outcome : Told → Result Reply PrepareFault
outcome t = if t.over then Err (Number (LAST_NUMBER + 1)) else Ok (record { answer = t.answer; change = t.change })
