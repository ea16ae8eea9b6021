-- What holds of the table, whatever the call is.
use Rattle.std.specs.Prelude.{◌≡◌, ◌↔◌, ◌+◌, ◌||◌, ℕ, Bool, true, false, Option, Some, None, Err, nat_lt}
use Rattle.std.specs.List.{list_any}
use Rattle.sig_json.specs.declared.limits.TheConstants.{LAST_NUMBER}
use Rattle.sig_terms.specs.declared.call.Call.{Call}
use Rattle.sig_terms.specs.declared.fact.Fact.{Fact}
use Rattle.sig_terms.specs.declared.fault.PrepareFault.TheVariants.{Number}
use Rattle.sig_terms.specs.declared.rules.Rules.{Rules}
use Rattle.sig_history.specs.Streams.{Parts, Stream}
use Rattle.sig_history.specs.Facts.{brought_by, made_by}
use Rattle.sig_history.specs.Owed.{Sum}
use Rattle.sig_history.specs.Sound.{is_past}
use Rattle.sig_calls.specs.Proper.{IsProperRules}
use Rattle.sig_calls.specs.Table.{change_of, prepared_of}

-- a stream that would get too great a number
abbrev pub is_past_stream : Option Stream → Bool
is_past_stream None = false
is_past_stream (Some s) = nat_lt LAST_NUMBER s.number

-- whether a fact would give a stream or a token too great a number
abbrev pub goes_past : Parts → Option Fact → Bool
goes_past parts None = false
goes_past parts (Some f) = is_past_stream (brought_by parts f) || list_any is_past (made_by parts f)

-- a call is refused for its numbers exactly where its fact would give a stream or a token one above LAST_NUMBER
abbrev pub NumberComesExactly : Type 0
NumberComesExactly = (rules : Rules) (sum : Sum) (call : Call) (now : ℕ) → IsProperRules rules
    → (prepared_of rules sum call now ≡ Err (Number (LAST_NUMBER + 1))) ↔ (goes_past sum.parts (change_of rules sum call now) ≡ true)
