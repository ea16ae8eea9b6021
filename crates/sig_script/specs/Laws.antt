-- What holds of every line that is read.
use Rattle.std.specs.Prelude.{◌≡◌, ◌≤◌, ℕ, List, [], IfSome}
use Rattle.sig_json.specs.declared.limits.TheConstants.{LAST_NUMBER}
use Rattle.sig_terms.specs.declared.call.Call.{Call as Made}
use Rattle.sig_terms.specs.declared.call.Call.TheVariants as call
use Rattle.sig_calls.specs.Proper.{IsProperCall}
use Rattle.sig_script.specs.Script.{script_line_of}
use Rattle.sig_script.specs.declared.script.ScriptAct.{ScriptAct}
use Rattle.sig_script.specs.declared.script.ScriptAct.TheVariants.{Call, Deliver, Answer}
use Rattle.sig_script.specs.declared.script.ScriptLine.{ScriptLine}
use Rattle.sig_script.specs.declared.script.ScriptLine.TheVariants.{Skipped, Time, Act, Check, Stop, Crash}

-- the call tells the transmitter no answer: it settles nothing, and a poll neither acknowledges nor reports
abbrev pub TellsNothing : Made → Type 0
TellsNothing call.Metadata = Unit {0}
TellsNothing (call.Create client want) = Unit {0}
TellsNothing (call.ReadAll client) = Unit {0}
TellsNothing (call.Read client stream) = Unit {0}
TellsNothing (call.Patch client stream want) = Unit {0}
TellsNothing (call.Put client stream want) = Unit {0}
TellsNothing (call.Delete client stream) = Unit {0}
TellsNothing (call.GetStatus client stream) = Unit {0}
TellsNothing (call.SetStatus client stream status reason) = Unit {0}
TellsNothing (call.Add client stream subject) = Unit {0}
TellsNothing (call.Remove client stream subject) = Unit {0}
TellsNothing (call.Verify client stream state) = Unit {0}
TellsNothing (call.Poll client stream ask) = (ask.acks ≡ []) × (ask.errors ≡ [])
TellsNothing (call.Publish id news) = Unit {0}
TellsNothing (call.OperatorStatus stream status reason) = Unit {0}
TellsNothing (call.OperatorDelete stream) = Unit {0}
TellsNothing (call.Streams from) = Unit {0}
TellsNothing (call.Refused from) = Unit {0}
TellsNothing call.Figures = Unit {0}
TellsNothing (call.Deliver stream) = Unit {0}
TellsNothing (call.Hand streams) = Unit {0}
TellsNothing (call.Settle stream number outcome) = ⊥

-- an act whose call is proper and tells no answer
abbrev pub IsProperScriptAct : ScriptAct → Type 0
IsProperScriptAct (Call made) = IsProperCall made × TellsNothing made
IsProperScriptAct (Deliver message) = Unit {0}
IsProperScriptAct (Answer reply) = Unit {0}

-- a line with such an act, or with a time that there may be; a disk makes at most four calls of an act
abbrev pub IsProperLine : ScriptLine → Type 0
IsProperLine Skipped = Unit {0}
IsProperLine (Time time) = time ≤ LAST_NUMBER
IsProperLine (Act act) = IsProperScriptAct act
IsProperLine (Check subject) = Unit {0}
IsProperLine (Stop node calls fill act) = (calls ≤ 4) × IsProperScriptAct act
IsProperLine (Crash node) = Unit {0}

-- each line that is read is one of these
abbrev pub LinesAreProper : Type 0
LinesAreProper = (bytes : List ℕ) → IfSome (script_line_of bytes) IsProperLine
