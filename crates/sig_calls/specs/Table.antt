-- How the transmitter answers a call, and which fact the call makes: a table over rules, what the history came to, the
-- call and the time.
use Rattle.std.specs.Prelude.{ℕ, Bool, Option, Result}
use Rattle.sig_terms.specs.declared.rules.Rules.{Rules}
use Rattle.sig_terms.specs.declared.call.Call.{Call}
use Rattle.sig_terms.specs.declared.call.Call.TheVariants.{Metadata, Create, ReadAll, Read, Patch, Put, Delete, GetStatus, SetStatus, Add, Remove, Verify, Poll, Publish, OperatorStatus, OperatorDelete, Streams, Refused, Figures, Deliver, Hand, Settle}
use Rattle.sig_terms.specs.declared.answer.Answer.{Answer}
use Rattle.sig_terms.specs.declared.answer.Answer.TheVariants as answer
use Rattle.sig_terms.specs.declared.fact.Fact.{Fact}
use Rattle.sig_terms.specs.declared.fault.PrepareFault.{PrepareFault}
use Rattle.sig_terms.specs.Reply.{Reply}
use Rattle.sig_history.specs.Owed.{Sum}
use Rattle.sig_calls.specs.Told.{Told, only, outcome}
use Rattle.sig_calls.specs.Creating.{creating}
use Rattle.sig_calls.specs.Configuring.{deleting, patching, putting, reading, reading_all}
use Rattle.sig_calls.specs.Statuses.{operating, reading_status, setting_status}
use Rattle.sig_calls.specs.Subjects.{adding, removing}
use Rattle.sig_calls.specs.Verifying.{verifying}
use Rattle.sig_calls.specs.Handing.{delivering, handing}
use Rattle.sig_calls.specs.Overseeing.{dropping, figuring, listing, refusing}
use Rattle.sig_calls.specs.Polling.{polling}
use Rattle.sig_calls.specs.Publishing.{publishing}
use Rattle.sig_calls.specs.Settling.{settling}

-- the only table: one line a call
unfoldable pub told_of : Rules → Sum → Call → ℕ → Told
told_of rules sum Metadata now = only answer.Meta
told_of rules sum (Create client want) now = creating rules sum.parts client want now
told_of rules sum (ReadAll client) now = reading_all sum.parts client
told_of rules sum (Read client stream) now = reading sum.parts client stream
told_of rules sum (Patch client stream want) now = patching sum.parts client stream want
told_of rules sum (Put client stream want) now = putting sum.parts client stream want
told_of rules sum (Delete client stream) now = deleting sum.parts client stream
told_of rules sum (GetStatus client stream) now = reading_status sum.parts client stream
told_of rules sum (SetStatus client stream status reason) now = setting_status sum.parts client stream status reason now
told_of rules sum (Add client stream subject) now = adding sum.parts client stream subject
told_of rules sum (Remove client stream subject) now = removing sum.parts client stream subject
told_of rules sum (Verify client stream state) now = verifying sum.parts client stream state now
told_of rules sum (Poll client stream ask) now = polling sum client stream ask
told_of rules sum (Publish id news) now = publishing sum.parts id news now
told_of rules sum (OperatorStatus stream status reason) now = operating sum.parts stream status reason now
told_of rules sum (OperatorDelete stream) now = dropping sum.parts stream
told_of rules sum (Streams from) now = listing sum from
told_of rules sum (Refused from) now = refusing sum from
told_of rules sum Figures now = figuring sum
told_of rules sum (Deliver stream) now = delivering sum.parts stream
told_of rules sum (Hand streams) now = handing sum streams
told_of rules sum (Settle stream number outcome) now = settling sum stream number outcome

-- the answer
abbrev pub answer_of : Rules → Sum → Call → ℕ → Answer
answer_of rules sum call now = (told_of rules sum call now).answer

-- the fact, where the call makes one
abbrev pub change_of : Rules → Sum → Call → ℕ → Option Fact
change_of rules sum call now = (told_of rules sum call now).change

-- whether a stream or a token would get a number above LAST_NUMBER
abbrev pub over_top : Rules → Sum → Call → ℕ → Bool
over_top rules sum call now = (told_of rules sum call now).over

-- how a call is answered
abbrev pub prepared_of : Rules → Sum → Call → ℕ → Result Reply PrepareFault
prepared_of rules sum call now = outcome (told_of rules sum call now)
