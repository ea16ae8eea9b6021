-- Every call is lawful, and so keeps to the rules: a line for each.
use Rattle.std.proofs.Common.{ℕ, refl}
use Rattle.sig_terms.specs.declared.rules.Rules.{Rules}
use Rattle.sig_terms.specs.declared.answer.Answer.TheVariants as answer
use Rattle.sig_terms.specs.declared.call.Call.{Call}
use Rattle.sig_terms.specs.declared.call.Call.TheVariants.{Metadata, Create, ReadAll, Read, Patch, Put, Delete, GetStatus, SetStatus, Add, Remove, Verify, Poll, Publish, OperatorStatus, OperatorDelete, Streams, Refused, Figures, Deliver, Hand, Settle}
use Rattle.sig_history.specs.Owed.{Sum}
use Rattle.sig_calls.specs.Proper.{IsProperRules}
use Rattle.sig_calls.specs.Regular.{CallsAreRegular}
use Rattle.sig_calls.specs.Table.{told_of}
use Rattle.sig_calls.proofs.ConfiguringLemmas.{deleting_lawful, patching_lawful, putting_lawful, reading_all_lawful, reading_lawful}
use Rattle.sig_calls.proofs.CreatingLemmas.{creating_lawful}
use Rattle.sig_calls.proofs.HandingLemmas.{delivering_lawful, handing_lawful}
use Rattle.sig_calls.proofs.OverseeingLemmas.{dropping_lawful, figuring_lawful, listing_lawful, refusing_lawful}
use Rattle.sig_calls.proofs.PollingLemmas.{polling_lawful}
use Rattle.sig_calls.proofs.PublishingLemmas.{publishing_lawful}
use Rattle.sig_calls.proofs.SettlingLemmas.{settling_lawful}
use Rattle.sig_calls.proofs.StatusesLemmas.{operating_lawful, reading_status_lawful, setting_status_lawful}
use Rattle.sig_calls.proofs.SubjectsLemmas.{adding_lawful, removing_lawful}
use Rattle.sig_calls.proofs.ToldLemmas.{IsLawful, only_lawful}
use Rattle.sig_calls.proofs.VerifyingLemmas.{verifying_lawful}

pub calls_lawful : (rules : Rules) (sum : Sum) (call : Call) (now : ℕ) → IsProperRules rules → IsLawful rules sum call now (told_of rules sum call now)
unfolding told_of
calls_lawful rules sum Metadata now proper = only_lawful rules sum Metadata now answer.Meta refl
calls_lawful rules sum (Create client want) now proper = creating_lawful rules sum client want now proper
calls_lawful rules sum (ReadAll client) now proper = reading_all_lawful rules sum client now
calls_lawful rules sum (Read client stream) now proper = reading_lawful rules sum client stream now
calls_lawful rules sum (Patch client stream want) now proper = patching_lawful rules sum client stream want now
calls_lawful rules sum (Put client stream want) now proper = putting_lawful rules sum client stream want now
calls_lawful rules sum (Delete client stream) now proper = deleting_lawful rules sum client stream now
calls_lawful rules sum (GetStatus client stream) now proper = reading_status_lawful rules sum client stream now
calls_lawful rules sum (SetStatus client stream status reason) now proper = setting_status_lawful rules sum client stream status reason now
calls_lawful rules sum (Add client stream subject) now proper = adding_lawful rules sum client stream subject now
calls_lawful rules sum (Remove client stream subject) now proper = removing_lawful rules sum client stream subject now
calls_lawful rules sum (Verify client stream state) now proper = verifying_lawful rules sum client stream state now
calls_lawful rules sum (Poll client stream ask) now proper = polling_lawful rules sum client stream ask now
calls_lawful rules sum (Publish id news) now proper = publishing_lawful rules sum id news now
calls_lawful rules sum (OperatorStatus stream status reason) now proper = operating_lawful rules sum stream status reason now
calls_lawful rules sum (OperatorDelete stream) now proper = dropping_lawful rules sum stream now
calls_lawful rules sum (Streams from) now proper = listing_lawful rules sum from now
calls_lawful rules sum (Refused from) now proper = refusing_lawful rules sum from now
calls_lawful rules sum Figures now proper = figuring_lawful rules sum now
calls_lawful rules sum (Deliver stream) now proper = delivering_lawful rules sum stream now
calls_lawful rules sum (Hand streams) now proper = handing_lawful rules sum streams now
calls_lawful rules sum (Settle stream number outcome) now proper = settling_lawful rules sum stream number outcome now

pub calls_regular : CallsAreRegular
calls_regular rules sum call now proper whole = (calls_lawful rules sum call now proper).regular whole
