-- The cause that a line names of a push that settled nothing.
use Rattle.std.specs.Prelude.{Result, Ok, Err, ⊤}
use Rattle.sig_notes.specs.declared.cause.PushCause.{PushCause}
use Rattle.sig_notes.specs.declared.cause.PushCause.TheVariants as causes
use Rattle.sig_push.specs.declared.fault.PushFault.{PushFault}
use Rattle.sig_push.specs.declared.fault.PushFault.TheVariants as faults

abbrev pub cause_of : PushFault → PushCause
cause_of faults.NoEndpoint = causes.NoEndpoint
cause_of faults.NoGateway = causes.NoGateway
cause_of faults.Dial = causes.Dial
cause_of faults.Link = causes.Link
cause_of faults.NoResponse = causes.NoResponse
cause_of faults.Memory = causes.Memory

-- why tokens are late that were pushed so
abbrev pub cause_in : Result ⊤ PushFault → PushCause
cause_in (Ok all) = causes.Kept
cause_in (Err fault) = cause_of fault
