-- The kinds of calls, each answered by its own part of the code.
use Rattle.sig_terms.specs.declared.call.Call.{Call}
use Rattle.sig_terms.specs.declared.call.Call.TheVariants.{Add, Create, Delete, Deliver, Figures, GetStatus, Hand, Metadata, OperatorDelete, OperatorStatus, Patch, Poll, Publish, Put, Read, ReadAll, Remove, SetStatus, Settle, Streams, Refused, Verify}

-- what the transmitter offers; configurations of streams; their statuses and subjects; tokens; what the operator sees of all
-- streams
pub data Kind : Type 0 where
  Offering : Kind
  Configuring : Kind
  Steering : Kind
  Telling : Kind
  Overseeing : Kind

abbrev pub kind_of : Call → Kind
kind_of Metadata = Offering
kind_of (Create client want) = Configuring
kind_of (ReadAll client) = Configuring
kind_of (Read client stream) = Configuring
kind_of (Patch client stream want) = Configuring
kind_of (Put client stream want) = Configuring
kind_of (Delete client stream) = Configuring
kind_of (GetStatus client stream) = Steering
kind_of (SetStatus client stream status reason) = Steering
kind_of (Add client stream subject) = Steering
kind_of (Remove client stream subject) = Steering
kind_of (Verify client stream state) = Telling
kind_of (Poll client stream ask) = Telling
kind_of (Publish id news) = Telling
kind_of (OperatorStatus stream status reason) = Telling
kind_of (OperatorDelete stream) = Overseeing
kind_of (Streams from) = Overseeing
kind_of (Refused from) = Overseeing
kind_of Figures = Overseeing
kind_of (Deliver stream) = Telling
kind_of (Hand streams) = Telling
kind_of (Settle stream count outcome) = Telling
