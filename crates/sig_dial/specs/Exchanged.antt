-- A request and its response over one link (RFC 9112).
use Rattle.std.specs.Prelude.{◌≡◌, ◌⊎◌, ℕ, ◌<◌, ◌≤◌, List, length, true, false, Option, Result, Ok, Err, if◌then◌else◌}
use Rattle.std.specs.Io.KnownBytes.{Appends}
use Rattle.sig_outside.specs.Causes.{AppendsPrefix, Raised}
use Rattle.sig_http.specs.Framing.{is_informational}
use Rattle.sig_http.specs.Message.{DecidesResponse, Whole, Broken, Unfinished}
use Rattle.sig_http.specs.declared.fault.HttpFault.{HttpFault}
use Rattle.sig_http.specs.declared.fault.HttpFault.TheVariants as reads
use Rattle.sig_http.specs.declared.fault.SendFault.{SendFault}
use Rattle.sig_http.specs.declared.fault.SendFault.TheVariants as sends
use Rattle.sig_http.specs.declared.message.Response.{Response}
use Rattle.sig_dial.specs.Interim.{Leads, is_switching}
use Rattle.sig_dial.specs.declared.limits.TheConstants.{INTERIM_RESPONSES}
use Rattle.sig_dial.specs.declared.fault.AskFault.{AskFault}
use Rattle.sig_dial.specs.declared.fault.AskFault.TheVariants.{Dial, Link, NoResponse, Memory}

-- why a request wasn't written whole; no link is stuck
abbrev pub unsent_by : SendFault → AskFault
unsent_by sends.Link = Link
unsent_by sends.Stuck = Link
unsent_by sends.Memory = Memory

-- why no response was read
abbrev pub unread_by : HttpFault → AskFault
unread_by reads.Head = NoResponse
unread_by reads.Host = NoResponse
unread_by reads.HeadLong = NoResponse
unread_by reads.Length = NoResponse
unread_by reads.BodyLong = NoResponse
unread_by reads.Coding = NoResponse
unread_by reads.Expect = NoResponse
unread_by reads.Cut = NoResponse
unread_by reads.Link = Link
unread_by reads.Memory = Memory

-- ---- what the bytes of a link decide

-- behind at most five interim responses, the bytes decide this response to a request
pub record DecidesOne (bytes : List ℕ) (response : Response) : Type 0 where
  pub interim : List Response
  pub few : length interim ≤ INTERIM_RESPONSES
  pub next : List ℕ
  pub leads : Leads interim bytes next
  pub rest : List ℕ
  pub decides : DecidesResponse next (Whole response rest)
  pub last : is_informational response.status ≡ false

-- the bytes begin with no whole response: they end within it, or they are at fault
abbrev pub BeginsWithNone : List ℕ → Type 0
BeginsWithNone bytes = DecidesResponse bytes Unfinished ⊎ ((fault : HttpFault) × DecidesResponse bytes (Broken fault))

-- the bytes begin with a response after which the link speaks another protocol
abbrev pub Switches : List ℕ → Type 0
Switches bytes = (response : Response) × (rest : List ℕ) × DecidesResponse bytes (Whole response rest) × (is_switching response.status ≡ true)

-- behind at most five interim responses, the bytes decide no other, or one that no request asked for
abbrev pub StopsBehind : List ℕ → Type 0
StopsBehind bytes =
    (interim : List Response) × (next : List ℕ) × (length interim ≤ INTERIM_RESPONSES) × Leads interim bytes next × (BeginsWithNone next ⊎ Switches next)

-- more interim responses lead than are passed over
abbrev pub LeadsOn : List ℕ → Type 0
LeadsOn bytes = (interim : List Response) × (next : List ℕ) × (INTERIM_RESPONSES < length interim) × Leads interim bytes next

-- the bytes decide no response to a request
abbrev pub DecidesNone : List ℕ → Type 0
DecidesNone bytes = StopsBehind bytes ⊎ LeadsOn bytes

-- what the bytes of a link decide is what is answered: this response, or that there is none
abbrev pub Decides : List ℕ → Result Response AskFault → Type 0
Decides bytes (Ok response) = DecidesOne bytes response
Decides bytes (Err NoResponse) = DecidesNone bytes
Decides bytes (Err Link) = Unit {0}
Decides bytes (Err Memory) = Unit {0}
Decides bytes (Err Dial) = ⊥

-- ---- what is written and read

-- a response of status 101 is none to a request here
abbrev pub unless_switching : Response → Result Response AskFault
unless_switching response = if is_switching response.status then Err NoResponse else Ok response

-- where a read says that there is no response, the bytes begin with no whole one
abbrev pub StopsBefore : List ℕ → AskFault → Type 0
StopsBefore bytes NoResponse = BeginsWithNone bytes
StopsBefore bytes Link = Unit {0}
StopsBefore bytes Memory = Unit {0}
StopsBefore bytes Dial = ⊥

-- nothing was read of what a link gives, and no read failed
abbrev pub ReadsNothing : Option (List ℕ) → Option (List ℕ) → ℕ → ℕ → Type 0
ReadsNothing left left' reads reads' = (left' ≡ left) × (reads' ≡ reads)

-- all of the request was written, and no write failed
abbrev pub WritesAll : List ℕ → Option (List ℕ) → Option (List ℕ) → ℕ → ℕ → Type 0
WritesAll text old new writes writes' = Appends old new text × (writes' ≡ writes)

-- what is written of a request: all of it where what the link gave was judged, else a prefix of it
abbrev pub Writes : List ℕ → Option (List ℕ) → Option (List ℕ) → Result Response AskFault → Type 0
Writes text old new (Ok response) = Appends old new text
Writes text old new (Err NoResponse) = Appends old new text
Writes text old new (Err Link) = AppendsPrefix old new text
Writes text old new (Err Memory) = AppendsPrefix old new text
Writes text old new (Err Dial) = ⊥

-- the counts of a link's reads and of its writes: a fault of the link raised one of them by one, and any other answer leaves both
abbrev pub Tallies : ℕ → ℕ → ℕ → ℕ → Result Response AskFault → Type 0
Tallies reads reads' writes writes' (Ok response) = (reads' ≡ reads) × (writes' ≡ writes)
Tallies reads reads' writes writes' (Err NoResponse) = (reads' ≡ reads) × (writes' ≡ writes)
Tallies reads reads' writes writes' (Err Link) =
    (Raised reads reads' × (writes' ≡ writes)) ⊎ (Raised writes writes' × (reads' ≡ reads))
Tallies reads reads' writes writes' (Err Memory) = (reads' ≡ reads) × (writes' ≡ writes)
Tallies reads reads' writes writes' (Err Dial) = ⊥
