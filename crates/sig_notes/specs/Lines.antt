-- The lines by which a server tells whoever runs it what it refused, pushed and served, and why it ended.
use Rattle.std.specs.Prelude.{ℕ, List, ◌++◌, Option, Some, None, codes, decimal}
use Rattle.sig_http.specs.declared.fault.HttpFault.{HttpFault}
use Rattle.sig_http.specs.declared.fault.HttpFault.TheVariants as http
use Rattle.sig_http.specs.declared.fault.SendFault.TheVariants as sent
use Rattle.sig_serving.specs.declared.link_end.LinkEnd.{LinkEnd}
use Rattle.sig_serving.specs.declared.link_end.LinkEnd.TheVariants as ends
use Rattle.sig_notes.specs.declared.held.Held.{Held}
use Rattle.sig_notes.specs.declared.cause.PushCause.{PushCause}
use Rattle.sig_notes.specs.declared.cause.PushCause.TheVariants as push
use Rattle.sig_notes.specs.declared.cause.LinkCause.{LinkCause}
use Rattle.sig_notes.specs.declared.cause.LinkCause.TheVariants as link
use Rattle.sig_notes.specs.declared.cause.EndCause.{EndCause}
use Rattle.sig_notes.specs.declared.cause.EndCause.TheVariants as end

-- the fault of a request that isn't read, and that of a link, if it ended by one
abbrev pub request_cause : HttpFault → LinkCause
request_cause http.Head = link.Head
request_cause http.Host = link.Host
request_cause http.HeadLong = link.HeadLong
request_cause http.Length = link.Length
request_cause http.BodyLong = link.BodyLong
request_cause http.Coding = link.Coding
request_cause http.Expect = link.Expect
request_cause http.Cut = link.Cut
request_cause http.Link = link.Link
request_cause http.Memory = link.Memory

abbrev pub link_cause : LinkEnd → Option LinkCause
link_cause ends.End = None
link_cause ends.Spent = None
link_cause ends.Closed = None
link_cause (ends.Http fault) = Some (request_cause fault)
link_cause (ends.Sent sent.Link) = Some link.Write
link_cause (ends.Sent sent.Stuck) = Some link.Write
link_cause (ends.Sent sent.Memory) = Some link.Memory
link_cause ends.Memory = Some link.Memory

-- the word of a cause
abbrev pub push_text : PushCause → List ℕ
push_text push.NoEndpoint = codes "no_endpoint"
push_text push.NoGateway = codes "no_gateway"
push_text push.Dial = codes "dial"
push_text push.Link = codes "link"
push_text push.NoResponse = codes "no_response"
push_text push.Kept = codes "kept"
push_text push.Memory = codes "memory"

abbrev pub link_text : LinkCause → List ℕ
link_text link.Head = codes "head"
link_text link.Host = codes "host"
link_text link.HeadLong = codes "head_long"
link_text link.Length = codes "length"
link_text link.BodyLong = codes "body_long"
link_text link.Coding = codes "coding"
link_text link.Expect = codes "expect"
link_text link.Cut = codes "cut"
link_text link.Link = codes "link"
link_text link.Write = codes "write"
link_text link.Memory = codes "memory"

-- the word for how a link ended
abbrev pub end_word : LinkEnd → List ℕ
end_word ends.End = codes "end"
end_word ends.Spent = codes "spent"
end_word ends.Closed = codes "closed"
end_word (ends.Http fault) = link_text (request_cause fault)
end_word (ends.Sent sent.Link) = link_text link.Write
end_word (ends.Sent sent.Stuck) = link_text link.Write
end_word (ends.Sent sent.Memory) = link_text link.Memory
end_word ends.Memory = link_text link.Memory

abbrev pub end_text : EndCause → List ℕ
end_text end.Done = codes "done"
end_text end.SettingsFailed = codes "settings failed"
end_text end.Refused = codes "settings refused"
end_text end.NoStore = codes "no store"
end_text end.Damaged = codes "damaged"
end_text end.StoreFailed = codes "store failed"
end_text end.NetworkFailed = codes "network failed"
end_text end.Disagree = codes "disagree"
end_text end.Memory = codes "memory"

-- a name, or a dash where there is none
abbrev pub or_dash : Option (List ℕ) → List ℕ
or_dash None = codes "-"
or_dash (Some name) = name

-- a transmitter that speaks for this issuer serves at this place, and holds so many streams, which
-- owe so many tokens together, and a journal of so many records
abbrev pub serving : List ℕ → List ℕ → ℕ → Held → List ℕ
serving issuer host port held =
    codes "serving " ++ issuer ++ codes " on " ++ host ++ codes ":" ++ decimal port ++ codes ": "
    ++ decimal held.streams ++ codes " streams, " ++ decimal held.owed ++ codes " owed, "
    ++ decimal held.records ++ codes " records"

-- a receiver that knows so many issuers serves at this place over a journal of so many tokens
abbrev pub receiving : List ℕ → ℕ → ℕ → ℕ → List ℕ
receiving host port issuers tokens =
    codes "receiving on " ++ host ++ codes ":" ++ decimal port ++ codes ": " ++ decimal issuers ++ codes " issuers, " ++ decimal tokens ++ codes " tokens"

-- a server ended by this cause
abbrev pub ended : EndCause → List ℕ
ended cause = codes "ended " ++ end_text cause

-- a receiver reported this token of a stream as faulty
abbrev pub reported : List ℕ → ℕ → List ℕ → List ℕ
reported stream number code = codes "refused " ++ stream ++ codes "." ++ decimal number ++ codes " " ++ code

-- of so many tokens that a stream was to be brought some are late, by this cause
abbrev pub push_late : List ℕ → ℕ → ℕ → PushCause → List ℕ
push_late stream late tokens cause =
    codes "push " ++ stream ++ codes " late " ++ decimal late ++ codes " of " ++ decimal tokens ++ codes " " ++ push_text cause

-- a stream that was late was brought so many tokens
abbrev pub push_good : List ℕ → ℕ → List ℕ
push_good stream tokens = codes "push " ++ stream ++ codes " good " ++ decimal tokens

-- a token was refused that was pushed for this issuer, at this part of it
abbrev pub refused_push : Option (List ℕ) → List ℕ → List ℕ → List ℕ
refused_push issuer code spot = codes "refused push of " ++ or_dash issuer ++ codes " " ++ code ++ codes " " ++ spot

-- a token was refused that a poll listed under this identifier
abbrev pub refused_listed : Option (List ℕ) → List ℕ → List ℕ
refused_listed jti code = codes "refused " ++ or_dash jti ++ codes " " ++ code

-- a poll was answered with this status
abbrev pub peer_status : ℕ → List ℕ
peer_status status = codes "peer status " ++ decimal status

-- a link ended by this fault
abbrev pub link_ended : LinkCause → List ℕ
link_ended cause = codes "link ended " ++ link_text cause
