-- What a response to a poll hands out, or why it hands out nothing (RFC 8936, section 2.5).
use Rattle.std.specs.Prelude.{◌≡◌, ◌==◌, Result, Ok, Err, codes, if◌then◌else◌}
use Rattle.sig_json.specs.Answers.{Answers}
use Rattle.sig_http.specs.declared.message.Response.{Response}
use Rattle.sig_dial.specs.declared.fault.AskFault.{AskFault}
use Rattle.sig_dial.specs.declared.fault.AskFault.TheVariants as asked
use Rattle.sig_delivery.specs.Sets.{sets_of}
use Rattle.sig_delivery.specs.declared.fault.BodyFault.{BodyFault}
use Rattle.sig_delivery.specs.declared.fault.BodyFault.TheVariants as body
use Rattle.sig_delivery.specs.declared.sets.Sets.{Sets}
use Rattle.sig_fetch.specs.declared.fault.FetchFault.{FetchFault}
use Rattle.sig_fetch.specs.declared.fault.FetchFault.TheVariants.{Dial, Link, Peer, Memory}

-- a member of the body that is wrong is the peer's fault
abbrev pub page_read : Result Sets BodyFault → Result Sets FetchFault
page_read (Ok sets) = Ok sets
page_read (Err (body.Bad member)) = Err (Peer member)
page_read (Err body.Memory) = Err Memory

-- the page of a response: it has one where its status is 200 and its body says one
abbrev pub page_of : Response → Result Sets FetchFault
page_of response = if response.status == 200 then page_read (sets_of response.body) else Err (Peer (codes "status"))

-- what a request was answered gives this page, or is at fault so; memory may run out while a response is read
abbrev pub IsPage : Result Response AskFault → Result Sets FetchFault → Type 0
IsPage (Ok response) page = Answers Memory page (page_of response)
IsPage (Err asked.NoResponse) page = Answers Memory page (Err (Peer (codes "http")))
IsPage (Err asked.Dial) page = page ≡ Err Dial
IsPage (Err asked.Link) page = page ≡ Err Link
IsPage (Err asked.Memory) page = page ≡ Err Memory
