-- Laws over what bytes decide.
use Rattle.std.specs.Prelude.{◌≡◌, ℕ, ◌≤◌, ◌+◌, Bool, true, List, ◌++◌, length, IfSome}
use Rattle.sig_outside.specs.declared.place.Place.{Place}
use Rattle.sig_http.specs.Answering.{closing_of, refused_with, says_no_store}
use Rattle.sig_http.specs.Chunks.{frame_bytes}
use Rattle.sig_http.specs.Message.{Outcome, Whole, Unfinished, body_of, DecidesRequest, DecidesResponse}
use Rattle.sig_http.specs.Spelling.{request_spelling, response_spelling}
use Rattle.sig_http.specs.Written.{IsReadableRequest, request_read, IsReadableResponse, response_read}
use Rattle.sig_http.specs.declared.fault.HttpFault.{HttpFault}
use Rattle.sig_http.specs.declared.fault.HttpRefusal.{HttpRefusal}
use Rattle.sig_http.specs.declared.framing.Framing.TheVariants.{Chunks}
use Rattle.sig_http.specs.declared.message.Request.{Request}
use Rattle.sig_http.specs.declared.message.Response.{Response}

-- two outcomes that the same bytes decide of a request are one
abbrev pub HasOneRequest : Type 0
HasOneRequest = (bytes : List ℕ) (a b : Outcome Request) → DecidesRequest bytes a → DecidesRequest bytes b → a ≡ b

-- and of a response
abbrev pub HasOneResponse : Type 0
HasOneResponse = (bytes : List ℕ) (a b : Outcome Response) → DecidesResponse bytes a → DecidesResponse bytes b → a ≡ b

-- no cache may keep the response to a request that can't be read, nor that to one that the routes refuse (RFC 9111, section
-- 5.2.2.5)
pub record NoCacheKeeps : Type 0 where
  pub unread : (fault : HttpFault) → IfSome (closing_of fault) (λ response. says_no_store response ≡ true)
  pub refused : (refusal : HttpRefusal) → IfSome (refused_with refusal) (λ response. says_no_store response ≡ true)

-- the spelling of such a request, whatever follows it, is that request
abbrev pub ReadsBackRequest : Type 0
ReadsBackRequest = (place : Place) (request : Request) (kind : List ℕ) (language : Bool) (rest : List ℕ) → IsReadableRequest place request kind language
    → DecidesRequest (request_spelling place request kind language ++ rest) (Whole (request_read request) rest)

-- and of a response
abbrev pub ReadsBackResponse : Type 0
ReadsBackResponse = (response : Response) (rest : List ℕ) → IsReadableResponse response → DecidesResponse (response_spelling response ++ rest) (Whole (response_read response) rest)

-- a chunked body that is whole has few bytes beside its content
abbrev pub HasFewBeside : Type 0
HasFewBeside = (limit : ℕ) (bytes content rest : List ℕ) → body_of limit Chunks bytes ≡ Whole content rest → length bytes ≤ length rest + length content + frame_bytes limit

-- and bytes that don't decide one are few
abbrev pub IsSoonDecided : Type 0
IsSoonDecided = (limit : ℕ) (bytes : List ℕ) → body_of limit Chunks bytes ≡ Unfinished → length bytes ≤ limit + frame_bytes limit
