-- The texts that a server writes whatever was asked: to a request that can't be read, and where memory runs out.
use Rattle.std.specs.Prelude.{ℕ, List, [], Option, Some, None, codes}
use Rattle.sig_http.specs.Answering.{closing_of}
use Rattle.sig_http.specs.Spelling.{response_spelling}
use Rattle.sig_http.specs.declared.fault.HttpFault.{HttpFault}
use Rattle.sig_http.specs.declared.message.Response.{Response}

-- the text of the response where memory runs out (RFC 4918, section 11.5), which is fixed
unfoldable pub memory_text : List ℕ
memory_text = codes "HTTP/1.1 507 Insufficient Storage\r\ncache-control: no-store\r\nconnection: close\r\ncontent-length: 0\r\n\r\n"

-- the text of a response, and nothing where there is none
abbrev pub spelled : Option Response → List ℕ
spelled None = []
spelled (Some response) = response_spelling response

-- the text of the response to a request that can't be read
unfoldable pub refusal_text : HttpFault → List ℕ
refusal_text fault = spelled (closing_of fault)
