use Rattle.sig_http.proofs.WrittenRequest.{request_read_back}
use Rattle.sig_http.proofs.laws.a_written_request_is_read_back.Goals as goal

pub returns : goal.returns
returns c = λ place request kind language rest ok. request_read_back place request kind language rest ok
