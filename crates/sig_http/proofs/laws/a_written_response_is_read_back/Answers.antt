use Rattle.sig_http.proofs.WrittenResponse.{response_read_back}
use Rattle.sig_http.proofs.laws.a_written_response_is_read_back.Goals as goal

pub returns : goal.returns
returns c = λ response rest ok. response_read_back response rest ok
