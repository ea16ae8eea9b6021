use Rattle.sig_http.specs.Section.{start, section_from}
use Rattle.sig_http.specs.Message.{FindsResponse, responses}
use Rattle.sig_http.proofs.LawLemmas.{one_response_head, one_outcome}
use Rattle.sig_http.proofs.laws.bytes_decide_one_response.Goals as goal

pub returns : goal.returns
returns c = λ bytes a b p q. one_outcome FindsResponse responses one_response_head bytes a b (section_from start bytes) p q
