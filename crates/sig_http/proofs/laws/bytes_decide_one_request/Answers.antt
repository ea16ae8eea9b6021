use Rattle.sig_http.specs.Section.{start, section_from}
use Rattle.sig_http.specs.Message.{FindsRequest, requests}
use Rattle.sig_http.proofs.LawLemmas.{one_request_head, one_outcome}
use Rattle.sig_http.proofs.laws.bytes_decide_one_request.Goals as goal

pub returns : goal.returns
returns c = λ bytes a b p q. one_outcome FindsRequest requests one_request_head bytes a b (section_from start bytes) p q
