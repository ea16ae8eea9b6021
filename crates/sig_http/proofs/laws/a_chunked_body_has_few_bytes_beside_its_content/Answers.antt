use Rattle.sig_http.proofs.FrameLemmas.{few_beside}
use Rattle.sig_http.proofs.laws.a_chunked_body_has_few_bytes_beside_its_content.Goals as goal

pub returns : goal.returns
returns c = λ limit bytes content rest e. few_beside limit bytes content rest e
