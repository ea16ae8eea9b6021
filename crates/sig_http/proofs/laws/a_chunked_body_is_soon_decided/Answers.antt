use Rattle.sig_http.proofs.FrameLemmas.{soon_decided}
use Rattle.sig_http.proofs.laws.a_chunked_body_is_soon_decided.Goals as goal

pub returns : goal.returns
returns c = λ limit bytes e. soon_decided limit bytes e
