use Rattle.std.proofs.lemmas.Result.{err_from_is_err_and}
use Rattle.sig_subject.proofs.Deciding.{refused_alike}
use Rattle.sig_subject.proofs.plain_reading.plain_from.Goals as goal

pub returns-in_err-issuer-in-Saml : goal.returns-in_err-issuer-in-Saml
returns-in_err-issuer-in-Saml c =
    let p = err_from_is_err_and c.from_residual-in_err-issuer-in-Saml.result c.from_residual-in_err-issuer-in-Saml.ensures.1 in
    rw (p.1, p.2, c.in-Saml.is) (refused_alike _ _ _ _ _ c.in_err-issuer-in-Saml.ensures)
