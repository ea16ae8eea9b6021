use Rattle.sig_http.proofs.body.read_body.Goals as goal

pub returns-in-Length-clause-awaits : goal.returns-in-Length-clause-awaits
returns-in-Length-clause-awaits g c = rw c.in-Length.is (c.read_length.ensures.awaits c.args.limit)
