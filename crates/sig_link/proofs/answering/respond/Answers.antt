use Rattle.std.proofs.Common.{Err, ap, inl, inr}
use Rattle.sig_link.specs.Answering.{text_of}
use Rattle.sig_link.proofs.answering.respond.Goals as goal

pub returns-in-Ok-clause-answered : goal.returns-in-Ok-clause-answered
unfolding text_of
returns-in-Ok-clause-answered g c = record { comes = inl (c.in-Ok.response, c.in-Ok.ensures.responds, c.send.ensures.responds) }

pub returns-in-Err-clause-answered : goal.returns-in-Err-clause-answered
returns-in-Err-clause-answered g c = record { comes = inr (ap Err c.run_out.ensures.end, c.run_out.ensures.sends) }
