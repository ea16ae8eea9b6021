use Rattle.std.proofs.Common.{ap, Err}
use Rattle.sig_outside.specs.Causes.{Aside}
use Rattle.sig_serving.proofs.WritingLemmas.{beside_kept}
use Rattle.sig_link.proofs.PassLemmas.{passes_none, passes_read, passes_refused}
use Rattle.sig_link.proofs.serving.serve_next.Goals as goal

pub returns-in-Request-clause-passes : goal.returns-in-Request-clause-passes
returns-in-Request-clause-passes g c =
    let kept = beside_kept _ _ _ _ c.in-Ok.ensures.beside (g.met.L.Link.beside_reads _) (g.met.L.Link.beside_reads _) in
    passes_read _ _ _ _ c.in-Ok.got c.in-Request.request _ _ _ _ _ _ _ _ _ c.in-Request.is c.in-Ok.ensures.found
    (ap (λ (a : Aside). a.bytes) kept) (ap (λ (a : Aside). a.faults) kept) (c.in-Ok.ensures.steady (λ e. cc))
    c.answer.ensures.left c.answer.ensures.reads c.answer.ensures.beside.kept c.answer.ensures.answers

pub returns-in-End-clause-passes : goal.returns-in-End-clause-passes
returns-in-End-clause-passes g c =
    let kept = beside_kept _ _ _ _ c.in-Ok.ensures.beside (g.met.L.Link.beside_reads _) (g.met.L.Link.beside_reads _) in
    passes_none _ _ _ _ c.in-Ok.got _ _ _ _ _ c.in-End.is c.in-Ok.ensures.found (c.in-Ok.ensures.steady (λ e. cc))
    (ap (λ (a : Aside). a.bytes) kept) (ap (λ (a : Aside). a.faults) kept)

pub returns-in-Err-clause-passes : goal.returns-in-Err-clause-passes
returns-in-Err-clause-passes g c =
    let kept = beside_kept _ _ _ _ c.in-Err.ensures.beside (g.met.L.Link.beside_reads _) (g.met.L.Link.beside_reads _) in
    passes_refused _ _ _ _ c.in-Err.fault c.refuse.result _ _ _ _ _ _ c.in-Err.ensures.refused
    (λ e. c.in-Err.ensures.link (ap Err e)) (λ other. c.in-Err.ensures.steady (λ e. other (cc)))
    c.refuse.ensures.reads (ap (λ (a : Aside). a.bytes) kept) (ap (λ (a : Aside). a.faults) kept) c.refuse.ensures.refusal
