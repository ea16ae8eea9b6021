use Rattle.std.proofs.Common.{rules, ◌≡◌, ◌∙◌, ap, sym, inl, inr}
use Rattle.std.proofs.lemmas.Slice.Eq.{bytes_eq-Decides}
use Rattle.std.specs.Prelude.{Some}
use Rattle.sig_dispatch.proofs.Queue.{others_wait}
use Rattle.sig_dispatch.proofs.dispatch.Dispatch.take_off.Goals as goal

pub returns-then-eq-clause-keeps : goal.returns-then-eq-clause-keeps
returns-then-eq-clause-keeps c other apart (inl before) =
    let same : c.in-Some.there ≡ c.args.stream.now = (bytes_eq-Decides _ _).0 (sym c.eq.ensures ∙ c.if-eq.true) in
    let is : c.remove.result ≡ Some c.args.stream.now = (search rules) ∙ ap Some same in
    inl (rw c.remove.ensures.entries (others_wait _ _ _ other (sym c.remove.ensures.value ∙ is) apart before))
returns-then-eq-clause-keeps c other apart (inr before) = inr before
