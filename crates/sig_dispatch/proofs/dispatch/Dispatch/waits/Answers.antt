use Rattle.std.proofs.Common.{rules, ◌≡◌, ◌∙◌, ap, sym}
use Rattle.std.proofs.lemmas.Slice.Eq.{bytes_eq-Decides}
use Rattle.std.specs.Prelude.{Some}
use Rattle.sig_dispatch.proofs.Queue.{found_waits}
use Rattle.sig_dispatch.proofs.dispatch.Dispatch.waits.Goals as goal

pub returns-in-Some : goal.returns-in-Some
returns-in-Some c is =
    let same : c.in-Some.there.now ≡ c.args.stream.now = (bytes_eq-Decides _ _).0 (sym c.eq.ensures ∙ is) in
    found_waits _ _ _ (sym c.get.ensures.value ∙ (search rules) ∙ ap Some same)
