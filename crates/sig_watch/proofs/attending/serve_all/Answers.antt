use Rattle.std.proofs.Common.{◌≡◌, ◌∙◌, ℕ, sym, subst}
use Rattle.std.specs.Prelude.{vec_len}
use Rattle.sig_watch.specs.Passing.{HaltsSo, LetsIn}
use Rattle.sig_watch.proofs.PassLemmas.{from_none, renamed}
use Rattle.sig_watch.proofs.WatchLemmas.{attends}
use Rattle.sig_watch.proofs.attending.serve_all.Goals as goal

pub returns-clause-attends : goal.returns-clause-attends
returns-clause-attends g c =
    let serves = g.H.Host.serves c.args.host.now in
    attends serves _ _ _ _ _ _ _ _ _ c.requires.none.2
    (from_none serves _ _ _ _ _ _ _ _ c.requires.none.0 c.requires.none.1 c.accept_all-stop.ensures.passes)
    (renamed serves _ _ _ _ _ _ _ _ c.hurry.ensures c.give_all_back.ensures.same c.give_all_back.ensures.passes)

pub returns-clause-lets_in : goal.returns-clause-lets_in
returns-clause-lets_in g c =
    let count : vec_len c.give_all_back.new.course.logs ≡ c.accept_all-stop.new.course.count = c.give_all_back.ensures.all ∙ c.give_all_back.ensures.same in
    subst (λ (n : ℕ). LetsIn (g.H.Host.answered c.args.host.now) 0 n) (sym count)
    (subst (λ (n : ℕ). LetsIn (g.H.Host.answered c.args.host.now) n c.accept_all-stop.new.course.count) c.requires.none.0 c.accept_all-stop.ensures.lets_in)

pub returns-clause-halts : goal.returns-clause-halts
returns-clause-halts g c =
    let count : vec_len c.give_all_back.new.course.logs ≡ c.accept_all-stop.new.course.count = c.give_all_back.ensures.all ∙ c.give_all_back.ensures.same in
    subst (λ (n : ℕ). HaltsSo (g.H.Host.answered c.args.host.now) c.accept_all-stop.result n) (sym count) c.accept_all-stop.ensures.halts
