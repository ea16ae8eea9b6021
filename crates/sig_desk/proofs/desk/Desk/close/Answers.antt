use Rattle.std.proofs.Common.{◌∙◌, ◌==◌, ◌-◌, ap, false, filter, rules, subst, sym}
use Rattle.std.specs.Prelude.{◌≢◌, not, slice_get, slice_set}
use Rattle.std.proofs.lemmas.Fn.{filter_same}
use Rattle.sig_logs.specs.Logs.{of_link}
use Rattle.sig_logs.specs.declared.difference.Differ.TheVariants.{Turn}
use Rattle.sig_desk.specs.Views.{first_of}
use Rattle.sig_desk.proofs.KeepLemmas.{other_log, same_log}
use Rattle.sig_desk.proofs.desk.Desk.close.Goals as goal

pub returns-in-Some-clause-keeps : goal.returns-in-Some-clause-keeps
returns-in-Some-clause-keeps g c =
    let link_of = g.T.LinkTurn.link_of in
    let number = c.number-number.ensures in
    let items = filter_same _ (λ t. not (link_of t == c.number-number.result)) _ (λ x b f' k. search rules) _ _ c.retain.ensures.filtered in
    let place = c.in-Some.place in
    other_log link_of g.G.Logged.number_of g.G.Logged.turns_of c.args.self.now c.tell.new.self c.args.log.now place c.requires.is_open
    (record {
      logs = ap (λ v. v.logs) c.tell.ensures ∙ c.requires.joined;
      marks = ap (λ v. v.marks) c.tell.ensures ∙ ap (λ n. slice_set c.self.inside.marks.items n false) number ∙ ap (λ v. slice_set v.marks (g.G.Logged.number_of c.args.log.now) false) c.self.view_is;
      turns = ap (λ v. v.turns) c.tell.ensures ∙ items ∙ ap (λ n. filter (λ t. not (link_of t == n)) c.self.inside.turns.items) number
          ∙ ap (λ v. filter (λ t. not (link_of t == g.G.Logged.number_of c.args.log.now)) v.turns) c.self.view_is;
    })
    (ap (λ v. v.differs) c.tell.ensures ∙ ap (λ n. first_of c.self.inside.differs (Turn n place)) number ∙ ap (λ v. first_of v.differs (Turn (g.G.Logged.number_of c.args.log.now) place)) c.self.view_is)
    c.in-Some.ensures.0
    (subst (λ l. slice_get l (place - 1) ≢ slice_get (of_link link_of (g.G.Logged.number_of c.args.log.now) c.args.self.now.turns) (place - 1)) c.turns.ensures
    (subst (λ l. slice_get c.turns.result.now (place - 1) ≢ slice_get (of_link link_of (g.G.Logged.number_of c.args.log.now) l) (place - 1)) (c.as_slice.ensures.value ∙ ap (λ v. v.turns) c.self.view_is)
    (subst (λ n. slice_get c.turns.result.now (place - 1) ≢ slice_get (of_link link_of n c.as_slice.result.now) (place - 1)) number c.in-Some.ensures.1)))

pub returns-in_default-clause-keeps : goal.returns-in_default-clause-keeps
returns-in_default-clause-keeps g c =
    let link_of = g.T.LinkTurn.link_of in
    let number = c.number-number.ensures in
    let items = filter_same _ (λ t. not (link_of t == c.number-number.result)) _ (λ x b f' k. search rules) _ _ c.retain.ensures.filtered in
    same_log link_of g.G.Logged.number_of g.G.Logged.turns_of c.args.self.now _ c.args.log.now c.requires.is_open
    (record {
      logs = c.requires.joined;
      marks = ap (λ n. slice_set c.self.inside.marks.items n false) number ∙ ap (λ v. slice_set v.marks (g.G.Logged.number_of c.args.log.now) false) c.self.view_is;
      turns = items ∙ ap (λ n. filter (λ t. not (link_of t == n)) c.self.inside.turns.items) number
          ∙ ap (λ v. filter (λ t. not (link_of t == g.G.Logged.number_of c.args.log.now)) v.turns) c.self.view_is;
    })
    (ap (λ v. v.differs) c.self.view_is)
    (sym c.turns.ensures ∙ c.in_default.ensures ∙ ap (λ n. of_link link_of n c.as_slice.result.now) number
    ∙ ap (of_link link_of (g.G.Logged.number_of c.args.log.now)) (c.as_slice.ensures.value ∙ ap (λ v. v.turns) c.self.view_is))
