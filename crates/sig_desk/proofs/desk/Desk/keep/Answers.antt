use Rattle.std.proofs.Common.{◌∙◌, ◌∷◌, ◌++◌, [], ap, subst, sym}
use denote.Param.{param}
use Rattle.sig_desk.specs.contracts.desk.Desk as Desk
use Rattle.std.specs.Option.{option_to_list}
use Rattle.sig_desk.specs.Keeping.{KeepsOn}
use Rattle.sig_desk.specs.Views.{IsOpen, telling}
use Rattle.sig_logs.specs.declared.difference.Differ.TheVariants.{Turn}
use Rattle.sig_desk.proofs.KeepLemmas.{kept_turn, stray_turn}
use Rattle.sig_desk.proofs.desk.Desk.keep.Goals as goal

pub returns-in-Some-clause-keeps : goal.returns-in-Some-clause-keeps
returns-in-Some-clause-keeps g c =
    let link_of = g.T.LinkTurn.link_of in
    let turn = c.in-Some.turn in
    let is_open = subst (IsOpen c.args.self.now.marks) c.link.ensures (c.is_open.ensures.0 c.if-is_open.true) in
    let new = Desk.the_view (param 0 g.row.J) (param 1 g.row.G) (param 2 g.row.T) g.J.Naming (record { front = c.self.inside.front; turns = c.push_reserved.new.self; marks = c.self.inside.marks; differs = c.self.inside.differs }) in
    subst (λ o. KeepsOn link_of g.G.Logged.number_of g.G.Logged.turns_of c.args.self.now new (option_to_list o)) (sym c.in-Some.is)
    (kept_turn link_of g.G.Logged.number_of g.G.Logged.turns_of c.args.self.now new turn (ap (λ v. v.logs) c.self.view_is) (ap (λ v. v.marks) c.self.view_is) (ap (λ v. v.differs) c.self.view_is)
    (c.push_reserved.ensures.items ∙ ap (λ v. v.turns ++ turn ∷ []) c.self.view_is) is_open)

pub returns-in-Some-2-clause-keeps : goal.returns-in-Some-2-clause-keeps
returns-in-Some-2-clause-keeps g c =
    let link_of = g.T.LinkTurn.link_of in
    let turn = c.in-Some.turn in
    subst (λ o. KeepsOn link_of g.G.Logged.number_of g.G.Logged.turns_of c.args.self.now c.tell.new.self (option_to_list o)) (sym c.in-Some.is)
    (stray_turn link_of g.G.Logged.number_of g.G.Logged.turns_of c.args.self.now c.tell.new.self turn
    (c.tell.ensures ∙ ap (λ n. telling c.args.self.now (Turn n 1)) c.link-in-Some-2.ensures)
    (λ o. cc (sym (c.is_open.ensures.1 (subst (IsOpen c.args.self.now.marks) (sym c.link.ensures) o)) ∙ c.if-is_open.false)))
