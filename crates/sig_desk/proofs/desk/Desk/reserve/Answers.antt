use denote.Param.{param}
use Rattle.std.proofs.Common.{◌∙◌, ap}
use Rattle.sig_desk.specs.contracts.desk.Desk as Desk
use Rattle.sig_desk.proofs.KeepLemmas.{same_desk}
use Rattle.sig_desk.proofs.desk.Desk.reserve.Goals as goal

pub returns-clause-keeps : goal.returns-clause-keeps
returns-clause-keeps g c =
    let new = Desk.the_view (param 0 g.row.J) (param 1 g.row.G) (param 2 g.row.T) g.J.Naming (record { front = c.self.inside.front; turns = c.reserve.new.self; marks = c.self.inside.marks; differs = c.self.inside.differs }) in
    same_desk g.T.LinkTurn.link_of g.G.Logged.number_of g.G.Logged.turns_of c.args.self.now new (ap (λ v. v.logs) c.self.view_is) (c.reserve.ensures.items ∙ ap (λ v. v.turns) c.self.view_is)
    (ap (λ v. v.marks) c.self.view_is) (ap (λ v. v.differs) c.self.view_is)
