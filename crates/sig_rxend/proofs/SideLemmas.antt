-- A receiver's link leaves the side beside it as it was.
use Rattle.std.proofs.Common.{◌≡◌, ℕ, Bool, true, false, List, [], ◌∷◌, Option, inl, inr, ap, ◌∙◌}
use Rattle.sig_http.specs.declared.message.Request.{Request}
use Rattle.sig_links.specs.Views.{SideView}
use Rattle.sig_rxnode.specs.Told.{RxTold}
use Rattle.sig_rxnode.specs.declared.rules.RxRules.{RxRules}
use Rattle.sig_rxnode.specs.declared.turn.RxTurn.{RxTurn}
use Rattle.sig_serving.specs.declared.link_end.LinkEnd.{LinkEnd}
use Rattle.sig_serving.specs.declared.link_end.LinkEnd.TheVariants.{End, Spent, Closed, Http, Sent, Memory}
use Rattle.sig_link.specs.Course.{Comes, IsFollowed}
use Rattle.sig_link.specs.Exchange.{AreMade, Exchange, MakesTurns}
use Rattle.sig_link.specs.Moment.{Moment}
use Rattle.sig_link.specs.Serving.{Ends}
use Rattle.sig_link.specs.declared.course.Course.{Course}
use Rattle.sig_link.specs.declared.course.Course.TheVariants.{Refused, Turned}
use Rattle.sig_rxend.specs.Laws.{LeavesSides}
use Rattle.sig_rxend.specs.Receiver.{receiver}

module _ (rules : RxRules) (link : ℕ) where
  comes_side : (request : Request) (course : Course RxTurn) (a b : SideView) → Comes receiver rules link request course a b → b ≡ a
  comes_side request (Refused refusal) a b h = h.1
  comes_side request (Turned turn) a b h = h.2.1

  follows_side : (course : Course RxTurn) (more : List RxTurn) (starved : Bool) (a b : SideView) → IsFollowed receiver rules course more starved a b → b ≡ a
  follows_side (Refused refusal) more starved a b h = h.2
  follows_side (Turned turn) more starved a b h = h.2

  makes_side : (e : Exchange RxTurn) (starved : Bool) (a b : SideView) → MakesTurns receiver rules link e starved a b → b ≡ a
  makes_side e starved a b h = follows_side e.course e.more starved h.between b h.follows ∙ comes_side e.request e.course a h.between h.comes

  made_side : (a b : SideView) (es : List (Exchange RxTurn)) → AreMade receiver rules link a es b → b ≡ a
  made_side a b [] h = h
  made_side a b (e ∷ es) h = made_side h.0 b es h.2 ∙ makes_side e false a h.0 h.1

  ends_side : (es : List (Exchange RxTurn)) (end : LinkEnd) (a b : Moment RxTurn (Option RxTold)) → Ends receiver rules link es end a b → b.desk.side ≡ a.desk.side
  ends_side es End a b h = h.1.rests.side
  ends_side es Spent a b h = ap (λ (now : Moment RxTurn (Option RxTold)). now.desk.side) h.2
  ends_side es Closed a b h = ap (λ (now : Moment RxTurn (Option RxTold)). now.desk.side) h.1
  ends_side es (Http fault) a b h = h.1.rests.side
  ends_side es (Sent fault) a b h = let cut = h.2 in comes_side cut.0.request cut.0.course a.desk.side b.desk.side cut.1.begins.takes.comes
  ends_side es Memory a b h = elim h.1 [
    | inl out ↦ elim out.takes [
      | inl none ↦ elim none.side [ inl same ↦ same | inr same ↦ same ]
      | inr some ↦ comes_side some.0.request some.0.course a.desk.side b.desk.side some.1.takes.comes
    ]
    | inr told ↦ makes_side told.0 true a.desk.side b.desk.side told.1.handles.makes
  ]

pub side_stays : LeavesSides
side_stays rules link end a b h =
    ends_side rules link h.answered end h.between b h.ends ∙ made_side rules link a.desk.side h.between.desk.side h.answered h.exchanges.makes
