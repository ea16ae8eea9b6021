use Rattle.std.proofs.Common.{◌≡◌, ◌∙◌, ap, sym, subst, ◌+◌, List, length}
use Rattle.sig_journal.specs.Appended.{WritesOne}
use Rattle.sig_rxnode.specs.declared.turn.RxTurn.{RxTurn}
use Rattle.sig_rxnode.specs.Journals.{Writes}
use Rattle.sig_rxnode.specs.Node.{IsNode, NodeView, base_of}
use Rattle.sig_rxnode.specs.Parts.{holding_of}
use Rattle.sig_rxnode.specs.Take.{Answered, KeepsTurn, Refused, added_by}
use Rattle.sig_rxnode.proofs.HistoryLemmas.{Took, base_kept, history_after, one_file}
use Rattle.sig_rxnode.proofs.Takes.{answered_by, refused_by, took_by, writes_by}
use Rattle.sig_rxnode.proofs.node.RxNode.take_kept.Goals as goal

pub invariant_of-self-in-Err : goal.invariant_of-self-in-Err
invariant_of-self-in-Err g c =
    let D = g.D.Disk in
    let make : List RxTurn → NodeView g.row.D.Denot = λ turns. record { kept = holding_of c.self.inside.kept; rules = c.self.inside.rules; turns = turns; opened = c.self.inside.opened } in
    subst (λ (turns : List RxTurn). IsNode D.told D.seen D.may_leave (make turns) c.self.inside.trust) (sym c.make_room.ensures.turns) c.self.invariant

pub invariant_of-self : goal.invariant_of-self
invariant_of-self g c =
    let D = g.D.Disk in
    let old : NodeView g.row.D.Denot = record { kept = holding_of c.self.inside.kept; rules = c.self.inside.rules; turns = c.self.inside.turns.items; opened = c.self.inside.opened } in
    let new : NodeView g.row.D.Denot = record { kept = holding_of c.answer-told.new.self; rules = c.self.inside.rules; turns = c.keep_turn.new.turns.items; opened = c.self.inside.opened } in
    let reserved : c.make_room.new.turns.items ≡ c.self.inside.turns.items = c.make_room.ensures.turns in
    let counted : c.next_number-turn.result ≡ length c.self.inside.turns.items + 1 = c.next_number-turn.ensures ∙ ap (λ (l : List RxTurn). length l + 1) reserved in
    let call_same : c.in-Ok.copied ≡ c.args.call.now = c.in-Ok.ensures.copied in
    let keeps : KeepsTurn c.self.inside.turns.items c.keep_turn.new.turns.items c.args.link c.args.call.now c.keep_turn.result.result =
    subst (λ call. KeepsTurn c.self.inside.turns.items c.keep_turn.new.turns.items c.args.link call c.keep_turn.result.result) call_same
    (subst (λ (l : List RxTurn). KeepsTurn l c.keep_turn.new.turns.items c.args.link c.in-Ok.copied c.keep_turn.result.result) reserved c.keep_turn.ensures.turns) in
    let took : Took D.told D.seen D.may_leave D.moment D.left_since D.stop D.short D.faults old new c.args.call.now c.keep_turn.result.result =
    took_by c.self.inside.trust old c.self.invariant.trusts (holding_of c.answer-told.new.self) c.keep_turn.new.turns.items c.args.call.now c.answer-told.result c.keep_turn.result.result c.keep_turn.ensures.same
    D.faults c.args.link c.next_number-turn.result counted c.answer-told.ensures.adds c.answer-told.ensures.causes c.answer-told.ensures.broken keeps
    D.told D.seen D.may_leave D.moment D.left_since D.stop D.short c.answer-told.ensures.answer c.answer-told.ensures.writes in
    record {
      holds = c.answer-told.ensures.holds;
      trusts = c.self.invariant.trusts;
      history = history_after D.told D.seen D.may_leave D.moment D.left_since D.stop D.short D.faults old new c.args.link c.args.call.now c.keep_turn.result.result c.self.invariant.history took keeps;
    }

pub returns-in-Ok-clause-answered : goal.returns-in-Ok-clause-answered
returns-in-Ok-clause-answered g c =
    let D = g.D.Disk in
    let old : NodeView g.row.D.Denot = record { kept = holding_of c.self.inside.kept; rules = c.self.inside.rules; turns = c.self.inside.turns.items; opened = c.self.inside.opened } in
    let new : NodeView g.row.D.Denot = record { kept = holding_of c.answer-told.new.self; rules = c.self.inside.rules; turns = c.keep_turn.new.turns.items; opened = c.self.inside.opened } in
    subst (λ (o : NodeView g.row.D.Denot). Answered c.args.call.now o new c.keep_turn.result.result) c.self.view_is
    (answered_by c.self.inside.trust old c.self.invariant.trusts (holding_of c.answer-told.new.self) c.keep_turn.new.turns.items c.args.call.now c.answer-told.result c.keep_turn.result.result c.keep_turn.ensures.same
    c.answer-told.ensures.answer c.answer-told.ensures.adds)

pub returns-in-Ok-clause-writes : goal.returns-in-Ok-clause-writes
returns-in-Ok-clause-writes g c =
    let D = g.D.Disk in
    let old : NodeView g.row.D.Denot = record { kept = holding_of c.self.inside.kept; rules = c.self.inside.rules; turns = c.self.inside.turns.items; opened = c.self.inside.opened } in
    let new : NodeView g.row.D.Denot = record { kept = holding_of c.answer-told.new.self; rules = c.self.inside.rules; turns = c.keep_turn.new.turns.items; opened = c.self.inside.opened } in
    subst (λ (o : NodeView g.row.D.Denot). Writes D.told D.seen D.may_leave D.moment D.left_since D.stop D.short (added_by o c.args.call.now) o.kept (holding_of c.answer-told.new.self) c.keep_turn.result.result) c.self.view_is
    (writes_by c.self.inside.trust old c.self.invariant.trusts (holding_of c.answer-told.new.self) c.keep_turn.new.turns.items c.args.call.now c.answer-told.result c.keep_turn.result.result c.keep_turn.ensures.same
    D.told D.seen D.may_leave D.moment D.left_since D.stop D.short c.answer-told.ensures.writes)

pub returns-in-Ok-clause-refused : goal.returns-in-Ok-clause-refused
returns-in-Ok-clause-refused g c =
    let D = g.D.Disk in
    let old : NodeView g.row.D.Denot = record { kept = holding_of c.self.inside.kept; rules = c.self.inside.rules; turns = c.self.inside.turns.items; opened = c.self.inside.opened } in
    let new : NodeView g.row.D.Denot = record { kept = holding_of c.answer-told.new.self; rules = c.self.inside.rules; turns = c.keep_turn.new.turns.items; opened = c.self.inside.opened } in
    let reserved : c.make_room.new.turns.items ≡ c.self.inside.turns.items = c.make_room.ensures.turns in
    let counted : c.next_number-turn.result ≡ length c.self.inside.turns.items + 1 = c.next_number-turn.ensures ∙ ap (λ (l : List RxTurn). length l + 1) reserved in
    let call_same : c.in-Ok.copied ≡ c.args.call.now = c.in-Ok.ensures.copied in
    let keeps : KeepsTurn c.self.inside.turns.items c.keep_turn.new.turns.items c.args.link c.args.call.now c.keep_turn.result.result =
    subst (λ call. KeepsTurn c.self.inside.turns.items c.keep_turn.new.turns.items c.args.link call c.keep_turn.result.result) call_same
    (subst (λ (l : List RxTurn). KeepsTurn l c.keep_turn.new.turns.items c.args.link c.in-Ok.copied c.keep_turn.result.result) reserved c.keep_turn.ensures.turns) in
    subst (λ (o : NodeView g.row.D.Denot). Refused g.D.Disk.faults c.args.call.now o new c.keep_turn.result.result) c.self.view_is
    (refused_by c.self.inside.trust old c.self.invariant.trusts (holding_of c.answer-told.new.self) c.keep_turn.new.turns.items c.args.call.now c.answer-told.result c.keep_turn.result.result c.keep_turn.ensures.same
    g.D.Disk.faults c.args.link c.next_number-turn.result counted c.answer-told.ensures.adds c.answer-told.ensures.causes c.answer-told.ensures.broken keeps)

pub returns-in-Ok-clause-files : goal.returns-in-Ok-clause-files
returns-in-Ok-clause-files g c =
    let D = g.D.Disk in
    let old : NodeView g.row.D.Denot = record { kept = holding_of c.self.inside.kept; rules = c.self.inside.rules; turns = c.self.inside.turns.items; opened = c.self.inside.opened } in
    let new : NodeView g.row.D.Denot = record { kept = holding_of c.answer-told.new.self; rules = c.self.inside.rules; turns = c.keep_turn.new.turns.items; opened = c.self.inside.opened } in
    let reserved : c.make_room.new.turns.items ≡ c.self.inside.turns.items = c.make_room.ensures.turns in
    let counted : c.next_number-turn.result ≡ length c.self.inside.turns.items + 1 = c.next_number-turn.ensures ∙ ap (λ (l : List RxTurn). length l + 1) reserved in
    let call_same : c.in-Ok.copied ≡ c.args.call.now = c.in-Ok.ensures.copied in
    let keeps : KeepsTurn c.self.inside.turns.items c.keep_turn.new.turns.items c.args.link c.args.call.now c.keep_turn.result.result =
    subst (λ call. KeepsTurn c.self.inside.turns.items c.keep_turn.new.turns.items c.args.link call c.keep_turn.result.result) call_same
    (subst (λ (l : List RxTurn). KeepsTurn l c.keep_turn.new.turns.items c.args.link c.in-Ok.copied c.keep_turn.result.result) reserved c.keep_turn.ensures.turns) in
    let took : Took D.told D.seen D.may_leave D.moment D.left_since D.stop D.short D.faults old new c.args.call.now c.keep_turn.result.result =
    took_by c.self.inside.trust old c.self.invariant.trusts (holding_of c.answer-told.new.self) c.keep_turn.new.turns.items c.args.call.now c.answer-told.result c.keep_turn.result.result c.keep_turn.ensures.same
    D.faults c.args.link c.next_number-turn.result counted c.answer-told.ensures.adds c.answer-told.ensures.causes c.answer-told.ensures.broken keeps
    D.told D.seen D.may_leave D.moment D.left_since D.stop D.short c.answer-told.ensures.answer c.answer-told.ensures.writes in
    subst (λ (o : NodeView g.row.D.Denot). WritesOne D.told o.kept.store.journal c.answer-told.new.self.store.journal) c.self.view_is
    (one_file D.told D.seen D.may_leave D.moment D.left_since D.stop D.short D.faults old new c.args.call.now c.keep_turn.result.result took)

pub returns-in-Ok-clause-base : goal.returns-in-Ok-clause-base
returns-in-Ok-clause-base g c =
    let D = g.D.Disk in
    let old : NodeView g.row.D.Denot = record { kept = holding_of c.self.inside.kept; rules = c.self.inside.rules; turns = c.self.inside.turns.items; opened = c.self.inside.opened } in
    let new : NodeView g.row.D.Denot = record { kept = holding_of c.answer-told.new.self; rules = c.self.inside.rules; turns = c.keep_turn.new.turns.items; opened = c.self.inside.opened } in
    let reserved : c.make_room.new.turns.items ≡ c.self.inside.turns.items = c.make_room.ensures.turns in
    let counted : c.next_number-turn.result ≡ length c.self.inside.turns.items + 1 = c.next_number-turn.ensures ∙ ap (λ (l : List RxTurn). length l + 1) reserved in
    let call_same : c.in-Ok.copied ≡ c.args.call.now = c.in-Ok.ensures.copied in
    let keeps : KeepsTurn c.self.inside.turns.items c.keep_turn.new.turns.items c.args.link c.args.call.now c.keep_turn.result.result =
    subst (λ call. KeepsTurn c.self.inside.turns.items c.keep_turn.new.turns.items c.args.link call c.keep_turn.result.result) call_same
    (subst (λ (l : List RxTurn). KeepsTurn l c.keep_turn.new.turns.items c.args.link c.in-Ok.copied c.keep_turn.result.result) reserved c.keep_turn.ensures.turns) in
    let took : Took D.told D.seen D.may_leave D.moment D.left_since D.stop D.short D.faults old new c.args.call.now c.keep_turn.result.result =
    took_by c.self.inside.trust old c.self.invariant.trusts (holding_of c.answer-told.new.self) c.keep_turn.new.turns.items c.args.call.now c.answer-told.result c.keep_turn.result.result c.keep_turn.ensures.same
    D.faults c.args.link c.next_number-turn.result counted c.answer-told.ensures.adds c.answer-told.ensures.causes c.answer-told.ensures.broken keeps
    D.told D.seen D.may_leave D.moment D.left_since D.stop D.short c.answer-told.ensures.answer c.answer-told.ensures.writes in
    subst (λ (o : NodeView g.row.D.Denot). base_of new ≡ base_of o) c.self.view_is
    (base_kept D.told D.seen D.may_leave D.moment D.left_since D.stop D.short D.faults old new c.args.link c.args.call.now c.keep_turn.result.result c.self.invariant.history took)
