use Rattle.std.proofs.Common.{◌≡◌, ◌∙◌, ◌+◌, ◌++◌, refl, subst, ap, rules, ℕ, length}
use Rattle.std.specs.Option.{option_to_list}
use Rattle.sig_calls.specs.Table.{change_of}
use Rattle.sig_txnode.specs.Answering.{Answered, answer_at, time_used, when_ok}
use Rattle.sig_txnode.specs.Node.{NodeView}
use Rattle.sig_txnode.specs.Taken.{Kept, Lasts, Refused}
use Rattle.sig_txnode.specs.Turns.{with_turn}
use Rattle.sig_txnode.proofs.NodeLemmas.{added_end, node_kept, same_node}
use Rattle.sig_txnode.proofs.node.TxNode.take_kept.Goals as goal

pub invariant_of-self : goal.invariant_of-self
invariant_of-self g c =
    let D = g.D.Disk in
    node_kept D.told D.seen D.may_leave D.faults _ c.self.invariant c.take_turn.new.held.store c.take_turn.new.held.outbox.sum
    c.args.link c.args.call.now c.min.result c.take_turn.result.result c.take_turn.new.held.entries.items c.take_turn.new.held.turns.items
    (record {
      proper = c.requires;
      answered = c.take_turn.ensures.answered;
      refused = c.take_turn.ensures.refused;
      added = added_end D.faults c.self.inside.held.store c.take_turn.new.held.store c.self.inside.held.turns.items D.told D.seen D.may_leave (change_of c.self.inside.rules c.self.inside.held.outbox.sum c.args.call.now c.min.result) c.take_turn.result.result
          c.take_turn.ensures.lasts.idle c.take_turn.ensures.lasts.added;
      kind = c.take_turn.ensures.lasts.files.kind ∙ c.self.invariant.kind;
      stands = c.take_turn.ensures.stands;
    })
    c.take_turn.ensures.entries c.take_turn.ensures.turns

pub returns-clause-answered : goal.returns-clause-answered
returns-clause-answered g c =
    let time : c.min.result ≡ time_used c.args.now = search rules in
    subst (λ (k : NodeView g.row.D.Denot). Answered (answer_at k.rules k.state k.store.journal.end c.args.call.now (time_used c.args.now)) (change_of k.rules k.state c.args.call.now (time_used c.args.now)) k.store.broken_at k.state c.take_turn.new.held.outbox.sum c.take_turn.result.result) c.self.view_is
    (subst (λ (t : ℕ). Answered (answer_at c.self.inside.rules c.self.inside.held.outbox.sum c.self.inside.held.store.journal.end c.args.call.now t) (change_of c.self.inside.rules c.self.inside.held.outbox.sum c.args.call.now t) c.self.inside.held.store.broken_at c.self.inside.held.outbox.sum c.take_turn.new.held.outbox.sum c.take_turn.result.result) time
    c.take_turn.ensures.answered)

pub returns-clause-kept : goal.returns-clause-kept
returns-clause-kept g c =
    let time : c.min.result ≡ time_used c.args.now = search rules in
    let new : NodeView g.row.D.Denot = record { store = c.take_turn.new.held.store; rules = c.self.inside.rules; state = c.take_turn.new.held.outbox.sum; base = c.self.inside.base.value.sum; entries = c.take_turn.new.held.entries.items; turns = c.take_turn.new.held.turns.items } in
    subst (λ (k : NodeView g.row.D.Denot). Kept k new c.args.link c.args.call.now (time_used c.args.now) c.take_turn.result.result) c.self.view_is
    (record {
      turns = c.take_turn.ensures.turns ∙ ap (λ (t : ℕ). with_turn c.self.inside.held.turns.items c.args.link c.args.call.now t c.take_turn.result.result) time;
      entries = c.take_turn.ensures.entries ∙ ap (λ (t : ℕ). c.self.inside.held.entries.items ++ option_to_list (when_ok c.take_turn.result.result (change_of c.self.inside.rules c.self.inside.held.outbox.sum c.args.call.now t))) time;
      rules = refl;
      base = refl;
    })

pub returns-clause-turn : goal.returns-clause-turn
returns-clause-turn g c =
    subst (λ (k : NodeView g.row.D.Denot). c.take_turn.new.held.turns.items ≡ k.turns ++ option_to_list c.take_turn.result.turn) c.self.view_is c.take_turn.ensures.turn

pub returns-clause-lasts : goal.returns-clause-lasts
returns-clause-lasts g c =
    let D = g.D.Disk in
    let time : c.min.result ≡ time_used c.args.now = search rules in
    subst (λ (k : NodeView g.row.D.Denot). Lasts D.told D.seen D.may_leave D.moment D.left_since D.stop D.short k.store c.take_turn.new.held.store k.state (change_of k.rules k.state c.args.call.now (time_used c.args.now)) c.take_turn.result.result) c.self.view_is
    (subst (λ (t : ℕ). Lasts D.told D.seen D.may_leave D.moment D.left_since D.stop D.short c.self.inside.held.store c.take_turn.new.held.store c.self.inside.held.outbox.sum (change_of c.self.inside.rules c.self.inside.held.outbox.sum c.args.call.now t) c.take_turn.result.result) time
    c.take_turn.ensures.lasts)

pub returns-clause-refused : goal.returns-clause-refused
returns-clause-refused g c =
    subst (λ (k : NodeView g.row.D.Denot). Refused g.D.Disk.faults k.store c.take_turn.new.held.store (length k.turns + 1) c.take_turn.result.result) c.self.view_is c.take_turn.ensures.refused

pub returns-clause-memory : goal.returns-clause-memory
returns-clause-memory g c = λ is.
    let old : NodeView g.row.D.Denot = record { store = c.self.inside.held.store; rules = c.self.inside.rules; state = c.self.inside.held.outbox.sum; base = c.self.inside.base.value.sum; entries = c.self.inside.held.entries.items; turns = c.self.inside.held.turns.items } in
    same_node old c.take_turn.new.held.store c.take_turn.new.held.outbox.sum c.take_turn.new.held.entries.items c.take_turn.new.held.turns.items (change_of old.rules old.state c.args.call.now c.min.result) c.args.link c.args.call.now c.min.result c.take_turn.result.result
    is (c.take_turn.ensures.refused.memory is) c.take_turn.ensures.answered.state c.take_turn.ensures.entries c.take_turn.ensures.turns ∙ c.self.view_is
