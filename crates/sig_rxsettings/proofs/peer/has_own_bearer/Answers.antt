use Rattle.std.proofs.Common.{◌∙◌, ap, sym, Err, inl, inr}
use Rattle.sig_rxsettings.specs.Peers as spec
use Rattle.sig_rxsettings.proofs.PeerLemmas.{passed_peer, told_peer}
use Rattle.sig_rxsettings.proofs.peer.has_own_bearer.Goals as goal
use Rattle.sig_rxsettings.proofs.peer.has_own_bearer.Goals.{in_default-via-in-Some+else-was_read, in_default-via-in_default}

pub returns-in-Some : goal.returns-in-Some
returns-in-Some c =
    let told = told_peer c.args.reader.now c.args.principals.now c.in-Some.peer c.was_read.result c.was_read.ensures c.if-was_read.true in
    elim c.wrong_peer.ensures [
      | inl h ↦ inl h
      | inr h ↦ inr (ap (spec.has_own_bearer c.args.reader.now c.args.principals.now) c.in-Some.is ∙ told ∙ ap Err (sym h))
    ]

pub returns-in_default : goal.returns-in_default
returns-in_default c =
    elim c.in_default.branch [
      | in_default-via-in-Some+else-was_read w ↦
          ap (spec.has_own_bearer c.args.reader.now c.args.principals.now) w.in-Some.is
          ∙ passed_peer c.args.reader.now c.args.principals.now w.in-Some.peer w.was_read.result w.was_read.ensures w.if-was_read.false
      | in_default-via-in_default w ↦ ap (spec.has_own_bearer c.args.reader.now c.args.principals.now) w.in_default.is
    ]
