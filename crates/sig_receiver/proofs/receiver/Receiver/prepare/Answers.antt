use Rattle.std.proofs.Common.{◌≡◌, ◌∙◌, ap, sym, subst, [], option_copied}
use Rattle.std.specs.Prelude.{IfOk}
use Rattle.sig_receiver.specs.declared.hearing.Hearing.{Hearing}
use Rattle.sig_receiver.specs.Journal.{journal_by}
use Rattle.sig_receiver.specs.Receiver.{IsHearing, Received, committed_if, heard_at, received, received_of}
use Rattle.sig_receiver.proofs.KeptLemmas.{hearing_makes, of_claims, of_heard, of_refusal, where_ok}
use Rattle.sig_receiver.proofs.receiver.Receiver.prepare.Goals as goal

pub returns-in-Ok-clause-heard : goal.returns-in-Ok-clause-heard
returns-in-Ok-clause-heard c =
    let state : Received = received c.args.self.now in
    let held : Received = record { pairs = c.self.inside.seen.pairs; rows = c.self.inside.table.rows } in
    let same : held ≡ state = ap received c.self.view_is in
    where_ok (IsHearing c.prepare_valid.new.self state c.in-Ok.claims)
    (λ (hearing : Hearing). hearing.heard ≡ heard_at c.args.trust.now (option_copied c.args.principal) (option_copied c.args.named) state c.args.text.now)
    c.prepare_valid.result (λ hearing h. h.heard ∙ of_heard _ _ c.in-Ok.claims state.pairs c.in-Ok.ensures)
    (subst (λ (s : Received). IfOk c.prepare_valid.result (IsHearing c.prepare_valid.new.self s c.in-Ok.claims)) same c.prepare_valid.ensures.told)

pub returns-in-Ok-clause-makes : goal.returns-in-Ok-clause-makes
returns-in-Ok-clause-makes c =
    let state : Received = received c.args.self.now in
    let held : Received = record { pairs = c.self.inside.seen.pairs; rows = c.self.inside.table.rows } in
    let same : held ≡ state = ap received c.self.view_is in
    where_ok (IsHearing c.prepare_valid.new.self state c.in-Ok.claims)
    (λ (hearing : Hearing). committed_if hearing.change state ≡ received_of state (journal_by hearing.heard [] c.args.text.now))
    c.prepare_valid.result
    (λ hearing h. h.makes ∙ hearing_makes state c.args.text.now c.in-Ok.claims (of_claims _ _ c.in-Ok.claims c.in-Ok.ensures)
    ∙ ap (λ a. received_of state (journal_by a [] c.args.text.now)) (sym h.heard))
    (subst (λ (s : Received). IfOk c.prepare_valid.result (IsHearing c.prepare_valid.new.self s c.in-Ok.claims)) same c.prepare_valid.ensures.told)

pub returns-in-Err-Coded-clause-heard : goal.returns-in-Err-Coded-clause-heard
returns-in-Err-Coded-clause-heard c = of_refusal _ _ _ c.args.self.now.pairs (rw c.in-Err-Coded.field-0-is at c.in-Err-Coded.ensures)
