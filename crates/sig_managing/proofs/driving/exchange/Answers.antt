use Rattle.std.proofs.Common.{rules, ◌≡◌, ap, sym, subst, refl, Option, Some, Ok, Err, List, ℕ}
use Rattle.std.specs.Prelude.{false}
use Rattle.sig_command.specs.Moment.{output_state}
use Rattle.sig_http.specs.Spelling.{request_spelling}
use Rattle.sig_http.specs.declared.message.Request.{Request}
use Rattle.sig_dial.specs.Asked as dialled
use Rattle.sig_links.specs.Views.{SideView}
use Rattle.sig_manager.specs.Exchange.{next_of, step_of}
use Rattle.sig_managing.specs.Asks.{body_kind, request_text}
use Rattle.sig_managing.specs.Drives.{CountsFaults}
use Rattle.sig_managing.specs.Exchanges.{IsTaken}
use Rattle.sig_managing.specs.Steps.{PutsLine, line_by}
use Rattle.sig_managing.specs.declared.counts.Change.{Change}
use Rattle.sig_managing.specs.declared.fault.DriveFault.TheVariants.{Output}
use Rattle.sig_managing.proofs.OneStep.{counts_fault, put, stopped, untaken}
use Rattle.sig_managing.proofs.driving.exchange.Goals as goal

pub returns-in_err-heard-clause-asks : goal.returns-in_err-heard-clause-asks
returns-in_err-heard-clause-asks g c =
    let residual : c.from_residual-in_err-heard.result ≡ Err c.in_err-heard.field-0.0 = search rules in
    let same : c.hear-heard.new.manager ≡ c.args.manager.now = search rules in
    let next : next_of c.args.manager.now ≡ Some c.in-Some.request = search rules in
    let text : request_spelling c.args.provider.now.endpoint.place c.in_ok-request-2.request body_kind false ≡ request_text c.args.provider.now c.in-Some.request =
    ap (λ (r : Request). request_spelling c.args.provider.now.endpoint.place r body_kind false) c.in_ok-request-2.ensures in
    let taken : IsTaken c.args.manager.now c.ask-answer.result (Err c.in_err-heard.field-0.0) = search rules in
    rw residual (untaken c.args.provider.now c.args.place.now c.requires.place c.args.manager.now c.hear-heard.new.manager c.in-Some.request c.ask-answer.result
    (g.S.Side.view c.args.side.now) (g.S.Side.view c.ask-answer.new.side) (g.S.Side.view c.note_status.new.side) c.note_status.ensures next
    (subst (λ (t : List ℕ). dialled.Sends c.args.place.now t (g.S.Side.view c.args.side.now).sent (g.S.Side.view c.ask-answer.new.side).sent c.ask-answer.result) text c.ask-answer.ensures.sends)
    c.ask-answer.ensures.hears c.in_err-heard.field-0.0 _ same taken)

pub returns-in_err-heard-clause-counts : goal.returns-in_err-heard-clause-counts
returns-in_err-heard-clause-counts g c =
    let residual : c.from_residual-in_err-heard.result ≡ Err c.in_err-heard.field-0.0 = search rules in
    let taken : IsTaken c.args.manager.now c.ask-answer.result (Err c.in_err-heard.field-0.0) = search rules in
    rw residual (subst (λ (v : SideView). CountsFaults {T = Option Change} (g.S.Side.view c.args.side.now).faults v.faults (Err c.in_err-heard.field-0.0)) (sym c.note_status.ensures)
    (counts_fault (Option Change) c.args.manager.now c.ask-answer.result _ _ c.in_err-heard.field-0.0 taken c.ask-answer.ensures.counts))

pub returns-in_err-put_line-clause-asks : goal.returns-in_err-put_line-clause-asks
returns-in_err-put_line-clause-asks g c =
    let residual : c.from_residual-in_err-put_line.result ≡ Err c.in_err-put_line.field-0.0 = search rules in
    let next : next_of c.args.manager.now ≡ Some c.in-Some.request = search rules in
    let text : request_spelling c.args.provider.now.endpoint.place c.in_ok-request-2.request body_kind false ≡ request_text c.args.provider.now c.in-Some.request =
    ap (λ (r : Request). request_spelling c.args.provider.now.endpoint.place r body_kind false) c.in_ok-request-2.ensures in
    let taken : IsTaken c.args.manager.now c.ask-answer.result (Ok c.hear-heard.new.manager) = search rules in
    let line : c.in_ok-telling.telling.line ≡ line_by (step_of c.args.manager.now) = search rules in
    let output : c.in_err-put_line.field-0.0 ≡ Output = search rules in
    let puts : PutsLine (Err Output) c.in_ok-telling.telling.line (output_state (g.O.Sink.written c.args.output.now) (g.O.Sink.faults c.args.output.now) (g.O.Sink.stalls c.args.output.now))
    (output_state (g.O.Sink.written c.put_line.new.output) (g.O.Sink.faults c.put_line.new.output) (g.O.Sink.stalls c.put_line.new.output)) = search rules in
    rw (residual, output) (stopped c.args.provider.now c.args.place.now c.requires.place c.args.manager.now c.hear-heard.new.manager c.in-Some.request c.ask-answer.result
    (g.S.Side.view c.args.side.now) (g.S.Side.view c.ask-answer.new.side) (g.S.Side.view c.note_status.new.side) c.note_status.ensures next
    (subst (λ (t : List ℕ). dialled.Sends c.args.place.now t (g.S.Side.view c.args.side.now).sent (g.S.Side.view c.ask-answer.new.side).sent c.ask-answer.result) text c.ask-answer.ensures.sends)
    c.ask-answer.ensures.hears c.hear-heard.new.manager c.in_ok-telling.telling.line _ _ refl taken line puts)

pub returns-clause-asks : goal.returns-clause-asks
returns-clause-asks g c =
    let next : next_of c.args.manager.now ≡ Some c.in-Some.request = search rules in
    let text : request_spelling c.args.provider.now.endpoint.place c.in_ok-request-2.request body_kind false ≡ request_text c.args.provider.now c.in-Some.request =
    ap (λ (r : Request). request_spelling c.args.provider.now.endpoint.place r body_kind false) c.in_ok-request-2.ensures in
    let taken : IsTaken c.args.manager.now c.ask-answer.result (Ok c.hear-heard.new.manager) = search rules in
    let line : c.in_ok-telling.telling.line ≡ line_by (step_of c.args.manager.now) = search rules in
    let puts : PutsLine (Ok tt) c.in_ok-telling.telling.line (output_state (g.O.Sink.written c.args.output.now) (g.O.Sink.faults c.args.output.now) (g.O.Sink.stalls c.args.output.now))
    (output_state (g.O.Sink.written c.put_line.new.output) (g.O.Sink.faults c.put_line.new.output) (g.O.Sink.stalls c.put_line.new.output)) = search rules in
    put c.args.provider.now c.args.place.now c.requires.place c.args.manager.now c.hear-heard.new.manager c.in-Some.request c.ask-answer.result
    (g.S.Side.view c.args.side.now) (g.S.Side.view c.ask-answer.new.side) (g.S.Side.view c.note_status.new.side) c.note_status.ensures next
    (subst (λ (t : List ℕ). dialled.Sends c.args.place.now t (g.S.Side.view c.args.side.now).sent (g.S.Side.view c.ask-answer.new.side).sent c.ask-answer.result) text c.ask-answer.ensures.sends)
    c.ask-answer.ensures.hears c.hear-heard.new.manager c.in_ok-telling.telling.line c.in_ok-telling.telling.change _ _ refl taken line puts
