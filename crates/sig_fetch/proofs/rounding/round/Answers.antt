use Rattle.std.proofs.Common.{rules, ◌≡◌, ◌∙◌, ap, subst, Bool, List, Ok, Err}
use Rattle.sig_delivery.specs.declared.sets.Listed.{Listed}
use Rattle.sig_fetch.specs.Asks.{reports}
use Rattle.sig_fetch.specs.Fetching.{Taken}
use Rattle.sig_fetch.specs.Rounds.{lists}
use Rattle.sig_fetch.proofs.OneRound.{as_poll, counts_page, counts_read, counts_taken, goes_halted, goes_unread, goes_whole, halts_outside, page_outside}
use Rattle.sig_fetch.proofs.rounding.round.Goals as goal

pub returns-in_err-page-clause-goes : goal.returns-in_err-page-clause-goes
returns-in_err-page-clause-goes g c =
    let is : c.from_residual-in_err-page.result ≡ Err c.in_err-page.field-0.0 = search rules in
    rw is (goes_unread c.args.peer.now c.args.what.now c.ask-answer.result c.in_err-page.field-0.0 _ _ _ _ _ c.args.node.now (record {
      place = c.args.place.now;
      leads = c.requires.place;
      sends = as_poll c.args.peer.now c.args.what.now c.args.place.now _ _ c.ask-answer.result _ _ c.in_ok-request.ensures (c.reports-english.ensures ∙ ap reports c.as_slice.ensures) c.ask-answer.ensures.sends;
      hears = c.ask-answer.ensures.hears;
    }) c.in_err-page.ensures)

pub returns-in_err-page-clause-halts : goal.returns-in_err-page-clause-halts
returns-in_err-page-clause-halts g c =
    let is : c.from_residual-in_err-page.result ≡ Err c.in_err-page.field-0.0 = search rules in
    rw is (halts_outside _ _ c.args.node.now c.in_err-page.field-0.0 (page_outside c.ask-answer.result c.in_err-page.field-0.0 c.in_err-page.ensures))

pub returns-in_err-page-clause-counts : goal.returns-in_err-page-clause-counts
returns-in_err-page-clause-counts g c =
    let is : c.from_residual-in_err-page.result ≡ Err c.in_err-page.field-0.0 = search rules in
    rw is (counts_page Bool c.ask-answer.result c.in_err-page.field-0.0 _ _ c.in_err-page.ensures c.ask-answer.ensures.counts)

pub returns-in_err-take_all-clause-goes : goal.returns-in_err-take_all-clause-goes
returns-in_err-take_all-clause-goes g c =
    let is : c.from_residual-in_err-take_all.result ≡ Err c.in_err-take_all.field-0.0 = search rules in
    rw is (goes_halted c.args.peer.now c.args.what.now c.ask-answer.result c.in_ok-page.page c.in_err-take_all.field-0.0 _ _ _ _ c.args.turns.now.items c.take_all.new.turns.items c.args.node.now c.take_all.new.node (record {
      place = c.args.place.now;
      leads = c.requires.place;
      sends = as_poll c.args.peer.now c.args.what.now c.args.place.now _ _ c.ask-answer.result _ _ c.in_ok-request.ensures (c.reports-english.ensures ∙ ap reports c.as_slice.ensures) c.ask-answer.ensures.sends;
      hears = c.ask-answer.ensures.hears;
    }) c.in_ok-page.ensures (subst (λ (ls : List Listed). Taken c.args.peer.now ls c.args.turns.now.items c.take_all.new.turns.items c.args.node.now c.take_all.new.node (Err c.in_err-take_all.field-0.0)) c.as_slice-2.ensures c.in_err-take_all.ensures.taken))

pub returns-in_err-take_all-clause-counts : goal.returns-in_err-take_all-clause-counts
returns-in_err-take_all-clause-counts g c =
    let is : c.from_residual-in_err-take_all.result ≡ Err c.in_err-take_all.field-0.0 = search rules in
    rw is (counts_taken Bool c.args.peer.now _ _ c.in_err-take_all.field-0.0 _ _ c.in_err-take_all.ensures.taken.takes
    (counts_read c.ask-answer.result c.in_ok-page.page _ _ c.in_ok-page.ensures c.ask-answer.ensures.counts))

pub returns-clause-goes : goal.returns-clause-goes
returns-clause-goes g c =
    goes_whole c.args.peer.now c.args.what.now c.ask-answer.result c.in_ok-page.page c.lists.result _ _ _ _ c.args.turns.now.items c.take_all.new.turns.items c.args.node.now c.take_all.new.node (record {
      place = c.args.place.now;
      leads = c.requires.place;
      sends = as_poll c.args.peer.now c.args.what.now c.args.place.now _ _ c.ask-answer.result _ _ c.in_ok-request.ensures (c.reports-english.ensures ∙ ap reports c.as_slice.ensures) c.ask-answer.ensures.sends;
      hears = c.ask-answer.ensures.hears;
    }) c.in_ok-page.ensures (subst (λ (ls : List Listed). Taken c.args.peer.now ls c.args.turns.now.items c.take_all.new.turns.items c.args.node.now c.take_all.new.node (Ok tt)) c.as_slice-2.ensures c.in_ok-take_all.ensures.taken)
    (c.lists.ensures ∙ ap lists c.as_slice-3.ensures)
