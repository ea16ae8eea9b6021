use Rattle.std.proofs.Common.{rules, ◌≡◌, ◌∙◌, ◌++◌, ap, refl, List, Err}
use Rattle.std.specs.Option.{option_to_list}
use Rattle.sig_rxnode.specs.declared.turn.RxTurn.{RxTurn}
use Rattle.sig_fetch.specs.declared.fault.FetchFault.TheVariants.{Memory}
use Rattle.sig_fetch.proofs.Halting.{halts_turn}
use Rattle.sig_fetch.proofs.TakenLemmas.{starved_halts, taken_one, taken_starved}
use Rattle.sig_fetch.proofs.taking.take_one.Goals as goal

pub returns-in_err-call-clause-taken : goal.returns-in_err-call-clause-taken
returns-in_err-call-clause-taken g c =
    let is : c.from_residual.result ≡ Err Memory = search rules in
    rw is (taken_starved c.args.peer.now c.args.token.now _ _ c.args.node.now refl)

pub returns-in_err-call-clause-halts : goal.returns-in_err-call-clause-halts
returns-in_err-call-clause-halts g c =
    let is : c.from_residual.result ≡ Err Memory = search rules in
    rw is (starved_halts _ _ c.args.node.now)

pub returns-in_err-reserve-clause-taken : goal.returns-in_err-reserve-clause-taken
returns-in_err-reserve-clause-taken g c =
    let is : c.from_residual-in_err-reserve.result ≡ Err Memory = search rules in
    rw is (taken_starved c.args.peer.now c.args.token.now _ _ c.args.node.now c.in_err-reserve.ensures.items)

pub returns-in_err-reserve-clause-halts : goal.returns-in_err-reserve-clause-halts
returns-in_err-reserve-clause-halts g c =
    let is : c.from_residual-in_err-reserve.result ≡ Err Memory = search rules in
    rw is (starved_halts _ _ c.args.node.now)

pub returns-clause-taken : goal.returns-clause-taken
returns-clause-taken g c =
    rw c.ended_by.ensures
    (taken_one c.args.peer.now c.args.token.now c.in_ok-call.call _ _ _ _ c.take_kept-taken.result.result _ (record {
      call = c.in_ok-call.ensures;
      answered = c.take_kept-taken.ensures.answered;
      turns = c.take_kept-taken.ensures.turns;
      turn = c.take_kept-taken.ensures.turn;
      put = c.put_turn.ensures ∙ ap (λ (l : List RxTurn). l ++ option_to_list c.take_kept-taken.result.turn) c.in_ok-reserve.ensures.items;
      opened = c.take_kept-taken.ensures.opened;
      base = c.take_kept-taken.ensures.base;
      memory = c.take_kept-taken.ensures.refused.memory;
    }))

pub returns-clause-halts : goal.returns-clause-halts
returns-clause-halts g c =
    rw c.ended_by.ensures
    (halts_turn _ _ _ _ _ _ _ _ c.in_ok-call.call _ _ c.take_kept-taken.result.result (record {
      answered = c.take_kept-taken.ensures.answered;
      turn = c.take_kept-taken.ensures.turns;
      writes = c.take_kept-taken.ensures.writes;
      refused = c.take_kept-taken.ensures.refused;
      files = c.take_kept-taken.ensures.files;
      opened = c.take_kept-taken.ensures.opened;
    }))
