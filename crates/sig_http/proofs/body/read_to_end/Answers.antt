use Rattle.std.proofs.Common.{◌≡◌, ◌≤◌, ◌∙◌, Err, length, refl, arith, rules}
use Rattle.sig_http.proofs.PieceLemmas.{draws_then, halts_fault, halts_tally}
use Rattle.sig_http.proofs.TakingLemmas.{drawn_none, drawn_on, drawn_takes}
use Rattle.sig_http.proofs.BodyLemmas.{end_ends, end_breaks}
use Rattle.sig_http.proofs.body.read_to_end.Goals as goal

pub pieces-init : goal.pieces-init
pieces-init g c = record { awaits = drawn_none _ _ _; beside = refl; steady = refl }

pub returns-in_err-take_piece-clause-refused : goal.returns-in_err-take_piece-clause-refused
returns-in_err-take_piece-clause-refused g c =
    let is : c.from_residual.result ≡ Err c.in_err-take_piece.field-0.0 = search rules in
    rw is (halts_fault c.in_err-take_piece.field-0.0 _ _ _ _ c.in_err-take_piece.ensures.halts)

pub returns-in_err-take_piece-clause-tally : goal.returns-in_err-take_piece-clause-tally
returns-in_err-take_piece-clause-tally g c =
    let is : c.from_residual.result ≡ Err c.in_err-take_piece.field-0.0 = search rules in
    rw is (halts_tally c.in_err-take_piece.field-0.0 _ _ _ c.pieces.invariant.steady c.in_err-take_piece.ensures.halts)

pub returns-then-branch-eq0-clause-body : goal.returns-then-branch-eq0-clause-body
returns-then-branch-eq0-clause-body g c =
    let piece = c.in_ok-take_piece.ensures.piece in
    let few : length c.take_piece.new.bytes.items ≤ c.args.limit = omega (arith, piece.count) in
    end_ends c.args.limit _ _ _ _ (draws_then _ c.pieces.content.items _ _ _ _ c.pieces.invariant.awaits.draws c.in_ok-take_piece.ensures.draws) few (piece.ends c.if-branch-eq0.true) (search rules)

pub pieces-preserved : goal.pieces-preserved
pieces-preserved g c =
    let before = c.pieces.invariant in
    record {
      awaits = drawn_on _ _ c.pieces.content.items _ _ _ _ before.awaits (omega arith) c.in_ok-take_piece.ensures.draws c.in_ok-take_piece.ensures.few;
      beside = c.in_ok-take_piece.ensures.beside ∙ before.beside;
      steady = c.in_ok-take_piece.ensures.steady ∙ before.steady;
    }

pub returns : goal.returns
returns g c = record {
  body = tt;
  bound = tt;
  awaits = drawn_takes _ _ c.pieces.content.items _ _ c.pieces.invariant.awaits;
  refused = end_breaks c.args.limit _ c.pieces.content.items _ _ c.pieces.invariant.awaits.draws (omega arith);
  tally = c.pieces.invariant.steady;
  steady = tt;
  beside = c.pieces.invariant.beside;
}

pub returns-in_err-take_piece-clause-awaits : goal.returns-in_err-take_piece-clause-awaits
returns-in_err-take_piece-clause-awaits g c =
    drawn_takes _ _ _ _ _ (drawn_on _ _ c.pieces.content.items _ _ _ _ c.pieces.invariant.awaits (omega arith) c.in_err-take_piece.ensures.draws c.in_err-take_piece.ensures.few)
