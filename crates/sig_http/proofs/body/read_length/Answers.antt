use Rattle.std.proofs.Common.{◌≡◌, ◌<◌, ◌≤◌, ◌∙◌, Err, length, refl, arith, rules}
use Rattle.sig_http.proofs.PieceLemmas.{draws_then, halts_fault, halts_tally}
use Rattle.sig_http.proofs.TakingLemmas.{drawn_none, drawn_on, drawn_takes}
use Rattle.sig_http.proofs.BodyLemmas.{length_ends, length_cut, length_open}
use Rattle.sig_http.proofs.body.read_length.Goals as goal

pub pieces-init : goal.pieces-init
pieces-init g c = record { awaits = drawn_none _ _ _; few = omega arith; beside = refl; steady = refl }

pub returns-in_err-take_piece-clause-refused : goal.returns-in_err-take_piece-clause-refused
returns-in_err-take_piece-clause-refused g c =
    let is : c.from_residual.result ≡ Err c.in_err-take_piece.field-0.0 = search rules in
    rw is (λ limit. halts_fault c.in_err-take_piece.field-0.0 _ _ _ _ c.in_err-take_piece.ensures.halts)

pub returns-in_err-take_piece-clause-tally : goal.returns-in_err-take_piece-clause-tally
returns-in_err-take_piece-clause-tally g c =
    let is : c.from_residual.result ≡ Err c.in_err-take_piece.field-0.0 = search rules in
    rw is (halts_tally c.in_err-take_piece.field-0.0 _ _ _ c.pieces.invariant.steady c.in_err-take_piece.ensures.halts)

pub returns-then-branch-eq0-clause-refused : goal.returns-then-branch-eq0-clause-refused
returns-then-branch-eq0-clause-refused g c =
    let piece = c.in_ok-take_piece.ensures.piece in
    let short : length c.take_piece.new.bytes.items < c.args.count = omega (arith, piece.count) in
    λ limit. length_cut limit c.args.count _ c.take_piece.new.bytes.items _ _ (draws_then _ c.pieces.content.items _ _ _ _ c.pieces.invariant.awaits.draws c.in_ok-take_piece.ensures.draws) short (piece.ends c.if-branch-eq0.true)

pub pieces-preserved : goal.pieces-preserved
pieces-preserved g c =
    let before = c.pieces.invariant in
    record {
      awaits = drawn_on _ _ c.pieces.content.items _ _ _ _ before.awaits (length_open c.args.count c.pieces.content.items (omega arith)) c.in_ok-take_piece.ensures.draws c.in_ok-take_piece.ensures.few;
      few = omega (arith, c.in_ok-take_piece.ensures.piece.count, c.in_ok-take_piece.ensures.piece.bound);
      beside = c.in_ok-take_piece.ensures.beside ∙ before.beside;
      steady = c.in_ok-take_piece.ensures.steady ∙ before.steady;
    }

pub returns-clause-body : goal.returns-clause-body
returns-clause-body g c =
    let enough : c.args.count ≤ length c.pieces.content.items = omega arith in
    λ limit. length_ends limit c.args.count _ c.pieces.content.items _ _ _ c.pieces.invariant.awaits.draws enough c.in_ok-rest.ensures.items c.in_ok-rest.ensures.tail

pub returns-in_err-take_piece-clause-awaits : goal.returns-in_err-take_piece-clause-awaits
returns-in_err-take_piece-clause-awaits g c =
    λ limit. drawn_takes _ _ _ _ _ (drawn_on _ _ c.pieces.content.items _ _ _ _ c.pieces.invariant.awaits (length_open c.args.count c.pieces.content.items (omega arith)) c.in_err-take_piece.ensures.draws c.in_err-take_piece.ensures.few)
